-- Who holds a resource: at most one job does, and a started job waits for no local one.
pub mod Users
pub mod Holders
pub mod LocalLocks
pub mod Exclusion
