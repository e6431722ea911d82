pub mod LogJobs
pub mod States
pub mod StartStates
pub mod Auditors
pub mod Examples
