pub mod Common
pub mod BrokenRuns
pub mod Ports
pub mod Turns
pub mod Work
pub mod Threads
