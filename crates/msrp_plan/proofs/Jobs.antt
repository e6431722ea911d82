-- Jobs: which job a row is of, how far a job is, which jobs a task and a core have, in which order.
pub mod JobTests
pub mod States
pub mod JobLists
pub mod CoreJobs
pub mod Releases
pub mod Keys
