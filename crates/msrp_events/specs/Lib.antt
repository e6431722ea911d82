pub mod LiveJobs
pub mod Choices
pub mod Changes
pub mod Rules
pub mod Findings
pub mod Laws
pub mod Examples
