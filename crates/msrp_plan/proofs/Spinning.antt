-- How often a job spins while it waits for a global resource.
pub mod SectionWork
pub mod QueueWork
pub mod Spins
pub mod SpinBound
