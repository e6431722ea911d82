-- How the calls of the builder make a well-formed plan.
pub mod Stored
pub mod Faultless
pub mod Scan
pub mod Drafts
pub mod Finished
pub mod AcceptedPlans
