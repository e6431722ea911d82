pub mod Times
pub mod Firsts
pub mod Following
pub mod Accepted
pub mod Moving
pub mod Feeding
pub mod StartFacts
