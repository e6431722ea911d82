pub mod Inputs
pub mod Arguments
