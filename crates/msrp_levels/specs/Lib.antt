pub mod Users
pub mod Footprints
pub mod Usage
pub mod Outermost
pub mod LevelsView
