pub mod Common
pub mod HeldUnits
pub mod Choices
pub mod Steps
pub mod Running
pub mod Acting
pub mod Turning
mod Repeating
mod Copying
