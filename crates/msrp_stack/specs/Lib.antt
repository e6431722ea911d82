pub mod Stack
pub mod Layers
pub mod StackView
