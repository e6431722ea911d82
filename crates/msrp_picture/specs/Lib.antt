pub mod Types
pub mod Rows
pub mod Blocks
pub mod Shapes
