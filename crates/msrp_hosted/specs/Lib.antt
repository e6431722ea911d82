pub mod Hosted
pub mod Inside
