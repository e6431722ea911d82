pub mod Deaf
pub mod Nested
