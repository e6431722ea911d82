pub mod Noted
pub mod Causes
