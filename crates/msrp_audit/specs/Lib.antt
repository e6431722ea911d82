pub mod Foresight
pub mod Audits
pub mod Inside
