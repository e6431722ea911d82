pub mod Common
pub mod Causing
pub mod Exercising
pub mod Noting
pub mod Locking
