pub mod Records
pub mod Warnings
