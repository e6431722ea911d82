-- Definitions for private functions and stored plans. No public contract uses them.
pub mod Tasks
pub mod Users
pub mod Views
pub mod Marks
