-- Definitions for private functions. No public contract uses them.
pub mod Gathered
pub mod Known
pub mod Kept
pub mod Texts
