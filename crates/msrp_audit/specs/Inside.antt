-- Definitions for the audit in pieces. No public contract uses them.
pub mod Pieces
pub mod Replies
pub mod SmallRows
pub mod Walks
