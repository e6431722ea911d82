-- One row: what makes it legal, and which of the rows before it that depends on.
pub mod SameRow
pub mod LegalRows
pub mod Aheads
pub mod Locality
pub mod ReplyLocality
