pub mod LongDigits
pub mod LeftRecords
pub mod Losses
pub mod Decided
pub mod Starting
pub mod Windows
