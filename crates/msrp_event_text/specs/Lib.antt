pub mod Numbers
pub mod LogEvents
pub mod LogVerdicts
pub mod Losses
pub mod Decisions
pub mod StateTexts
pub mod Windows
