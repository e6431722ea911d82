pub mod Answered
pub mod CheckRecords
pub mod Judging
pub mod RowsJudged
pub mod NamedRows
mod KnownTexts
mod KeptTexts
mod NextRows
pub mod SimAnswers
pub mod Reporting
pub mod Gathering
