pub mod Common
pub mod Lines
pub mod ReportText
pub mod Examples
pub mod Inside
pub mod Reports
