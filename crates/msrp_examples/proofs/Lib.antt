pub mod GoingOn
pub mod Legal
