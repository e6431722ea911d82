pub mod Common
pub mod Growing
