pub mod Common
pub mod Answering
pub mod Explaining
pub mod ReadThrough
