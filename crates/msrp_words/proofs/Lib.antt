pub mod Grammar
pub mod Found
