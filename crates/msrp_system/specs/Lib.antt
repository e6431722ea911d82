pub mod Systems
pub mod Inside
