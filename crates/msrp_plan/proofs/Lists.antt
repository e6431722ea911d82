-- Facts on lists that the kit's library lacks.
pub mod AnyAll
pub mod Filters
pub mod Ranges
pub mod Least
pub mod LeastKept
pub mod Prefixes
pub mod Members
pub mod Apart
