-- Words of the tables. No public contract speaks of them.
pub mod Views
