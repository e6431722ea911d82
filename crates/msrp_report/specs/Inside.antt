pub mod Counts
pub mod Numbers
pub mod Totals
pub mod Tallies
