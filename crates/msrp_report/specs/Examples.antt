-- Plans small enough to follow by hand, each with a run; `src/worked.rt` has their reports.
pub mod ThreeWaits
pub mod ThreeBlockedJobs
pub mod TwoSpinningJobs
