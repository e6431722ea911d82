-- What the rules of a turn come to: no job runs before its release, no core idles while it has
-- work, jobs start in the order of their deadlines, and a run goes on in every order of turns.
pub mod Released
pub mod Conservation
pub mod DeadlineOrder
pub mod Waiters
pub mod NextRow
pub mod Orders
pub mod Stretches
