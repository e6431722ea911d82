pub mod Common
-- lists, read in the other direction, and what seats hold between them
pub mod Lists
pub mod Sharing
-- the history of a resource
pub mod Queue
pub mod Counts
pub mod Sorted
pub mod Reversed
pub mod Unique
-- what a seat keeps of its cores, and what it tells
pub mod CoreStates
pub mod ArrivedState
pub mod Kept
pub mod Told
pub mod Seats
pub mod SeatParts
pub mod Entering
-- each step keeps the rule
pub mod Start
pub mod TicketSteps
pub mod Arrivals
pub mod BarrierSteps
pub mod ConductorSteps
pub mod ViewParts
-- the rule, as callers see it
pub mod End
pub mod Moments
pub mod BrokenBoards
-- for callers: a core's seat, the books of parted and joined seats, a port over a seat
pub mod CoreSeats
pub mod SeatBooks
pub mod SeatPortLemmas
