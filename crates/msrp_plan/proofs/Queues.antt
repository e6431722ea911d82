-- The queue of a global resource: who stands in it, how a row changes it, and the one-thread lock
-- that answers alike.
pub mod Fifos
pub mod QueueMembers
pub mod Effects
pub mod Overtaking
pub mod ShortQueues
pub mod Calls
pub mod QueueLocks
pub mod LockHistories
