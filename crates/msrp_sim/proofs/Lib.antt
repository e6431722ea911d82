pub mod Queues
pub mod Histories
pub mod Serving
pub mod TurnPorts
pub mod Turns
pub mod Standing
pub mod Keeping
pub mod Repeating
pub mod Starting
pub mod Rounds
pub mod Given
pub mod NextTurn
pub mod OwnMachine
pub mod CoreStates
mod Copied
