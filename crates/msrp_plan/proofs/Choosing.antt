-- Who has the turn on a core, and which of its jobs are started and unfinished.
pub mod Turns
pub mod Live
pub mod OwnTurns
