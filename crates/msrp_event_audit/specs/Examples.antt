-- Worked examples of start states, in the middle of the log of two cores.
pub mod StartStates
