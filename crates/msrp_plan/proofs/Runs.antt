-- Whole runs: their ticks, their cores, the order of their turns, and the verdict on them.
pub mod Ticks
pub mod CoreRuns
pub mod Determinacy
pub mod Commutation
pub mod Interleaving
pub mod RoundRobin
pub mod Verdicts
pub mod KeptLaws
