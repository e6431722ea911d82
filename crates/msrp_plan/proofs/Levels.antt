-- Preemption levels, current ceilings, and which resources are global.
pub mod LevelOrder
pub mod Ceilings
pub mod GlobalUse
pub mod CoreUsers
