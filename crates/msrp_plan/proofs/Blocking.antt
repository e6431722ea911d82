-- Why a job is blocked by one section of one later job alone, and for how long.
pub mod Pressing
pub mod Sound
pub mod Heads
pub mod Sections
pub mod Begun
pub mod OneSection
pub mod SectionRows
pub mod Bound
pub mod FromRelease
