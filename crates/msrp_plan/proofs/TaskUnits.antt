-- Units of tasks: how they lock and nest, and how a job stands to a resource by the units that it
-- has done.
pub mod UnitCounts
pub mod UnitKinds
pub mod PlanUnits
pub mod Nesting
pub mod Stands
