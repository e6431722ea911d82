pub mod GatheredTasks
pub mod AcceptedSystems
pub mod NamedParts
