pub mod Legal
pub mod Lock
