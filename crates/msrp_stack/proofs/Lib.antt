pub mod Common
pub mod Layers
pub mod Tops
pub mod Changes
