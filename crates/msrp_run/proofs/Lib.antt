pub mod Common
pub mod Ports
pub mod OneTurn
pub mod Working
pub mod Threading
pub mod Headline
