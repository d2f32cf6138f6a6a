pub mod NewerLines
pub mod BarrierLines
pub mod OneMemory
pub mod Output
pub mod Desks
pub mod Openings
pub mod Granted
pub mod Order
