pub mod Stops
pub mod States
