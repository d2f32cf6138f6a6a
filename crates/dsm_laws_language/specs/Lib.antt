pub mod Closed
pub mod States
