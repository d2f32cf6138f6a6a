pub mod Outcomes
pub mod Extents
pub mod States
pub mod Turns
pub mod Waits
pub mod Completions
pub mod Endings
