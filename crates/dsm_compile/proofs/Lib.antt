pub mod Writing
pub mod Shown
pub mod Bounds
pub mod Made
