pub mod Loops
pub mod Writing
pub mod Exact
pub mod Chain
pub mod Atoms
pub mod Formats
pub mod Numbers
pub mod Steps
