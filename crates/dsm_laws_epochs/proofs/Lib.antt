pub mod Newest
pub mod EpochLines
pub mod ByLines
mod Example
