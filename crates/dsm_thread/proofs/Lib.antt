pub mod Written
pub mod Resumed
pub mod Loaded
