pub mod Saving
pub mod Resuming
