pub mod Histories
pub mod Keeping
pub mod Once
pub mod Parting
mod Worked
