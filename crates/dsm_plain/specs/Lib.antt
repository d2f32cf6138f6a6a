pub mod Machine
pub mod Waiting
