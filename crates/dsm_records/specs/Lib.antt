pub mod Groups
pub mod Outputs
pub mod Texts
