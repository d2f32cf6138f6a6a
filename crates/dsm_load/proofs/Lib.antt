pub mod Drawing
pub mod Scheduling
