pub mod Draws
pub mod Jobs
pub mod Programs
