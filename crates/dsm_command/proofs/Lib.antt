pub mod Reading
pub mod Rows
pub mod Steps
pub mod Bridge
pub mod Top
