pub mod Noting
pub mod Merging
pub mod Telling
pub mod Newest
mod Worked
