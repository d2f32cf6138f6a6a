pub mod Assignments
pub mod States
pub mod Weights
pub mod Semantics
pub mod Programs
pub mod Within
pub mod Finished
pub mod Next
