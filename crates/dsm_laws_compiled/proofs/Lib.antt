pub mod Parts
pub mod Jumps
pub mod Expressions
pub mod Statements
pub mod Functions
