pub mod Blocks
pub mod States
pub mod Answers
pub mod Loading
