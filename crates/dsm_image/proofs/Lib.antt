pub mod Fronts
pub mod Writing
pub mod Zeros
pub mod Answering
