pub mod Shuffles
pub mod Fronts
pub mod Histories
