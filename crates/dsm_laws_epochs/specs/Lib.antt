pub mod Arrivals
pub mod ByLines
