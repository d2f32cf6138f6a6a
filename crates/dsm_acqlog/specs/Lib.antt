pub mod Logs
pub mod Tails
pub mod Histories
