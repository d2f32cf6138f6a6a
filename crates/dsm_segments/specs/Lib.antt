pub mod Entries
pub mod Chains
pub mod Sound
pub mod Steps
