pub mod Lists
pub mod Chains
pub mod Growing
pub mod Pruning
pub mod Packed
pub mod Reading
pub mod Owners
