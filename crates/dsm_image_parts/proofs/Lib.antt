pub mod Holds
pub mod Keyed
pub mod Listing
pub mod Writing
pub mod Grammar
pub mod Bodies
pub mod Saved
