pub mod Ordered
pub mod Joining
pub mod Arriving
pub mod Comings
