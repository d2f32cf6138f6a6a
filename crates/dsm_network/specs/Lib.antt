pub mod Nodes
pub mod World
pub mod Effects
