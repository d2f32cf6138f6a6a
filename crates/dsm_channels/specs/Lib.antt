pub mod Packets
pub mod Channels
