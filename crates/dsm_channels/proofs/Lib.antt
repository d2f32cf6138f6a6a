pub mod Packets
pub mod UnderWay
