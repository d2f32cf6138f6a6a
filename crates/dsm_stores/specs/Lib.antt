pub mod Fuses
pub mod Mutes
