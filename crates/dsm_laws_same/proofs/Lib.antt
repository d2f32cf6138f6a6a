pub mod Beside
pub mod Plain
pub mod Effects
pub mod Units
pub mod Nets
