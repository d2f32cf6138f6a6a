pub mod Tops
pub mod Moves
pub mod Lines
