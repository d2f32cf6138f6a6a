pub mod Rooms
pub mod Frames
pub mod States
pub mod Standing
pub mod Prints
