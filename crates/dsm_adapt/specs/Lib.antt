pub mod Marks
pub mod Rooms
