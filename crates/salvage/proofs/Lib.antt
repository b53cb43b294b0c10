pub mod Rooms
pub mod Turns
pub mod Whole
