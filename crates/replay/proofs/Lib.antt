pub mod Later
pub mod Rooms
