pub mod Initialising
pub mod Looping
pub mod Rooms
pub mod Zeroing
