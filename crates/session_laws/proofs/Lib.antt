pub mod Steps
pub mod Maps
pub mod Taken
