pub mod Bugs
