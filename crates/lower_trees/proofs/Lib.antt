pub mod Appending
pub mod Placed
pub mod Bodied
pub mod Starred
