pub mod Forking
pub mod Giving
pub mod Linking
pub mod Passing
pub mod Spots
pub mod Taken
pub mod Voids
