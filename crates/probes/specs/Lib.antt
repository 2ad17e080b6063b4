pub mod Told
pub mod Sites
pub mod FirstSeen
pub mod Hottest
pub mod LastSeen
