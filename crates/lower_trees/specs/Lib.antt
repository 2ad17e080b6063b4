pub mod Operators
pub mod Places
pub mod Looks
pub mod Joined
pub mod Bodies
