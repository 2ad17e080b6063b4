pub mod Suspects
pub mod Listing
pub mod Places
pub mod Text
pub mod Laws
