pub mod Falls
pub mod Near
pub mod Kept
pub mod Listing
pub mod Cards
pub mod Text
pub mod Dealing
pub mod Laws
