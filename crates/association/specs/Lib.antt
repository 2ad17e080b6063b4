pub mod Strength
pub mod Order
pub mod Laws
