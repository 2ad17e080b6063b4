pub mod Elimination
pub mod Slots
pub mod Laws
