pub mod Laws
pub mod Relation
pub mod Shifts
