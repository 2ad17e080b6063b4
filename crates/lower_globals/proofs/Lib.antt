pub mod ConstantLaws
pub mod Zeroed
pub mod Counted
pub mod Begun
pub mod Gathered
pub mod Started
pub mod Starting
