pub mod FactsFit
pub mod TextNames
pub mod Owned
pub mod Fitting
pub mod Example
pub mod Brought
pub mod Ready
pub mod Parts
