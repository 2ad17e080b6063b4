pub mod Widening
pub mod Fitting
pub mod Farms
