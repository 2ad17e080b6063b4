pub mod Naming
pub mod Operands
pub mod Fits
