pub mod Fraction
pub mod Logarithm
pub mod Tally
