pub mod Bounds
pub mod Exponents
pub mod FractionOrder
pub mod LogarithmLemmas
pub mod Places
