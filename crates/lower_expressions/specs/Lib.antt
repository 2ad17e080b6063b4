pub mod Arms
pub mod Weights
pub mod Truths
