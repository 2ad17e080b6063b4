pub mod Paths
pub mod Weight
