pub mod Collect
pub mod Gathered
