pub mod Best
pub mod Relabelling
