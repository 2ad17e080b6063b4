pub mod Runs
pub mod Sums
pub mod Labels
pub mod Left
pub mod Steps
