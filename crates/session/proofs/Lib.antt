pub mod Runs
pub mod Changes
