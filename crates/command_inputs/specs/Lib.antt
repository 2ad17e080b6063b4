pub mod Collections
pub mod Programs
pub mod Runs
