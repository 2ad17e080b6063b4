pub mod Lists
pub mod Line
pub mod Once
pub mod Runs
