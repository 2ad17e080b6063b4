pub mod Truth
pub mod Runs
pub mod Rows
pub mod Numbers
pub mod Seeing
