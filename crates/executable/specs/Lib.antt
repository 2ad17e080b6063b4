pub mod Accepted
pub mod Call
pub mod Closed
pub mod Runs
pub mod Shares
pub mod Steps
