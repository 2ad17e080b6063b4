pub mod Accepted
pub mod Rejected
pub mod Planned
pub mod Kept
pub mod Does
pub mod Compiled
pub mod Refused
