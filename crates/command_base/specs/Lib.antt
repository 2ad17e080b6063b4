pub mod Outside
pub mod Names
pub mod Faults
pub mod Limits
pub mod Reading
