pub mod LineLemmas
pub mod Choices
pub mod Room
pub mod Spelled
pub mod Leads
pub mod Once
