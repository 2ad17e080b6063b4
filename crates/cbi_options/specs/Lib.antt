pub mod Answers
pub mod Options
pub mod Schemes
pub mod Shares
pub mod Values
pub mod WordRule
