pub mod Shares
pub mod Ordered
pub mod Tables
