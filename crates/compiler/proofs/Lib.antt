pub mod Fitting
pub mod Lining
pub mod Rejecting
pub mod Agreeing
pub mod Doing
pub mod Planning
pub mod Refusing
