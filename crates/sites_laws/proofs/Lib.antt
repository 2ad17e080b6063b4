pub mod Partners
pub mod Standing
pub mod Told
mod Constructs
mod Leaving
mod Ordered
mod Calm
mod Plain
mod Branches
