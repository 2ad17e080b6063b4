pub mod Cutting
pub mod Naming
