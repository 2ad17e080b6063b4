pub mod Exits
pub mod Strings
pub mod Locals
