pub mod Functions
pub mod Kept
pub mod Tokens
