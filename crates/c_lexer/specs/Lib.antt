pub mod Lexing
pub mod Refusals
pub mod Endings
pub mod State
