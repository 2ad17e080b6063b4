pub mod Facts
pub mod Bits
