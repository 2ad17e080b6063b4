pub mod Signatures
pub mod Facts
