pub mod Ranges
pub mod Division
pub mod Modulo
pub mod Meaning
pub mod BitLaws
pub mod TrapLaws
