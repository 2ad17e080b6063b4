pub mod Checking
pub mod Refusing
pub mod Widening
pub mod WidenLemmas
