pub mod Widen
pub mod Loading
