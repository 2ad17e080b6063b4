pub mod Accepted
pub mod Sited
pub mod Sample
