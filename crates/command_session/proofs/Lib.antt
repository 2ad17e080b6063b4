pub mod Told
pub mod SessionLemmas
