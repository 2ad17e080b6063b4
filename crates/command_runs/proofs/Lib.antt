pub mod ListLemmas
pub mod RunsLemmas
pub mod Told
