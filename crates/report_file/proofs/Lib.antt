pub mod FieldLemmas
pub mod LineLemmas
pub mod Whole
pub mod Entries
pub mod Joining
pub mod Once
pub mod RunLines
