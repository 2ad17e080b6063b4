pub mod StepLemmas
pub mod BooksLemmas
pub mod SlotLemmas
pub mod Gathering
pub mod HolderLemmas
pub mod EliminationLemmas
pub mod TableLemmas
pub mod UniqueLemmas
