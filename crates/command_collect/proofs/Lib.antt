pub mod Adding
pub mod CollectLemmas
pub mod FileLemmas
pub mod GatherLemmas
pub mod Holding
