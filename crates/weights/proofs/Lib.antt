pub mod PathLemmas
pub mod WeightLemmas
