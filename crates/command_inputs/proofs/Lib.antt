pub mod MergeLemmas
pub mod RunsLemmas
