pub mod DeviceLemmas
pub mod FaultLemmas
pub mod NameLemmas
pub mod ReadLemmas
pub mod ReadingLemmas
