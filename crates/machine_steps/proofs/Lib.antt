pub mod CallLemmas
pub mod DoneLemmas
pub mod StandingLemmas
pub mod RowLemmas
pub mod StartLemmas
pub mod WentLemmas
pub mod StrideLemmas
