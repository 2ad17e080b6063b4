pub mod Within
pub mod FlagLemmas
pub mod RowLemmas
pub mod CallerLemmas
pub mod ReachLemmas
pub mod BlockLemmas
pub mod HeaderLemmas
