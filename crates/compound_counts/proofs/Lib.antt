pub mod Cuts
pub mod Counting
pub mod Watching
pub mod Seeing
pub mod RowLemmas
