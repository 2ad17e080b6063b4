pub mod WordLemmas
pub mod NodeReads
pub mod RowReads
pub mod CellLoops
pub mod CellReads
pub mod SiteReads
pub mod SmallNodes
pub mod KnownLemmas
