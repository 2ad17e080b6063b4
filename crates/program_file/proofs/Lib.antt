pub mod Grammar
pub mod RowsSoFar
pub mod Sound
pub mod Chain
pub mod Whole
pub mod Taken
pub mod Alloc
