pub mod Fault
pub mod Answers
pub mod Hiding
pub mod Parts
pub mod Laid
pub mod Numbers
pub mod CheckedTree
