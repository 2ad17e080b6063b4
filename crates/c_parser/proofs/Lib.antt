pub mod ItemLoops
pub mod OneTree
pub mod Parsing
pub mod Texts
pub mod Keeping
