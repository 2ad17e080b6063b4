pub mod Flags
pub mod Rows
pub mod Weighty
pub mod Headers
pub mod Blocks
pub mod Noted
pub mod Callers
pub mod Reach
