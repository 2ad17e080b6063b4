pub mod Steps
pub mod Force
