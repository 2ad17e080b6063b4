pub mod Answers
pub mod BadValue
pub mod Reading
pub mod Within
