pub mod Label
pub mod Report
pub mod Spelling
pub mod Fields
pub mod Reading
pub mod Grammar
pub mod Answers
pub mod RunLine
