pub mod Spelling
pub mod Fields
pub mod Grammar
pub mod Answers
pub mod Held
