pub mod Parsed
pub mod ItemAnswers
