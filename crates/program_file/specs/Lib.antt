pub mod Draft
pub mod Errors
pub mod WrongLine
