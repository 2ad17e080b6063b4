pub mod Reading
pub mod Marks
pub mod Steps
pub mod Expressions
pub mod ExpressionParser
pub mod Views
pub mod Operators
