pub mod Rule
pub mod Grammar
pub mod Tree
