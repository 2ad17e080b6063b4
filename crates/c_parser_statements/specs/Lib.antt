pub mod StatementParser
pub mod Statements
pub mod StatementViews
