pub mod Examples
pub mod FirstToken
pub mod PlainExprs
pub mod PlainStatements
pub mod SameExprs
pub mod SameStatements
