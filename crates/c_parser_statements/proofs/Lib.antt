pub mod Branches
pub mod Conditions
pub mod BlockEntries
pub mod EntryLoops
pub mod Sentences
pub mod StatementParses
pub mod StatementViews
