pub mod Owned
pub mod Leaving
pub mod Searching
pub mod BugTexts
pub mod Showing
pub mod Lawful
