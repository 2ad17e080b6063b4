pub mod Growing
pub mod Firsts
pub mod Members
pub mod Leading
pub mod FirstLaws
pub mod Lasts
pub mod Listed
mod Walks
