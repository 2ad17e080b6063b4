pub mod Predicates
pub mod Recount
pub mod Leading
pub mod Scanning
pub mod Tallies
pub mod Table
pub mod Runs
pub mod Surpassing
