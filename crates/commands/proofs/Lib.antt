pub mod LeftByRefusal
pub mod LeftByRuns
