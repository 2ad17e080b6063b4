pub mod ItemParses
pub mod ItemsParse
