pub mod Partners
pub mod Told
pub mod Constructs
pub mod Words
