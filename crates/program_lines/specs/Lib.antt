pub mod Words
pub mod NodeLines
pub mod Sums
pub mod Rows
pub mod CellRuns
pub mod SiteLines
pub mod Known
