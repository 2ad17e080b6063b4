pub mod Sums
pub mod Distinct
pub mod Tables
pub mod Endings
pub mod Programs
pub mod FormatLaws
pub mod WriteLaws
pub mod CountLaws
pub mod StringLaws
pub mod MoveLaws
mod Examples
pub mod SampledTotals
pub mod PredicateOrder
pub mod StaticsLaws
pub mod MapSums
