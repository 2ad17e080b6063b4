pub mod Shares
pub mod Ranking
pub mod Plain
pub mod Laws
pub mod Ranked
