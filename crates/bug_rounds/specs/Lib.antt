pub mod Rounds
pub mod Live
pub mod Search
pub mod Text
pub mod Laws
