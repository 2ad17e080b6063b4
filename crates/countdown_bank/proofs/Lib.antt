pub mod Words
pub mod Rounds
pub mod Holding
pub mod Texts
pub mod Made
pub mod Computed
pub mod WholeBound
