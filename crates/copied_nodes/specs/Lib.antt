pub mod Outlets
pub mod Sheet
pub mod Made
