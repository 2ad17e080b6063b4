pub mod Form
pub mod Cloned
pub mod Parts
pub mod Layout
pub mod Made
pub mod Sources
