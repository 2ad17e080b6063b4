pub mod Cells
pub mod Zeros
pub mod Objects
pub mod Starts
