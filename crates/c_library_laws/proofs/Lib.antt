pub mod Digits
pub mod Living
pub mod Printing
