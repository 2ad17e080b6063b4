pub mod Entering
pub mod Standing
pub mod Begun
pub mod Reached
pub mod Strides
