pub mod Bodies
pub mod Ready
pub mod Keeps
pub mod Programs
pub mod Means
pub mod Fits
