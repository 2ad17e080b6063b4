pub mod Begun
pub mod Lists
pub mod Names
pub mod Adding
pub mod Going
pub mod Refusing
