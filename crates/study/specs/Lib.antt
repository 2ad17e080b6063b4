pub mod Study
pub mod Studied
