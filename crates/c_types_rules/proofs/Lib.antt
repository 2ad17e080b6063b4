pub mod Capped
pub mod Same
pub mod Numbers
