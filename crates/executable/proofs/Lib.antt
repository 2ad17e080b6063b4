pub mod Accepting
pub mod Eliminating
pub mod Leaving
pub mod Reading
pub mod Sharing
pub mod Studying
pub mod Telling
pub mod Wrapped
