pub mod Acting
pub mod Handing
pub mod Linked
pub mod Spotted
