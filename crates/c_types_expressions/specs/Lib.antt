pub mod Names
pub mod Walked
pub mod ExprWalk
pub mod Beginning
pub mod Room
pub mod Indexed
pub mod Words
