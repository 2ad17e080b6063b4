pub mod Declarators
pub mod Initialisers
pub mod StatementWalk
pub mod ItemWalk
pub mod Room
