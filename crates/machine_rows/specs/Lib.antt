pub mod Operands
pub mod Data
pub mod Printed
pub mod Strings
pub mod Effects
pub mod LocalsFit
pub mod Starting
