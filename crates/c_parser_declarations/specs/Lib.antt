pub mod Lists
pub mod Declarations
pub mod DeclarationParser
pub mod Turns
pub mod PartParser
pub mod Parts
