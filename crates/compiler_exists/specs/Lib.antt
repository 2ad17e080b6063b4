pub mod Built
pub mod Emits
pub mod Functions
pub mod Programs
pub mod TextPrograms
pub mod Kept
pub mod Compiled
pub mod Cloned
