pub mod Given
pub mod Giving
pub mod Indexes
pub mod Kept
pub mod Replicated
pub mod Rooms
pub mod Stacks
pub mod Texts
