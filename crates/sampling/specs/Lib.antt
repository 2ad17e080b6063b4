pub mod Copies
pub mod Tally
pub mod Follows
pub mod Runs
pub mod FastCopies
pub mod Choices
pub mod Labelling
