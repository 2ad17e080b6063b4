pub mod Studying
pub mod StudyEnds
