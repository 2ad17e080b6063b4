pub mod CountLemmas
pub mod SeenLemmas
pub mod ReachedLemmas
pub mod ToldLemmas
pub mod GoingLemmas
