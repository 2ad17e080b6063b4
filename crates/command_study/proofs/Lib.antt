pub mod StudyLemmas
