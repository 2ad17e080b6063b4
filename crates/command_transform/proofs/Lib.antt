pub mod TransformLemmas
