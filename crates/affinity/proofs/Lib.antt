pub mod FirstLemmas
pub mod OneFirst
pub mod FallLemmas
pub mod StillLemmas
pub mod NearLemmas
pub mod RemainingLemmas
pub mod FailingLemmas
pub mod CardLemmas
