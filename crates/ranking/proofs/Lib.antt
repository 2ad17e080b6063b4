pub mod RankingLemmas
pub mod PlainLemmas
pub mod EliminationRows
