-- How a table of tallies is kept: with the number of the first predicate of each site.
use Rattle.std.specs.Prelude.{◌≡◌, ℕ, ◌+◌, ◌≤◌, Bool, List, length, slice_index_or}
use Rattle.fractions.specs.declared.tally.Tally.{Tally}
use Rattle.elimination_tallies.specs.Predicates.{first_predicate, predicates_in}

-- the number of the first predicate of each site, and then how many predicates there are
pub record AreStarts (branches : List Bool) (starts : List ℕ) : Type 0 where
  pub as_many : length starts ≡ length branches + 1
  pub each : (site other : ℕ) → site ≤ length branches → slice_index_or starts site other ≡ first_predicate branches site

pub record IsTallyTable (branches : List Bool) (starts : List ℕ) (tallies : List Tally) : Type 0 where
  pub few : length branches ≤ 65536
  pub starts_are : AreStarts branches starts
  pub as_many : length tallies ≡ predicates_in branches
