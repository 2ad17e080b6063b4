-- A row in which the fact at a place is seen once more, or not.
use Rattle.std.specs.Prelude.{ℕ, Bool, List, slice_index_or, slice_set, if◌then◌else◌}
use Rattle.compound_bits.specs.Facts.{Fact, no_fact, fact_seen}

abbrev pub seen_if : Bool → Bool → Fact → Fact
seen_if watched truth f = if watched then fact_seen truth f else f

abbrev pub seen_row : ℕ → Bool → Bool → List Fact → List Fact
seen_row place watched truth row = slice_set row place (seen_if watched truth (slice_index_or row place no_fact))
