-- The rows of facts of several predicates: of each, what each of a list of runs says of it.
use Rattle.std.specs.Prelude.{◌≡◌, ℕ, ◌+◌, ◌*◌, ◌/◌, ◌<◌, ◌==◌, Bool, List, [], ◌++◌, length, map, replicate, slice_index, slice_index_or, All}
use Rattle.std.specs.List.{list_any}
use Rattle.compound_bits.specs.Facts.{Fact, no_fact}
use Rattle.report_file.specs.declared.report.Entry.{Entry}
use Rattle.report_file.specs.declared.report.Report.{Report}
use Rattle.elimination_tallies.specs.declared.labelled.LabelledRun.{LabelledRun}
use Rattle.elimination_tallies.specs.Predicates.{is_of, is_observed_in_entry, is_true_in_entry}
use Rattle.elimination_tallies.specs.Recount.{runs_of}
use Rattle.compound_counts.specs.Runs.{IsCut, counted_runs}

-- what entries say of a predicate
abbrev pub fact_in : List Bool → ℕ → List Entry → Fact
fact_in branches p entries = record { truth = list_any (is_true_in_entry branches p) entries; known = list_any (is_observed_in_entry branches p) entries }

abbrev pub fact_of : List Bool → ℕ → LabelledRun → Fact
fact_of branches p r = fact_in branches p r.entries

-- the facts of these runs, and then places without any
pub record IsRow (facts row : List Fact) : Type 0 where
  pub more : ℕ
  pub is : row ≡ facts ++ replicate more no_fact

-- how many places a row has for so many runs
abbrev pub room_for : ℕ → ℕ
room_for runs = 64 * (runs / 64 + 1)

pub record AreFactRows (branches : List Bool) (predicates : List ℕ) (room : ℕ) (runs : List LabelledRun) (rows : List (List Fact)) : Type 0 where
  pub as_many : length rows ≡ length predicates
  pub rooms : (c : ℕ) → c < length predicates → length (slice_index_or rows c []) ≡ room
  pub each : (c : ℕ) → c < length predicates → IsRow (map (fact_of branches (slice_index predicates c)) runs) (slice_index_or rows c [])

-- of each site the places of those among the first predicates, so many, that are its own
pub record AreWatched (branches : List Bool) (predicates : List ℕ) (count : ℕ) (watched : List (List ℕ)) : Type 0 where
  pub as_many : length watched ≡ length branches
  pub own : (site c : ℕ) → site < length branches → c < count
      → list_any (λ w. w == c) (slice_index_or watched site []) ≡ is_of branches site (slice_index predicates c)
  pub places : (site : ℕ) → site < length branches → All (λ w. w < count) (slice_index_or watched site [])

-- the rows of the counted runs up to this one
pub record AreRowsUpTo (branches : List Bool) (predicates : List ℕ) (room : ℕ) (failing : Bool) (reports : List Report) (last place : ℕ)
    (rows : List (List Fact)) : Type 0 where
  pub before : List Report
  pub after : List Report
  pub cut : IsCut reports last before after
  pub place_is : place ≡ length (counted_runs failing (runs_of before))
  pub rows_are : AreFactRows branches predicates room (counted_runs failing (runs_of before)) rows
