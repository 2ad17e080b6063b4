-- What a run says of a predicate and of a pair of predicates: that it is true in it, that it is false in it, or nothing.
use Rattle.std.specs.Prelude.{ℕ, Bool, not, ◌&&◌, ◌||◌, List, count_by}
use Rattle.fractions.specs.declared.tally.Tally.{Tally}
use Rattle.elimination_tallies.specs.declared.labelled.LabelledRun.{LabelledRun}
use Rattle.elimination_tallies.specs.Recount.{is_failing, is_observed, is_true, is_successful}

-- a predicate is false in a run that observed its site and in which it wasn't true; where its site wasn't observed it is unknown
abbrev pub is_false : List Bool → ℕ → LabelledRun → Bool
is_false branches p r = is_observed branches p r && not (is_true branches p r)

-- a pair is true where both its predicates are
abbrev pub pair_is_true : List Bool → ℕ → ℕ → LabelledRun → Bool
pair_is_true branches left right r = is_true branches left r && is_true branches right r

-- and false where one of them is; else it is unknown
abbrev pub pair_is_false : List Bool → ℕ → ℕ → LabelledRun → Bool
pair_is_false branches left right r = is_false branches left r || is_false branches right r

abbrev pub pair_is_known : List Bool → ℕ → ℕ → LabelledRun → Bool
pair_is_known branches left right r = pair_is_true branches left right r || pair_is_false branches left right r

-- the failing and the successful runs in which a pair is true, and those in which it is true or false
abbrev pub pair_recount : List Bool → List LabelledRun → ℕ → ℕ → Tally
pair_recount branches runs left right = record {
  a = count_by (λ (r : LabelledRun). is_failing r.label && pair_is_true branches left right r) runs;
  b = count_by (λ (r : LabelledRun). is_successful r.label && pair_is_true branches left right r) runs;
  c = count_by (λ (r : LabelledRun). is_failing r.label && pair_is_known branches left right r) runs;
  d = count_by (λ (r : LabelledRun). is_successful r.label && pair_is_known branches left right r) runs;
}
