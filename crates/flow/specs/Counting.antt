-- How many members of a list of observations had each truth at each site, and what a report shows of a run.
use Rattle.std.specs.Prelude.{ℕ, suc, ◌==◌, ◌&&◌, List, [], ◌∷◌, Bool, true, false}
use Rattle.std.specs.List.{count_by}
use Rattle.cbi_base.specs.declared.observation.Observation.{Observation}
use Rattle.cbi_base.specs.declared.observation.Seen.{Seen}
use Rattle.cbi_base.specs.declared.observation.Seen.TheVariants.{First, Second, Third}
use Rattle.cbi_base.specs.declared.outcome.Counts.{Counts}
use Rattle.flow.specs.declared.result.RunResult.{RunResult}
use Rattle.flow.specs.declared.site.Site.{Site}
use Rattle.flow.specs.State.{Ending}

abbrev pub is_first : Seen → Bool
is_first First = true
is_first other = false

abbrev pub is_second : Seen → Bool
is_second Second = true
is_second other = false

abbrev pub is_third : Seen → Bool
is_third Third = true
is_third other = false

-- the counters of a site; one that saw nothing makes none grow
abbrev pub counts_at : List Observation → ℕ → Counts
counts_at seen site = record {
  first = count_by (λ o. o.site == site && is_first o.seen) seen;
  second = count_by (λ o. o.site == site && is_second o.seen) seen;
  third = count_by (λ o. o.site == site && is_third o.seen) seen;
}

-- the counters of these sites, which have the numbers from this one on
abbrev pub counts_from : ℕ → List Site → List Observation → List Counts
counts_from number [] seen = []
counts_from number (s ∷ sites) seen = counts_at seen number ∷ counts_from (suc number) sites seen

abbrev pub counts_of : List Site → List Observation → List Counts
counts_of sites seen = counts_from 0 sites seen

-- what a run comes to
abbrev pub run_result : List Site → Ending → RunResult
run_result sites ending = record { outcome = ending.outcome; output = ending.output; counts = counts_of sites ending.seen; work = ending.work }
