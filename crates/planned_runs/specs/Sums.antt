-- How runs went, summed up.
use Rattle.std.specs.Prelude.{ℕ, ◌+◌, Bool, true, false, if◌then◌else◌, List, count_by, sum_by}
use Rattle.cbi_base.specs.declared.outcome.Outcome.{Outcome}
use Rattle.cbi_base.specs.declared.outcome.Outcome.TheVariants.{Ended, Trapped, CutTurns, CutOutput}
use Rattle.cbi_base.specs.declared.outcome.Work.{Work}
use Rattle.flow.specs.State.{Ending}
use Rattle.planned_runs.specs.declared.sums.Sums.{Sums}

abbrev pub is_trapped : Outcome → Bool
is_trapped (Ended status) = false
is_trapped (Trapped trap) = true
is_trapped CutTurns = false
is_trapped CutOutput = false

abbrev pub is_ended : Outcome → Bool
is_ended (Ended status) = true
is_ended (Trapped trap) = false
is_ended CutTurns = false
is_ended CutOutput = false

abbrev pub is_cut : Outcome → Bool
is_cut (Ended status) = false
is_cut (Trapped trap) = false
is_cut CutTurns = true
is_cut CutOutput = true

-- how many runs trapped, ended and were cut, and how often in all of them a `choose` went fast, one went slow, and a `test` ran
abbrev pub sums_of : List Ending → Sums
sums_of endings = record {
  failed = count_by (λ (e : Ending). is_trapped e.outcome) endings;
  ended = count_by (λ (e : Ending). is_ended e.outcome) endings;
  cut = count_by (λ (e : Ending). is_cut e.outcome) endings;
  fast = sum_by (λ (e : Ending). e.work.fast) endings;
  slow = sum_by (λ (e : Ending). e.work.slow) endings;
  tests = sum_by (λ (e : Ending). e.work.tests) endings;
}

-- one more where it is so
abbrev pub one_if : Bool → ℕ
one_if b = if b then 1 else 0

-- the sums with one more run
abbrev pub sums_with_run : Outcome → Work → Sums → Sums
sums_with_run outcome work s = record {
  failed = s.failed + one_if (is_trapped outcome);
  ended = s.ended + one_if (is_ended outcome);
  cut = s.cut + one_if (is_cut outcome);
  fast = s.fast + work.fast;
  slow = s.slow + work.slow;
  tests = s.tests + work.tests;
}
