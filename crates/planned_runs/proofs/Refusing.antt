-- Of a store that tells what it holds, runs by a plan are refused or not: the runs that a number of them has are one list.
use Rattle.std.proofs.Common.{◌≡◌, ◌≤◌, ◌<◌, ◌+◌, inl, inr, ℕ, suc, List, [], ◌∷◌, ◌++◌, length, ap, ap₂, sym, refl, subst, ◌∙◌, arith, length-append}
use Rattle.std.proofs.lemmas.List.Sums.{sum_by-cons}
use Rattle.cbi_base.specs.declared.refusal.Refusal.{Refusal}
use Rattle.collector.specs.Collected.{mark_limit}
use Rattle.countdown_bank.specs.Bank.{number_after}
use Rattle.expected.specs.Expected.{is_expected_output}
use Rattle.flow.specs.declared.program.ProgramParts.{ProgramParts}
use Rattle.flow.specs.Words.{counts_of, OneEnding, MachineEnds, Ending}
use Rattle.report_file.specs.Report.{entries_of}
use Rattle.planned_runs.specs.declared.input.RunInput.{RunInput}
use Rattle.planned_runs.specs.Left.{PlanRefusedBy}
use Rattle.planned_runs.specs.Runs.{ArePlannedRuns, IsPlannedRun, JudgedRun, endings_of, marks_in}

-- a number is given one thing, and nothing where it is refused
abbrev pub GivesOnce : (ℕ → RunInput → Type 0) → Type 0
GivesOnce gives = (number : ℕ) (a b : RunInput) → gives number a → gives number b → a ≡ b

abbrev pub GivesApart : (ℕ → RunInput → Type 0) → (ℕ → Refusal → Type 0) → Type 0
GivesApart gives refuses = (number : ℕ) (on : RunInput) (refusal : Refusal) → gives number on → refuses number refusal → ⊥

module _ (one_ending : OneEnding) (p : ProgramParts) (gives : ℕ → RunInput → Type 0) (turns : ℕ) (once : GivesOnce gives) where
  same_ending : (number : ℕ) (a b : JudgedRun) (x : IsPlannedRun p gives turns number a) (y : IsPlannedRun p gives turns number b) → a.ending ≡ b.ending
  same_ending number a b x y =
      one_ending p y.on.input (number_after y.on.bank) turns a.ending b.ending
      (subst (λ (o : RunInput). MachineEnds p o.input (number_after o.bank) turns a.ending) (once number x.on y.on x.given y.given) x.ends) y.ends

  -- one number has one run
  pub one_planned : (number : ℕ) (a b : JudgedRun) → IsPlannedRun p gives turns number a → IsPlannedRun p gives turns number b → a ≡ b
  one_planned number a b x y =
      let ending_is : a.ending ≡ b.ending = same_ending number a b x y in
      let right_is : a.is_right ≡ b.is_right =
      x.right_is ∙ ap₂ (λ (o : RunInput) (e : Ending). is_expected_output o.expect e.output) (once number x.on y.on x.given y.given) ending_is ∙ sym y.right_is
      in
      ap₂ (λ e r. let run : JudgedRun = record { ending = e; is_right = r } in run) ending_is right_is

  -- and so many have one list of them
  pub one_planned_list : (number : ℕ) (a b : List JudgedRun) → ArePlannedRuns p gives turns number a → ArePlannedRuns p gives turns number b → length a ≡ length b → a ≡ b
  one_planned_list number [] [] x y same = refl
  one_planned_list number [] (r ∷ rs) x y same = absurd (omega arith)
  one_planned_list number (r ∷ rs) [] x y same = absurd (omega arith)
  one_planned_list number (r ∷ rs) (q ∷ qs) x y same = ap₂ (λ h t. h ∷ t) (one_planned number r q x.0 y.0) (one_planned_list (suc number) rs qs x.1 y.1 (omega arith))

  -- fewer of them have no more entries
  marks_below : (number : ℕ) (a b : List JudgedRun) → ArePlannedRuns p gives turns number a → ArePlannedRuns p gives turns number b → length a ≤ length b
      → marks_in p (endings_of a) ≤ marks_in p (endings_of b)
  marks_below number [] b x y few = omega arith
  marks_below number (r ∷ rs) [] x y few = absurd (omega arith)
  marks_below number (r ∷ rs) (q ∷ qs) x y few =
      let same : length (entries_of (counts_of p.sites r.ending.seen)) ≡ length (entries_of (counts_of p.sites q.ending.seen)) =
      ap (λ (e : Ending). length (entries_of (counts_of p.sites e.seen))) (same_ending number r q x.0 y.0)
      in
      let rest : marks_in p (endings_of rs) ≤ marks_in p (endings_of qs) = marks_below (suc number) rs qs x.1 y.1 (omega arith) in
      omega (
        arith,
        same,
        rest,
        sum_by-cons (λ (e : Ending). length (entries_of (counts_of p.sites e.seen))) r.ending (endings_of rs),
        sum_by-cons (λ (e : Ending). length (entries_of (counts_of p.sites e.seen))) q.ending (endings_of qs),
      )

  -- a run that ended wasn't refused
  none_refused : (refuses : ℕ → Refusal → Type 0) → GivesApart gives refuses → (number : ℕ) (some all : List JudgedRun) (refusal : Refusal) → ArePlannedRuns p gives turns number all
      → length some < length all → refuses (number + length some) refusal → ⊥
  none_refused refuses apart number some [] refusal are less h = absurd (omega arith)
  none_refused refuses apart number [] (r ∷ rs) refusal are less h = apart number are.0.on refusal are.0.given (subst (λ n. refuses n refusal) (omega arith) h)
  none_refused refuses apart number (x ∷ some) (r ∷ rs) refusal are less h =
      none_refused refuses apart (suc number) some rs refusal are.1 (omega arith) (subst (λ n. refuses n refusal) (omega arith) h)

  -- where all runs ended, and their entries are few enough, none is refused
  pub never_refused : (refuses : ℕ → Refusal → Type 0) → GivesApart gives refuses → (first count : ℕ) (all : List JudgedRun) (refusal : Refusal) → ArePlannedRuns p gives turns first all
      → length all ≡ count → marks_in p (endings_of all) ≤ mark_limit → PlanRefusedBy p gives first count turns refuses refusal → ⊥
  never_refused refuses apart first count all refusal are as_many few (inl h) = none_refused refuses apart first h.earlier all refusal are (omega (arith, h.within, as_many)) h.refused
  never_refused refuses apart first count all refusal are as_many few (inr h) =
      let below = marks_below first (h.earlier ++ h.last ∷ []) all h.are are (omega (arith, length-append h.earlier (h.last ∷ []), h.within, as_many)) in
      absurd (omega (arith, below, few, h.many))
