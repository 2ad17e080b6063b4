-- The runs of a study by the machine are those that the text means.
use Rattle.std.proofs.Common.{◌≡◌, ◌≤◌, ◌<◌, ◌+◌, ◌%◌, ℕ, zero, suc, None, List, [], ◌∷◌, ◌++◌, length, map, slice_index, ap, ap₂, sym, refl, ◌∙◌, arith}
use Rattle.std.proofs.lemmas.List.Sums.{sum_by-cons}
use Rattle.c_syntax.specs.ItemTree.{SourceTree}
use Rattle.c_types_expressions.specs.declared.walk.Walk.{Walk}
use Rattle.countdown_bank.specs.Bank.{BankState, number_after}
use Rattle.countdown_bank.specs.MadeBank.{AreMade}
use Rattle.elimination_tallies.specs.declared.labelled.LabelledRun.{LabelledRun}
use Rattle.elimination_tallies.specs.Recount.{runs_of}
use Rattle.flow.specs.declared.program.ProgramParts.{ProgramParts}
use Rattle.flow.specs.declared.site.Site.{Site}
use Rattle.flow.specs.Words.{counts_of, OneEnding, MachineEnds, IsPositive, samples, Ending}
use Rattle.study_runs.specs.MadeRun.{IsMadeRun}
use Rattle.report_file.specs.Report.{entries_of}
use Rattle.study_runs.specs.declared.plan.StudyPlan.{StudyPlan}
use Rattle.study_runs.specs.Runs.{AreRunsFrom, reports_from}
use Rattle.study_runs.specs.Runs as runs
use Rattle.compiler.specs.Does.{SamplesText}
use Rattle.study.specs.Study.{AreStudyRuns, IsStudyRun, StudyRun, all_seen, labelled_run, marks_in, run_entries, study_meaning, study_sites}
use Rattle.study.specs.Studied.{run_of}

-- each number of a made bank is at least 1
made_at : (words : ℕ → ℕ) (bound : ℕ) (numbers : List ℕ) (place : ℕ) → AreMade words bound numbers → place < length numbers → 1 ≤ slice_index numbers place
made_at words bound [] place made within = absurd (omega arith)
made_at words bound (n ∷ more) zero made within = made.0.some
made_at words bound (n ∷ more) (suc place) made within = made_at (λ k. words (n + k)) bound more place made.1 (omega arith)

pub made_positive : (seed rate number : ℕ) (bank : BankState) (input : List ℕ) → IsMadeRun seed rate number bank input → IsPositive (number_after bank)
made_positive seed rate number bank input made = λ draws.
    made_at _ _ bank.numbers ((bank.position + draws) % length bank.numbers) made.bank_is.made (omega (arith, made.bank_is.as_many))

module _ (one_ending : OneEnding) (tree : SourceTree) (known : Walk) (plan : StudyPlan) (p : ProgramParts) (does : SamplesText tree known (study_sites tree known plan) None p) where
  -- a run on the bank and the line of a number is as the text means it
  pub means : (number : ℕ) (bank : BankState) (input : List ℕ) (ending : Ending) → IsMadeRun plan.seed plan.rate number bank input
      → MachineEnds p input (number_after bank) plan.turns ending → IsStudyRun tree known plan number (run_of ending)
  means number bank input ending made ends =
      let e = does.ends input (number_after bank) plan.turns (made_positive plan.seed plan.rate number bank input made) in
      let same : ending ≡ e.ending = one_ending p input (number_after bank) plan.turns ending e.ending ends e.ends in
      record {
        bank = bank;
        input = input;
        made = made;
        outcome = ap (λ (x : Ending). x.outcome) same ∙ e.goes.outcome;
        seen = ap (λ (x : Ending). x.seen) same ∙ e.goes.seen_is;
      }

  pub mean : (number : ℕ) (endings : List Ending) → AreRunsFrom p plan number endings → AreStudyRuns tree known plan number (map run_of endings)
  mean number [] are = tt
  mean number (e ∷ more) are = (means number are.0.bank are.0.input e are.0.made are.0.ends, mean (suc number) more are.1)

  -- a run that stopped is one of the study, which ends
  pub next : (number : ℕ) (bank : BankState) (input : List ℕ) → IsMadeRun plan.seed plan.rate number bank input
      → (ending : Ending) × MachineEnds p input (number_after bank) plan.turns ending
  next number bank input made =
      let e = does.ends input (number_after bank) plan.turns (made_positive plan.seed plan.rate number bank input made) in (e.ending, e.ends)

-- what the machine's runs saw, and the entries of their reports
pub seen_same : (endings : List Ending) → runs.all_seen endings ≡ all_seen (map run_of endings)
seen_same [] = refl
seen_same (e ∷ more) = ap (λ l. e.seen ++ l) (seen_same more)

pub marks_same : (p : ProgramParts) (endings : List Ending) → runs.marks_in p endings ≡ marks_in p.sites (map run_of endings)
marks_same p [] = refl
marks_same p (e ∷ more) =
    sum_by-cons (λ (x : Ending). length (entries_of (counts_of p.sites x.seen))) e more
    ∙ ap (λ n. length (entries_of (counts_of p.sites e.seen)) + n) (marks_same p more)
    ∙ sym (sum_by-cons (λ (r : StudyRun). length (run_entries p.sites r)) (run_of e) (map run_of more))

pub labels_same : (p : ProgramParts) (number : ℕ) (endings : List Ending) → runs_of (reports_from p number endings) ≡ map (labelled_run p.sites) (map run_of endings)
labels_same p number [] = refl
labels_same p number (e ∷ more) = ap (λ (l : List LabelledRun). labelled_run p.sites (run_of e) ∷ l) (labels_same p (suc number) more)

pub runs_snoc : (endings : List Ending) (e : Ending) → map run_of (endings ++ e ∷ []) ≡ map run_of endings ++ run_of e ∷ []
runs_snoc [] e = refl
runs_snoc (x ∷ more) e = ap (λ l. run_of x ∷ l) (runs_snoc more e)

-- studies of one text have the same runs, so that the longer has as many entries at least
abbrev pub OneBank : Type 0
OneBank = (seed rate number : ℕ) (a b : BankState) (x y : List ℕ) → IsMadeRun seed rate number a x → IsMadeRun seed rate number b y → a ≡ b

abbrev pub OneInput : Type 0
OneInput = (seed rate number : ℕ) (a b : BankState) (x y : List ℕ) → IsMadeRun seed rate number a x → IsMadeRun seed rate number b y → x ≡ y

module _ (one_bank : OneBank) (one_input : OneInput) (tree : SourceTree) (known : Walk) (plan : StudyPlan) where
  same_made : (number : ℕ) (a b : StudyRun) (x : IsStudyRun tree known plan number a) (y : IsStudyRun tree known plan number b) → (x.bank ≡ y.bank) × (x.input ≡ y.input)
  same_made number a b x y =
      (one_bank plan.seed plan.rate number x.bank y.bank x.input y.input x.made y.made, one_input plan.seed plan.rate number x.bank y.bank x.input y.input x.made y.made)

  one_seen : (number : ℕ) (a b : StudyRun) → IsStudyRun tree known plan number a → IsStudyRun tree known plan number b → a.seen ≡ b.seen
  one_seen number a b x y =
      let same = same_made number a b x y in
      x.seen ∙ ap₂ (λ (k : BankState) i. samples (number_after k) (study_meaning tree known plan i).seen) same.0 same.1 ∙ sym y.seen

  one_run : (number : ℕ) (a b : StudyRun) → IsStudyRun tree known plan number a → IsStudyRun tree known plan number b → a ≡ b
  one_run number a b x y =
      let outcome : a.outcome ≡ b.outcome = x.outcome ∙ ap (λ i. (study_meaning tree known plan i).outcome) (same_made number a b x y).1 ∙ sym y.outcome in
      ap₂ (λ o l. let r : StudyRun = record { outcome = o; seen = l } in r) outcome (one_seen number a b x y)

  pub one_list : (number : ℕ) (a b : List StudyRun) → AreStudyRuns tree known plan number a → AreStudyRuns tree known plan number b → length a ≡ length b → a ≡ b
  one_list number [] [] x y same = refl
  one_list number [] (s ∷ b) x y same = absurd (omega arith)
  one_list number (r ∷ a) [] x y same = absurd (omega arith)
  one_list number (r ∷ a) (s ∷ b) x y same = ap₂ (λ h t. h ∷ t) (one_run number r s x.0 y.0) (one_list (suc number) a b x.1 y.1 (omega arith))

  pub marks_grow : (table : List Site) (number : ℕ) (a b : List StudyRun) → AreStudyRuns tree known plan number a → AreStudyRuns tree known plan number b → length a ≤ length b
      → marks_in table a ≤ marks_in table b
  marks_grow table number [] b x y few = omega arith
  marks_grow table number (r ∷ a) [] x y few = absurd (omega arith)
  marks_grow table number (r ∷ a) (s ∷ b) x y few =
      let rest = marks_grow table (suc number) a b x.1 y.1 (omega arith) in
      let same : length (run_entries table r) ≡ length (run_entries table s) = ap (λ l. length (entries_of (counts_of table l))) (one_seen number r s x.0 y.0) in
      let first = sum_by-cons (λ (t : StudyRun). length (run_entries table t)) r a in
      let second = sum_by-cons (λ (t : StudyRun). length (run_entries table t)) s b in
      omega (arith, rest, same, first, second)
