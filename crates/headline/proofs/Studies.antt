-- The runs of a study are those that its chain makes.
use Rattle.std.specs.Prelude.{◌==◌, if◌then◌else◌}
use Rattle.std.proofs.Common.{◌≡◌, ◌<◌, ℕ, suc, true, lt-ltb, List, [], ◌∷◌, length, map, None, Option, ap, ap₂, sym, ◌∙◌, refl, arith}
use Rattle.cbi_base.specs.declared.observation.Observation.{Observation}
use Rattle.cbi_base.specs.declared.outcome.Outcome.{Outcome}
use Rattle.c_syntax.specs.ItemTree.{SourceTree}
use Rattle.c_types_expressions.specs.declared.walk.Walk.{Walk}
use Rattle.flow.specs.declared.site.Site.{Site}
use Rattle.flow.specs.Words.{counts_of, samples, Ending}
use Rattle.countdown_bank.specs.Bank.{BankState, number_after}
use Rattle.report_file.specs.Label.{label_of}
use Rattle.report_file.specs.Report.{entries_of}
use Rattle.elimination_tallies.specs.declared.labelled.LabelledRun.{LabelledRun}
use Rattle.study_runs.specs.declared.plan.StudyPlan.{StudyPlan}
use Rattle.study.proofs.Studying.{OneBank, OneInput}
use Rattle.study.specs.Study.{AreStudyRuns, IsStudyRun, StudyRun, labelled_run}
use Rattle.study.specs.Studied.{run_of, study_form}
use Rattle.command_run.specs.Run.{is_expected_output}
use Rattle.headline.specs.Chain.{AreMadeFor, IsMadeFor, Made, meant_behaviour, meant_run, meant_sites}
use Rattle.headline.specs.Handed.{by_number, made_number, with_first}

-- a run as a ranking sees it, where no output is asked for
abbrev seen-as : List Site → Outcome → List Observation → LabelledRun
seen-as sites outcome seen = record { label = label_of outcome true; entries = entries_of (counts_of sites seen) }

-- the same run by its bank, its input and its turns
abbrev run-by : SourceTree → Walk → BankState → (input : List ℕ) → (turns : ℕ) → (expect : Option (List ℕ)) → LabelledRun
run-by tree known bank input turns expect = record {
  label = label_of (meant_behaviour tree known study_form input turns).outcome (is_expected_output expect (meant_behaviour tree known study_form input turns).output);
  entries = entries_of (counts_of (meant_sites tree known study_form) (samples (number_after bank) (meant_behaviour tree known study_form input turns).seen));
}

module _ (one_bank : OneBank) (one_input : OneInput) (tree : SourceTree) (known : Walk) (plan : StudyPlan) where
  one-made : (number : ℕ) (run : StudyRun) (made : Made) → IsStudyRun tree known plan number run → IsMadeFor plan number made
      → labelled_run (meant_sites tree known study_form) run ≡ meant_run tree known study_form made
  one-made number run made is for =
      let bank : is.bank ≡ made.bank = one_bank plan.seed plan.rate number is.bank made.bank is.input made.files.input is.made for.made_run in
      let input : is.input ≡ made.files.input = one_input plan.seed plan.rate number is.bank made.bank is.input made.files.input is.made for.made_run in
      ap₂ (seen-as (meant_sites tree known study_form)) is.outcome is.seen
      ∙ ap (λ b. run-by tree known b is.input plan.turns None) bank
      ∙ ap (λ i. run-by tree known made.bank i plan.turns None) input
      ∙ ap (λ t. run-by tree known made.bank made.files.input t None) (sym for.turns)
      ∙ ap (λ e. run-by tree known made.bank made.files.input made.words.turns e) (sym for.expect)

  pub all-made : (number : ℕ) (runs : List StudyRun) (made : List Made) → AreStudyRuns tree known plan number runs → AreMadeFor plan number made → length made ≡ length runs
      → map (labelled_run (meant_sites tree known study_form)) runs ≡ map (meant_run tree known study_form) made
  all-made number [] [] are for same = refl
  all-made number [] (one ∷ made) are for same = absurd (omega arith)
  all-made number (run ∷ runs) [] are for same = absurd (omega arith)
  all-made number (run ∷ runs) (one ∷ made) are for same =
      ap₂ (λ first more. first ∷ more) (one-made number run one are.0 for.0) (all-made (suc number) runs made are.1 for.1 (omega arith))

pub length-runs : (endings : List Ending) → length (map run_of endings) ≡ length endings
length-runs [] = refl
length-runs (e ∷ more) = ap suc (length-runs more)

placed-first : (one x : Made) (more : List Made) → made_number one < made_number x → with_first made_number one (x ∷ more) ≡ one ∷ x ∷ more
placed-first one x more less =
    ap (λ before. if before then one ∷ x ∷ more else (if made_number one == made_number x then one ∷ more else x ∷ with_first made_number one more))
    (lt-ltb (made_number one) (made_number x) less)

-- runs that are made for rising numbers stand by number
pub by-rising : (plan : StudyPlan) (number : ℕ) (made : List Made) → AreMadeFor plan number made → by_number made ≡ made
by-rising plan number [] for = refl
by-rising plan number (one ∷ []) for = refl
by-rising plan number (one ∷ x ∷ more) for =
    let less : made_number one < made_number x = omega (arith, for.0.run, for.1.0.run) in
    ap (with_first made_number one) (by-rising plan (suc number) (x ∷ more) for.1) ∙ placed-first one x more less
