-- Runs of a written file on the lines of lists are refused neither before they are made nor later.
use Rattle.std.proofs.Common.{◌≡◌, ◌≤◌, ◌+◌, inl, inr, ℕ, List, [], ◌∷◌, ◌++◌, length, take, Option, Some, None, IsSome, ap, sym, subst, ◌∙◌, refl, arith}
use Rattle.std.specs.FinMap.{get}
use Rattle.std.specs.List.{sum_by}
use Rattle.std.specs.Option.{option_map}
use Rattle.std.proofs.lemmas.Bool.{false≢true}
use Rattle.std.proofs.lemmas.List.{length-take}
use Rattle.base_lists.proofs.Options.{none_some, some_is}
use Rattle.sha2.specs.Sha256.{sha256}
use Rattle.cbi_base.specs.Store.{Held, IsReadOf}
use Rattle.cbi_base.specs.declared.identity.ProgramId.{ProgramId}
use Rattle.cbi_base.specs.declared.refusal.Refusal.{Refusal}
use Rattle.cbi_base.specs.declared.refusal.Refusal.TheVariants.{LargeInput}
use Rattle.flow.specs.declared.program.ProgramParts.{ProgramParts}
use Rattle.flow.specs.Words.{SpellsProgram}
use Rattle.report_file.specs.declared.report.Report.{Report}
use Rattle.collector.specs.Collected.{mark_limit}
use Rattle.elimination_tallies.specs.declared.labelled.LabelledRun.{LabelledRun}
use Rattle.elimination_tallies.specs.Recount.{run_of_report}
use Rattle.planned_runs.specs.Left.{IsNextCrowding, PlanRefusedBy}
use Rattle.planned_runs.specs.Runs.{planned_reports}
use Rattle.planned_runs.proofs.Lists.{marks_same}
use Rattle.command_run.specs.Files.{input_limit}
use Rattle.cbi_options.specs.declared.words.RunsWords.{RunsWords}
use Rattle.command_runs.specs.declared.plan.ListedPlan.{ListedPlan}
use Rattle.command_runs.specs.declared.texts.ListTexts.{ListTexts}
use Rattle.command_runs.specs.Line.{IsMadeOn, RefusesLine}
use Rattle.command_runs.specs.Lists.{AreListTexts, IsLinesPlan, SpellLists}
use Rattle.command_runs.specs.Runs.{ListedRefused}
use Rattle.command_runs.proofs.ListLemmas.{OneList, lists-once, never-refused}
use Rattle.command_runs.proofs.RunsLemmas.{never-listed}
use Rattle.headline.specs.Calls.{AreCallsFor}
use Rattle.headline.specs.Chain.{IsReportOf, Made}
use Rattle.headline.specs.Handed.{HoldsText}
use Rattle.headline.specs.UnrefusedRuns.{InputsFit}
use Rattle.headline.proofs.CallReports.{call-reports}
use Rattle.headline.proofs.Chaining.{OneProgram}
use Rattle.headline.proofs.ListedRanked.{have-calls}
use Rattle.headline.proofs.Numbered.{lines}

-- what is read of bytes that fit fits
taken-fits : (o : Option (List ℕ)) (max limit : ℕ) (bytes : List ℕ) → ((all : List ℕ) → o ≡ Some all → length all ≤ limit) → option_map (take max) o ≡ Some bytes → length bytes ≤ limit
taken-fits None max limit bytes fits read = absurd (none_some read)
taken-fits (Some all) max limit bytes fits read =
    let same = ap length (some_is read) in
    omega (arith, fits all refl, length-take max all, same)

read-fits : (held : Option Held) (name : List ℕ) (max limit : ℕ) (bytes : List ℕ) → IsSome held → ((all : List ℕ) → HoldsText held name all → length all ≤ limit) → IsReadOf held name max bytes
    → length bytes ≤ limit
read-fits None name max limit bytes tells fits read = absurd (false≢true tells)
read-fits (Some h) name max limit bytes tells fits read = taken-fits (get h name) (max + 1) limit bytes fits read

-- no line is refused
no-line : (plan : ListedPlan) (held : Option Held) (number : ℕ) (refusal : Refusal) → IsSome held → InputsFit held plan → RefusesLine plan held number refusal → ⊥
no-line plan held number (LargeInput line) tells fit refused =
    let fits = read-fits held refused.name input_limit input_limit refused.bytes.input tells (λ all holds. fit number refused.name all refused.stands holds) refused.are_bytes.input_read in
    omega (arith, fits, refused.large)
no-line plan held number _ tells fit refused = refused

module _ (one_list : OneList) (one_program : OneProgram) (file : List ℕ) (p : ProgramParts) (spells : SpellsProgram file p) (run : Made → LabelledRun)
    (means : (one : Made) (r : Report) → IsReportOf file one r → run_of_report r ≡ run one) (r : RunsWords) (held : Option Held) (texts : ListTexts) (plan : ListedPlan) (tells : IsSome held)
    (same : texts.program ≡ file) (few : (made : List Made) → AreCallsFor file held r.turns plan plan.first made → sum_by (λ m. length (run m).entries) made ≤ mark_limit) where
  -- nor are the lines' runs too many
  no-crowd : (refusal : Refusal) → IsNextCrowding p (IsMadeOn plan held) plan.first (length plan.inputs) r.turns refusal → ⊥
  no-crowd refusal crowd =
      let runs = crowd.earlier ++ crowd.last ∷ [] in
      let id : ProgramId = record { bytes = sha256 texts.program } in
      let calls = have-calls held r file p plan plan.first runs crowd.are in
      let reports = call-reports file texts.program same held tells r.turns p (subst (λ bytes. SpellsProgram bytes p) (sym same) spells) plan plan.first calls.made runs calls.as_many calls.are crowd.are in
      let marks = sym (marks_same p id plan.first runs) ∙ lines file run means calls.made (planned_reports p id plan.first runs) reports in
      omega (arith, crowd.many, few calls.made calls.are, marks)

  no-plan : (refusal : Refusal) → InputsFit held plan → PlanRefusedBy p (IsMadeOn plan held) plan.first (length plan.inputs) r.turns (RefusesLine plan held) refusal → ⊥
  no-plan refusal fit (inl next) = no-line plan held (plan.first + length next.earlier) refusal tells fit next.refused
  no-plan refusal fit (inr crowd) = no-crowd refusal crowd

  pub no-runs : AreListTexts held r texts → SpellLists r texts plan → InputsFit held plan → ListedRefused r held → ⊥
  no-runs are spelled fit refused =
      let is_plan : IsLinesPlan held r texts p plan = record {
        are_texts = are;
        spell = record { program = subst (λ bytes. SpellsProgram bytes p) (sym same) spells; lists = spelled };
      } in
      never-listed r held held texts p plan (length plan.inputs) is_plan refl refl
      (λ q other spell. (one_program texts.program p q is_plan.spell.program spell.program, lists-once one_list r texts plan other spelled spell.lists)) tells
      (never-refused one_list r texts p plan is_plan.spell) (λ refusal by still. no-plan refusal fit by) refused
