-- The commands one after another, over the texts that each hands to the next: a written program, runs of it, and what the compiled text means of them.
use Rattle.std.specs.Prelude.{◌≡◌, ℕ, suc, List, [], ◌∷◌, None}
use Rattle.sha2.specs.Sha256.{sha256}
use Rattle.cbi_base.specs.declared.observation.Observation.{Observation}
use Rattle.cbi_base.specs.declared.outcome.Work.{Work}
use Rattle.c_syntax.specs.ItemTree.{SourceTree}
use Rattle.c_types_expressions.specs.declared.walk.Walk.{Walk}
use Rattle.c_meaning.specs.Words.{Behaviour, text_meaning}
use Rattle.defined_functions.specs.Functions.{functions_of}
use Rattle.flow.specs.declared.program.ProgramParts.{ProgramParts}
use Rattle.flow.specs.declared.site.Site.{Site}
use Rattle.flow.specs.declared.site.TableParts.{TableParts}
use Rattle.flow.specs.Words.{counts_of, run_result, MachineEnds, samples, SpellsProgram, Ending}
use Rattle.countdown_bank.specs.Bank.{BankState, number_after}
use Rattle.report_file.specs.declared.report.Report.{Report}
use Rattle.report_file.specs.Label.{label_of}
use Rattle.report_file.specs.Report.{entries_of}
use Rattle.elimination_tallies.specs.declared.labelled.LabelledRun.{LabelledRun}
use Rattle.study_runs.specs.declared.plan.StudyPlan.{StudyPlan}
use Rattle.study_runs.specs.MadeRun.{IsMadeRun}
use Rattle.compiler.specs.Accepted.{IsAccepted}
use Rattle.compiler.specs.Does.{GoesAs}
use Rattle.compiler.specs.Kept.{kept_sites, kept_visits}
use Rattle.compiler.specs.Planned.{part_in, planned_sites}
use Rattle.compiler.specs.declared.plan.Plan.{Plan}
use Rattle.compiler.specs.declared.plan.Plan.TheVariants as plan
use Rattle.command_run.specs.declared.files.RunFiles.{RunFiles}
use Rattle.cbi_options.specs.declared.words.RunWords.{RunWords}
use Rattle.command_run.specs.Run.{IsBankOf, is_expected_output, report_of}

-- which visits a program looks at: each, or those that a bank samples; where it has a part of the sites, of those of the part
abbrev pub looked_at : Plan → (bank : ℕ → ℕ) → List Observation → List Observation
looked_at plan.Plain bank visits = visits
looked_at (plan.Full schemes part) bank visits = kept_visits part visits
looked_at (plan.Sampled schemes part) bank visits = samples bank (kept_visits part visits)

module _ (tree : SourceTree) (known : Walk) (plan : Plan) where
  -- what the text means, with the sites of the plan; a plain program has none
  abbrev pub meant_behaviour : (input : List ℕ) (turns : ℕ) → Behaviour
  meant_behaviour input turns = text_meaning tree known (planned_sites plan tree known) input turns

  -- the table of its program
  abbrev pub meant_sites : List Site
  meant_sites = kept_sites (part_in plan) (planned_sites plan tree known)

  abbrev pub meant_table : TableParts
  meant_table = record { functions = functions_of tree; sites = meant_sites }

  -- a run goes so, and has the sites of the plan
  pub record GoesAsMeant (input : List ℕ) (bank : ℕ → ℕ) (turns : ℕ) (p : ProgramParts) (ending : Ending) : Type 0 where
    pub sites : p.sites ≡ meant_sites
    pub goes : GoesAs (meant_behaviour input turns) (looked_at plan bank (meant_behaviour input turns).seen) p.sites ending

-- the text has a meaning, and each of its meanings, which are one, is that of the run
pub record RunsAsMeant (text : List ℕ) (plan : Plan) (input : List ℕ) (bank : ℕ → ℕ) (turns : ℕ) (p : ProgramParts) (ending : Ending) : Type 0 where
  pub tree : SourceTree
  pub known : Walk
  pub accepted : IsAccepted text tree known
  pub goes : GoesAsMeant tree known plan input bank turns p ending
  pub only : (t : SourceTree) (w : Walk) → IsAccepted text t w → GoesAsMeant t w plan input bank turns p ending

-- what one run is made of: the words of `run`, the bytes of its files, and the bank whose text one of them is
pub record Made : Type 0 where
  pub words : RunWords
  pub files : RunFiles
  pub bank : BankState

-- the report is that of the run of the program that the file spells
pub record IsReportOf (file : List ℕ) (made : Made) (report : Report) : Type 0 where
  pub parts : ProgramParts
  pub ending : Ending
  pub program_is : made.files.program ≡ file
  pub spells : SpellsProgram made.files.program parts
  pub bank_is : IsBankOf made.files.bank made.bank
  pub ends : MachineEnds parts made.files.input (number_after made.bank) made.words.turns ending
  pub report_is : report ≡ report_of made.words made.files (run_result parts.sites ending)

-- each of them stands beside its report, one after another
abbrev pub AreEach : {A : Type 0} → (A → Report → Type 0) → List A → List Report → Type 0
AreEach R [] [] = Unit {0}
AreEach R [] (report ∷ reports) = ⊥
AreEach R (one ∷ more) [] = ⊥
AreEach R (one ∷ more) (report ∷ reports) = R one report × AreEach R more reports

-- these are the reports of these runs
abbrev pub AreReportsOf : List ℕ → List Made → List Report → Type 0
AreReportsOf file made reports = AreEach (IsReportOf file) made reports

-- that run as the text means it: it failed where its meaning traps or doesn't write what it should, and its counters count the visits that its
-- program looks at
abbrev pub meant_run : SourceTree → Walk → Plan → Made → LabelledRun
meant_run tree known plan made = record {
  label = label_of (meant_behaviour tree known plan made.files.input made.words.turns).outcome
      (is_expected_output made.files.expect (meant_behaviour tree known plan made.files.input made.words.turns).output);
  entries = entries_of (counts_of (meant_sites tree known plan)
      (looked_at plan (number_after made.bank) (meant_behaviour tree known plan made.files.input made.words.turns).seen));
}

-- the report of a run as the text means it, whatever its work is said to be
abbrev pub meant_report : SourceTree → Walk → Plan → (file : List ℕ) → Work → Made → Report
meant_report tree known plan file work made = record {
  program = record { bytes = sha256 file };
  run = made.words.run;
  outcome = (meant_behaviour tree known plan made.files.input made.words.turns).outcome;
  label = (meant_run tree known plan made).label;
  work = work;
  entries = (meant_run tree known plan made).entries;
}

-- the run is the one that a study makes for this number: its bank and its line, within the study's turns, and no output is asked for
pub record IsMadeFor (plan : StudyPlan) (number : ℕ) (made : Made) : Type 0 where
  pub run : made.words.run ≡ number
  pub made_run : IsMadeRun plan.seed plan.rate number made.bank made.files.input
  pub turns : made.words.turns ≡ plan.turns
  pub expect : made.files.expect ≡ None

-- so are these, from this number on
abbrev pub AreMadeFor : StudyPlan → ℕ → List Made → Type 0
AreMadeFor plan number [] = Unit {0}
AreMadeFor plan number (made ∷ more) = IsMadeFor plan number made × AreMadeFor plan (suc number) more
