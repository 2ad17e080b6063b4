-- From what `run` did to what the text means of it.
use Rattle.std.proofs.Common.{◌≡◌, ℕ, List, Option, ap, subst, ◌∙◌, refl}
use Rattle.sha2.specs.Sha256.{sha256}
use Rattle.cbi_base.specs.declared.observation.Observation.{Observation}
use Rattle.cbi_base.specs.declared.outcome.Outcome.{Outcome}
use Rattle.cbi_base.specs.declared.outcome.Work.{Work}
use Rattle.cbi_base.specs.Words.{Takes, Held}
use Rattle.c_syntax.specs.ItemTree.{SourceTree}
use Rattle.c_types_expressions.specs.declared.walk.Walk.{Walk}
use Rattle.flow.specs.declared.program.ProgramParts.{ProgramParts}
use Rattle.flow.specs.declared.site.Site.{Site}
use Rattle.flow.specs.Words.{counts_of, run_result, OneEnding, SpellsProgram}
use Rattle.probes.specs.Told.{AllGrew}
use Rattle.report_file.specs.declared.report.Report.{Report}
use Rattle.report_file.specs.Label.{label_of}
use Rattle.report_file.specs.Report.{entries_of}
use Rattle.compiler.specs.Accepted.{IsAccepted}
use Rattle.compiler.specs.Compiled.{IsCompiled}
use Rattle.compiler.specs.declared.plan.Plan.{Plan}
use Rattle.compiler.proofs.Refusing.{OneKnown, OneTree}
use Rattle.command_base.specs.Outside.{Outside}
use Rattle.cbi_options.specs.declared.words.RunWords.{RunWords}
use Rattle.command_run.specs.Run.{IsReported, Ran, Reports, is_expected_output, report_of}
use Rattle.headline.specs.Chain.{IsReportOf, Made, meant_behaviour, meant_report, meant_sites}
use Rattle.headline.specs.Running.{DoesAsMeant, ReportsAsMeant, made_of}
use Rattle.headline.proofs.Chaining.{OneProgram}
use Rattle.headline.proofs.Ranking.{run-goes}

-- the report of a run that was reported
abbrev pub report_in : (r : RunWords) (before after : Option Held) → IsReported r before after → Report
report_in r before after is = report_of r is.files (run_result is.parts.sites is.ending)

pub is-report-of : (file : List ℕ) (r : RunWords) (before after : Option Held) (is : IsReported r before after) → is.files.program ≡ file
    → IsReportOf file (made_of r before after is) (report_in r before after is)
is-report-of file r before after is same = record {
  parts = is.parts;
  ending = is.ending;
  program_is = same;
  spells = is.run.loaded.spells;
  bank_is = is.run.loaded.bank_is;
  ends = is.run.ends;
  report_is = refl;
}

-- a report by how the run ended, what it wrote and what was seen at which sites
abbrev report-by : Made → Work → Outcome → (output : List ℕ) → List Site → List Observation → Report
report-by made work outcome output sites seen = record {
  program = record { bytes = sha256 made.files.program };
  run = made.words.run;
  outcome = outcome;
  label = label_of outcome (is_expected_output made.files.expect output);
  work = work;
  entries = entries_of (counts_of sites seen);
}

module _ (one_ending : OneEnding) (one_program : OneProgram) (one_tree : OneTree) (one_known : OneKnown) (text file : List ℕ) (by : Plan) (p : ProgramParts) (compiled : IsCompiled text by p) (spells : SpellsProgram file p)
    (tree : SourceTree) (known : Walk) (accepted : IsAccepted text tree known) where
  -- a report is that of the meaning, but for its work
  pub report-means : (made : Made) (report : Report) (is : IsReportOf file made report) → report ≡ meant_report tree known by made.files.program is.ending.work made
  report-means made report is =
      let goes = run-goes one_ending one_program one_tree one_known text file by p compiled spells tree known accepted made report is in
      let m = meant_behaviour tree known by made.files.input made.words.turns in
      is.report_is
      ∙ ap (λ o. report-by made is.ending.work o is.ending.output is.parts.sites is.ending.seen) goes.goes.outcome
      ∙ ap (λ w. report-by made is.ending.work m.outcome w is.parts.sites is.ending.seen) goes.goes.output
      ∙ ap (λ s. report-by made is.ending.work m.outcome m.output s is.ending.seen) goes.sites
      ∙ ap (λ v. report-by made is.ending.work m.outcome m.output (meant_sites tree known by) v) goes.goes.seen_is

  pub reports-as-meant : (r : RunWords) (before after : Option Held) (is : IsReported r before after) → is.files.program ≡ file
      → ReportsAsMeant tree known by (made_of r before after is) before after
  unfolding is-report-of
  reports-as-meant r before after is same = record {
    are_files = is.run.loaded.are_files;
    bank_is = is.run.loaded.bank_is;
    work = is.ending.work;
    reported = subst (Reports r.report before after) (report-means (made_of r before after is) (report_in r before after is) (is-report-of file r before after is same)) is.reported;
  }

  pub does-as-meant : {B : Type 0} (told : B → List Observation) (r : RunWords) (before after : Outside B) (ran : Ran told r before after) → ran.is.files.program ≡ file
      → DoesAsMeant tree known by (made_of r before.held after.held ran.is) told before after
  unfolding is-report-of
  does-as-meant told r before after ran same =
      let goes = run-goes one_ending one_program one_tree one_known text file by p compiled spells tree known accepted (made_of r before.held after.held ran.is) (report_in r before.held after.held ran.is) (is-report-of file r before.held after.held ran.is same) in record {
        reports = reports-as-meant r before.held after.held ran.is same;
        took = subst (Takes before.out after.out) goes.goes.output ran.took;
        grew = subst (λ v. AllGrew told v before.boxes after.boxes) goes.goes.seen_is ran.grew;
      }
