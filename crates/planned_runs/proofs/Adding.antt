-- What one more run does: its counters fit a report, and its report is held.
use Rattle.std.proofs.Common.{◌≡◌, ◌≤◌, inr, ℕ, suc, List, [], ◌∷◌, length, All, ap, sym, refl, subst, ◌∙◌, arith}
use Rattle.cbi_base.specs.declared.identity.ProgramId.{ProgramId}
use Rattle.cbi_base.specs.declared.observation.Observation.{Observation}
use Rattle.cbi_base.specs.declared.outcome.Counts.{Counts}
use Rattle.collector.specs.declared.collection.Held.{Held}
use Rattle.collector.specs.Collected.{IsOfCollection}
use Rattle.collector.specs.Sites.{branches_of, first_bad}
use Rattle.countdown_bank.specs.Bank.{BankState, number_after}
use Rattle.command_base.specs.declared.fault.Fault.{Fault}
use Rattle.command_base.specs.declared.fault.Fault.TheVariants as fault
use Rattle.command_base.specs.Faults.{HasCause}
use Rattle.expected.specs.Expected.{is_expected_output}
use Rattle.flow.specs.declared.program.ProgramParts.{ProgramParts}
use Rattle.flow.specs.declared.result.RunResult.{RunResult}
use Rattle.flow.specs.declared.site.Site.{Site}
use Rattle.flow.specs.Words.{counts_from, MachineEnds, IsProgram}
use Rattle.machine.specs.Going.{AreBounded, HasRun, IsBounded}
use Rattle.machine_laws.specs.Laws.{ReportsOfRunsAreTaken}
use Rattle.report_file.specs.declared.label.Label.{Label}
use Rattle.report_file.specs.declared.report.Report.{Report}
use Rattle.report_file.specs.Label.{label_of}
use Rattle.report_file.specs.Report.{AreAllCounts, IsSummary, entries_of}
use Rattle.planned_runs.specs.declared.input.RunInput.{RunInput}
use Rattle.planned_runs.specs.Runs.{JudgedRun, planned_report}
use Rattle.planned_runs.specs.Steps.{HasEnded, Holds, IsOfProgram, IsOverfull, IsRunHeld, RunFailed}

pub length_counts : (number : ℕ) (sites : List Site) (seen : List Observation) → length (counts_from number sites seen) ≡ length sites
length_counts number [] seen = refl
length_counts number (s ∷ sites) seen = ap suc (length_counts (suc number) sites seen)

pub bounded_counts : (counts : List Counts) → All AreBounded counts → AreAllCounts counts
bounded_counts [] all = tt
bounded_counts (c ∷ more) all =
    let here = all 0 c (omega arith) in
    (record { first = here.0; second = here.1; third = here.2 }, bounded_counts more (λ k d below. all (suc k) d (omega arith)))

-- the report of what a run came to
abbrev pub report_with : ProgramId → ℕ → Label → RunResult → Report
report_with id number label ran = record { program = id; run = number; outcome = ran.outcome; label = label; work = ran.work; entries = entries_of ran.counts }

module _ {B : Type 0} (p : ProgramParts) (id : ProgramId) (number turns : ℕ) (told : B → List Observation) (before after : List B) (on : RunInput) (bank rest : BankState) (slice : List ℕ)
    (ran : RunResult) (h : HasRun p slice turns ran bank rest told before after) (same : slice ≡ on.input) (drawn_from : bank ≡ on.bank) where
  pub summed : IsBounded ran → IsProgram p → IsSummary (record { outcome = ran.outcome; work = ran.work; counts = ran.counts })
  summed bounded is = record {
    few = subst (λ (x : RunResult). length x.counts ≤ 65536) (sym h.result_is) (subst (λ n. n ≤ 65536) (sym (length_counts 0 p.sites h.ending.seen)) is.parts.sites.few);
    work = record { fast = bounded.fast; slow = bounded.slow; tests = bounded.tests };
    counts = bounded_counts ran.counts bounded.counts;
  }

  -- the report is one of the program's, of its sites
  pub ours : (report : Report) (c : Held) (label : Label) → IsProgram p → ReportsOfRunsAreTaken → IsOfProgram p id c → report ≡ report_with id number label ran → IsOfCollection c report
  ours report c label is law own report_is = record {
    program = ap (λ (r : Report). r.program) report_is ∙ sym own.program;
    sites = ap (λ bs. first_bad bs report.entries) own.branches
        ∙ ap (first_bad (branches_of p.sites)) (ap (λ (r : Report). r.entries) report_is ∙ ap (λ (x : RunResult). entries_of x.counts) h.result_is)
        ∙ law p slice (number_after bank) turns h.ending is h.ends;
  }

  -- the run, as it ended
  abbrev judged : JudgedRun
  judged = record { ending = h.ending; is_right = is_expected_output on.expect h.ending.output }

  ended : HasEnded p id number turns told before after on judged
  ended = record {
    ends = subst (λ b. MachineEnds p on.input (number_after b) turns h.ending) drawn_from (subst (λ i. MachineEnds p i (number_after bank) turns h.ending) same h.ends);
    right_is = refl;
    grew = h.grew;
  }

  labelled : (label : Label) → label ≡ label_of ran.outcome (is_expected_output on.expect ran.output) → label ≡ label_of h.ending.outcome (is_expected_output on.expect h.ending.output)
  labelled label is = is ∙ ap (λ (x : RunResult). label_of x.outcome (is_expected_output on.expect x.output)) h.result_is

  planned : (label : Label) (report : Report) → label ≡ label_of ran.outcome (is_expected_output on.expect ran.output) → report ≡ report_with id number label ran → report ≡ planned_report p id number judged
  planned label report is report_is =
      report_is ∙ ap (λ l. report_with id number l ran) (labelled label is)
      ∙ ap (λ (x : RunResult). report_with id number (label_of h.ending.outcome (is_expected_output on.expect h.ending.output)) x) h.result_is

  pub held : (label : Label) (report : Report) (c d : Held) → IsBounded ran → label ≡ label_of ran.outcome (is_expected_output on.expect ran.output) → report ≡ report_with id number label ran
      → Holds report c d → IsRunHeld p id number turns told before after on (record { outcome = ran.outcome; work = ran.work; label = label }) c d
  held label report c d bounded is report_is holds = record {
    run = judged;
    ended = ended;
    outcome = ap (λ (x : RunResult). x.outcome) h.result_is;
    work = ap (λ (x : RunResult). x.work) h.result_is;
    label = labelled label is;
    is_work = record { fast = bounded.fast; slow = bounded.slow; tests = bounded.tests };
    holds = subst (λ r. Holds r c d) (planned label report is report_is) holds;
  }

  -- want of memory after the run ended
  pub ended-then : (c : Held) → RunFailed p id number turns told before after on c fault.Memory
  ended-then c = inr (judged, ended)

  -- the report wasn't held
  pub not-held : (label : Label) (report : Report) (c : Held) (e : Fault) → label ≡ label_of ran.outcome (is_expected_output on.expect ran.output) → report ≡ report_with id number label ran
      → HasCause e (λ n. ⊥) ⊥ (IsOverfull report c) → RunFailed p id number turns told before after on c e
  not-held label report c (fault.Read name) is report_is cause = absurd cause
  not-held label report c fault.Write is report_is cause = absurd cause
  not-held label report c (fault.Refused refusal) is report_is cause =
      let over : IsOverfull (planned_report p id number judged) c refusal = subst (λ r. IsOverfull r c refusal) (planned label report is report_is) cause in
      record { run = judged; ended = ended; refusal_is = over.refusal_is; many = over.many }
  not-held label report c fault.Memory is report_is cause = ended-then c
