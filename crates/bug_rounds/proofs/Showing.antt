-- Bugs that a text can have, and the text of the bugs found.
use Rattle.std.proofs.Common.{◌≡◌, ℕ, zero, suc, ◌≤◌, List, [], ◌∷◌, length, sym, ap, subst, ◌∙◌, arith}
use Rattle.std.specs.Prelude.{All}
use Rattle.std.proofs.lemmas.List.{length-map}
use Rattle.std.proofs.lemmas.List.Elements.{All-cons, All-nil}
use Rattle.collector.specs.Sites.{branches_of}
use Rattle.flow.specs.declared.site.TableParts.{TableParts}
use Rattle.flow.specs.Sites.{IsTable}
use Rattle.report_file.specs.declared.report.Report.{Report}
use Rattle.elimination_tallies.specs.Recount.{failing_runs, run_of_report, runs_of}
use Rattle.suspicious_lines.specs.Suspects.{successful_runs, suspects_of}
use Rattle.suspicious_lines.specs.Text.{IsShown}
use Rattle.suspicious_lines.specs.declared.totals.Totals.{Totals}
use Rattle.suspicious_lines.proofs.Bounds.{suspects-shown}
use Rattle.suspicious_lines.proofs.ListLemmas.{listed-all}
use Rattle.bug_rounds.specs.declared.bug.Bug.{Bug}
use Rattle.bug_rounds.specs.declared.search.Found.{Found}
use Rattle.bug_rounds.specs.Rounds.{AreRounds, IsRound, reports_left_by}
use Rattle.bug_rounds.specs.Search.{AreFound}
use Rattle.bug_rounds.specs.Text.{AreBugsOf, IsBugShown, bugs_text}
use Rattle.bug_rounds.proofs.Leaving.{left-fewer, left-successful}

round-shown : (table : TableParts) (also : ℕ) (reports : List Report) (b : Bug) → IsTable table → length reports ≤ 100000 → IsRound table also reports b → IsBugShown table (successful_runs (runs_of reports)) b
round-shown table also reports b fits few round =
    let runs = runs_of reports in
    subst (λ f. All (IsShown table f (successful_runs runs)) (b.leader ∷ b.others)) (sym round.failing)
    (listed-all (IsShown table (failing_runs runs) (successful_runs runs)) (failing_runs runs) (successful_runs runs) 3 also (suspects_of table runs) (b.leader ∷ b.others) (suspects-shown table runs fits (omega (arith, few, length-map reports run_of_report))) round.listed)

rounds-shown : (table : TableParts) (also most : ℕ) (reports : List Report) (bugs : List Bug) → IsTable table → length reports ≤ 100000 → AreRounds table also most reports bugs → All (IsBugShown table (successful_runs (runs_of reports))) bugs
rounds-shown table also zero reports bugs fits few is = subst (All (IsBugShown table (successful_runs (runs_of reports)))) (sym is) (All-nil (IsBugShown table (successful_runs (runs_of reports))))
rounds-shown table also (suc most) reports [] fits few is = All-nil (IsBugShown table (successful_runs (runs_of reports)))
rounds-shown table also (suc most) reports (b ∷ more) fits few is =
    let bs = branches_of table.sites in
    let p = b.leader.predicate in
    All-cons (IsBugShown table (successful_runs (runs_of reports))) b more (round-shown table also reports b fits few is.0)
    (subst (λ s. All (IsBugShown table s) more) (left-successful bs p reports) (rounds-shown table also most (reports_left_by bs p reports) more fits (omega (arith, few, left-fewer bs p reports)) is.1))

pub found-shown : (table : TableParts) (reports : List Report) (most also : ℕ) (found : Found) (successful : ℕ) → IsTable table → length reports ≤ 100000 → AreFound table reports most also found → successful ≡ successful_runs (runs_of reports) → All (IsBugShown table successful) found.bugs
found-shown table reports most also found successful fits few is same =
    subst (λ s. All (IsBugShown table s) found.bugs) (sym same) (rounds-shown table also most reports found.bugs fits few is.rounds)

pub found-told : (table : TableParts) (reports : List Report) (most also : ℕ) (found : Found) (t : Totals) (text : List ℕ) → AreFound table reports most also found → t.failing ≡ failing_runs (runs_of reports) → t.successful ≡ successful_runs (runs_of reports)
    → text ≡ bugs_text table t.failing t.successful found.rest found.bugs → AreBugsOf table reports most also text
found-told table reports most also found t text is fails succeeds text_is = record {
  bugs = found.bugs;
  rounds = is.rounds;
  text_is = text_is ∙ ap (λ n. bugs_text table n t.successful found.rest found.bugs) fails ∙ ap (λ n. bugs_text table (failing_runs (runs_of reports)) n found.rest found.bugs) succeeds
      ∙ ap (λ n. bugs_text table (failing_runs (runs_of reports)) (successful_runs (runs_of reports)) n found.bugs) is.rest;
}
