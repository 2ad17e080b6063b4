-- The numbers of suspects are over their runs.
use Rattle.std.proofs.Common.{◌≡◌, ℕ, ◌+◌, ◌<◌, ◌≤◌, Bool, ◌&&◌, cond, List, [], ◌∷◌, length, sym, ap, subst, arith}
use Rattle.std.specs.Prelude.{All, Contains, slice_index_or}
use Rattle.std.proofs.lemmas.Bool.{and_parts}
use Rattle.std.proofs.lemmas.List.Elements.{Contains-get_or}
use Rattle.std.proofs.lemmas.List.Sums.{sum_by-cons, sum_by-le-sum_by}
use Rattle.base_lists.proofs.Tests.{test_rises}
use Rattle.collector.specs.Sites.{branches_of}
use Rattle.report_file.specs.declared.label.Label.{Label}
use Rattle.report_file.specs.declared.label.Label.TheVariants.{Fail, Pass, Uncounted}
use Rattle.fractions.specs.declared.tally.Tally.{Tally}
use Rattle.fractions.specs.Tally.{IsTally}
use Rattle.base_lists.proofs.Every.{every_at}
use Rattle.flow.specs.declared.site.Site.{Site}
use Rattle.flow.specs.declared.site.TableParts.{TableParts}
use Rattle.flow.specs.Sites.{IsTable}
use Rattle.flow.proofs.PredicateOrder.{predicate-counted}
use Rattle.elimination_tallies.specs.declared.labelled.LabelledRun.{LabelledRun}
use Rattle.elimination_tallies.specs.Recount.{failing_runs, is_failing, is_successful, is_true, recount}
use Rattle.elimination_tallies.specs.Scanning.{tally_at}
use Rattle.elimination_tallies.specs.Tallies.{AreRecounts, Tallies}
use Rattle.elimination_tallies.proofs.RecountLemmas.{recount-failing, recount-tally, recounts-numbers}
use Rattle.elimination.proofs.TableLemmas.{count-is}
use Rattle.association.specs.declared.suspect.Suspect.{Suspect}
use Rattle.association.specs.Order.{IsOfRuns}
use Rattle.suspicious_lines.specs.Suspects.{successful_runs, suspects_from, suspects_of}
use Rattle.suspicious_lines.specs.Text.{IsShown}
use Rattle.suspicious_lines.proofs.Finding.{suspect-of, suspects-same}

one-total : (l : Label) → cond (is_failing l) 1 0 + cond (is_successful l) 1 0 ≤ 1
one-total Fail = omega arith
one-total Pass = omega arith
one-total Uncounted = omega arith

pub totals-most : (runs : List LabelledRun) → failing_runs runs + successful_runs runs ≤ length runs
totals-most [] = omega arith
totals-most (r ∷ more) =
    omega (arith, totals-most more, one-total r.label, sum_by-cons (λ (x : LabelledRun). cond (is_failing x.label) 1 0) r more, sum_by-cons (λ (x : LabelledRun). cond (is_successful x.label) 1 0) r more)

successful-most : (branches : List Bool) (runs : List LabelledRun) (p : ℕ) → (recount branches runs p).b ≤ successful_runs runs
successful-most branches runs p =
    sum_by-le-sum_by (λ (r : LabelledRun). cond (is_successful r.label && is_true branches p r) 1 0) (λ (r : LabelledRun). cond (is_successful r.label) 1 0) runs
    (λ r. test_rises (is_successful r.label && is_true branches p r) (is_successful r.label) (λ has. (and_parts (is_successful r.label) (is_true branches p r) has).0))

of-recount : (branches : List Bool) (runs : List LabelledRun) (s : Suspect) → length runs ≤ 100000 → s.tally ≡ recount branches runs s.predicate → IsOfRuns (failing_runs runs) (successful_runs runs) s
of-recount branches runs s few is =
    let tally = recount-tally branches runs s.predicate few in record {
      table = record {
        some_failing = omega (arith, ap (λ (t : Tally). t.a) is, tally.failing, recount-failing branches runs s.predicate);
        some_successful = omega (arith, ap (λ (t : Tally). t.b) is, successful-most branches runs s.predicate);
        runs = omega (arith, totals-most runs, few);
      };
      tally = subst IsTally (sym is) tally;
    }

pub suspect-runs : (table : TableParts) (runs : List LabelledRun) (s : Suspect) → length runs ≤ 100000 → Contains (suspects_of table runs) s → IsOfRuns (failing_runs runs) (successful_runs runs) s
suspect-runs table runs s few has =
    of-recount (branches_of table.sites) runs s few (ap (λ (x : Suspect). x.tally) (suspect-of (recount (branches_of table.sites) runs) 0 table.sites s has).is)

pub suspects-runs : (table : TableParts) (runs : List LabelledRun) → length runs ≤ 100000 → All (IsOfRuns (failing_runs runs) (successful_runs runs)) (suspects_of table runs)
suspects-runs table runs few k d less = suspect-runs table runs (slice_index_or (suspects_of table runs) k d) few (Contains-get_or (suspects_of table runs) k d less)

-- by kept numbers they are those of the runs
pub suspects-kept : (table : TableParts) (runs : List LabelledRun) (kept : Tallies) → AreRecounts (branches_of table.sites) runs kept → suspects_from (tally_at kept.tallies) 0 table.sites ≡ suspects_of table runs
suspects-kept table runs kept recounts =
    suspects-same (tally_at kept.tallies) (recount (branches_of table.sites) runs) 0 table.sites
    (λ p less. recounts-numbers (branches_of table.sites) runs kept p recounts (omega (arith, less, count-is table.sites)))

-- a suspect can stand in a text
pub suspect-shown : (table : TableParts) (runs : List LabelledRun) (s : Suspect) → IsTable table → length runs ≤ 100000 → Contains (suspects_of table runs) s → IsShown table (failing_runs runs) (successful_runs runs) s
suspect-shown table runs s fits few has =
    let it = suspect-of (recount (branches_of table.sites) runs) 0 table.sites s has in
    let counted = predicate-counted table.sites s.predicate it.place it.number it.site (record { stands = it.stands; own = it.own; is = omega (arith, it.predicate) }) in
    let owner : it.site.function < length table.functions = every_at (λ (x : Site). x.function < length table.functions) table.sites fits.owners it.place it.site it.stands in record {
      predicate = counted;
      function = omega (arith, owner, ap (λ (x : Suspect). x.function) it.is);
      runs = suspect-runs table runs s few has;
    }

pub suspects-shown : (table : TableParts) (runs : List LabelledRun) → IsTable table → length runs ≤ 100000 → All (IsShown table (failing_runs runs) (successful_runs runs)) (suspects_of table runs)
suspects-shown table runs fits few k d less = suspect-shown table runs (slice_index_or (suspects_of table runs) k d) fits few (Contains-get_or (suspects_of table runs) k d less)
