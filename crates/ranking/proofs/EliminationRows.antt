-- The leaders of an elimination as rows.
use Rattle.std.proofs.Common.{ℕ, ◌≤◌, Bool, List, [], ◌∷◌, length, sym, subst, ap, arith, cond}
use Rattle.std.specs.Prelude.{filter}
use Rattle.std.proofs.lemmas.List.{length-map}
use Rattle.std.proofs.lemmas.List.Elements.{All-cons, All-nil}
use Rattle.std.proofs.lemmas.List.Sums.{count_by-le-length, length-filter}
use Rattle.cbi_base.specs.declared.policy.Policy.{Policy}
use Rattle.cbi_base.specs.declared.policy.Policy.TheVariants.{All as Every, Failing, Relabel}
use Rattle.collector.specs.Sites.{branches_of}
use Rattle.flow.specs.declared.site.TableParts.{TableParts}
use Rattle.fractions.specs.declared.tally.Tally.{Tally}
use Rattle.fractions.specs.Tally.{IsTally, Passes}
use Rattle.elimination_tallies.specs.declared.labelled.LabelledRun.{LabelledRun}
use Rattle.elimination_tallies.specs.declared.listed.Listed.{Listed}
use Rattle.elimination.specs.Elimination.{IsElimination, runs_after_leader, is_taken, run_as_successful}
use Rattle.elimination_tallies.specs.Leading.{IsLeader}
use Rattle.elimination_tallies.specs.Recount.{failing_runs}
use Rattle.elimination_tallies.proofs.RecountLemmas.{fails-most, recount-failing, recount-tally}
use Rattle.elimination.proofs.EliminationLemmas.{leader-falls}
use Rattle.elimination.proofs.TableLemmas.{count-is}
use Rattle.ranking.specs.Laws.{AreRanked}
use Rattle.ranking.specs.Ranking.{AreRowsOf, IsRowOf}

filtered-most : (p : LabelledRun → Bool) (runs : List LabelledRun) → length (filter p runs) ≤ length runs
filtered-most p runs = omega (arith, length-filter p runs, count_by-le-length p runs)

after-most : (branches : List Bool) (policy : Policy) (leader : ℕ) (runs : List LabelledRun) → length (runs_after_leader branches policy leader runs) ≤ length runs
after-most branches Every leader runs = filtered-most _ runs
after-most branches Failing leader runs = filtered-most _ runs
after-most branches Relabel leader runs = omega (arith, length-map runs (λ r. cond (is_taken branches Relabel leader r) (run_as_successful r) r))

leader-row : (table : TableParts) (runs : List LabelledRun) (row : Listed) → length runs ≤ 100000 → IsLeader (branches_of table.sites) runs row → IsRowOf table row
leader-row table runs row few leads =
    let bs = branches_of table.sites in record {
      is_one = omega (arith, leads.leads.is_one, count-is table.sites);
      tally = subst IsTally (sym leads.tally) (recount-tally bs runs row.predicate few);
      passes = subst Passes (sym leads.tally) leads.leads.passes;
      observed = omega (arith, recount-failing bs runs row.predicate, leads.failing, ap (λ (t : Tally). t.c) leads.tally);
      failing = omega (arith, few, leads.failing, fails-most runs);
    }

rows-fit : (table : TableParts) (policy : Policy) (runs : List LabelledRun) (rows : List Listed) → length runs ≤ 100000 → IsElimination (branches_of table.sites) policy runs rows → AreRowsOf table rows
rows-fit table policy runs [] few is = All-nil (IsRowOf table)
rows-fit table policy runs (row ∷ more) few is =
    let bs = branches_of table.sites in
    All-cons (IsRowOf table) row more (leader-row table runs row few is.0) (rows-fit table policy (runs_after_leader bs policy row.predicate runs) more (omega (arith, few, after-most bs policy row.predicate runs)) is.1)

rows-few : (branches : List Bool) (policy : Policy) (runs : List LabelledRun) (rows : List Listed) → IsElimination branches policy runs rows → length rows ≤ failing_runs runs
rows-few branches policy runs [] is = omega arith
rows-few branches policy runs (row ∷ more) is = omega (arith, rows-few branches policy (runs_after_leader branches policy row.predicate runs) more is.1, leader-falls branches policy runs row is.0)

pub are-ranked : (table : TableParts) (policy : Policy) (runs : List LabelledRun) (rows : List Listed) → length runs ≤ 100000 → IsElimination (branches_of table.sites) policy runs rows → AreRanked table runs rows
are-ranked table policy runs rows few is = record {
  rows_fit = rows-fit table policy runs rows few is;
  few = omega (arith, rows-few (branches_of table.sites) policy runs rows is, fails-most runs);
}
