use Rattle.std.proofs.Common.{◌≡◌, ℕ, ◌<◌, Bool, List, [], get_or, length, ap, subst, sym, ◌∙◌, arith}
use Rattle.std.specs.Prelude.{◌==◌, All}
use Rattle.std.specs.List.{list_any}
use Rattle.std.proofs.lemmas.List.{get_or_default}
use Rattle.report_file.specs.declared.report.Entry.{Entry}
use Rattle.elimination_tallies.specs.Predicates.{is_true_in_entry}
use Rattle.compound_counts.specs.Seeing.{seen_row}
use Rattle.compound_counts.proofs.Seeing.{run-next}
use Rattle.compound_counts.proofs.watch.see_run.Goals as goal

pub see_entry-requires-clause-watchers : goal.see_entry-requires-clause-watchers
see_entry-requires-clause-watchers c k d inside =
    let none : Entry = record { site = 0; counts = record { first = 0; second = 0; third = 0 } } in
    let e = get_or c.args.entries.now c.loop-entry.entry-index none in
    let sites = c.args.watch.now.sites.items in
    let there : e.site < length c.args.tallies.now.branches = c.requires.entries.sites c.loop-entry.entry-index none c.loop-entry-test.true in
    let here : c.as_slice-watchers.result.now ≡ get_or sites e.site [] = c.as_slice-watchers.ensures ∙ c.index.ensures ∙ get_or_default sites e.site c.index.result.now [] (omega (arith, there, c.requires.watched.as_many)) in
    subst (λ (ps : List ℕ). All (λ w. w < length ps) c.as_slice-watchers.result.now) (sym c.as_slice-predicates.ensures)
    (subst (All (λ w. w < length c.args.watch.now.predicates)) (sym here) (c.requires.watched.places e.site there)) k d inside

pub loop-entry-preserved : goal.loop-entry-preserved
loop-entry-preserved c =
    let none : Entry = record { site = 0; counts = record { first = 0; second = 0; third = 0 } } in
    let i = c.loop-entry.entry-index in
    let entries = c.args.entries.now in
    let e = get_or entries i none in
    let branches = c.args.tallies.now.branches in
    let predicates = c.args.watch.now.predicates in
    let sites = c.args.watch.now.sites.items in
    let mid = c.loop-entry.rows in
    let there : e.site < length branches = c.requires.entries.sites i none c.loop-entry-test.true in
    let here : c.as_slice-watchers.result.now ≡ get_or sites e.site [] = c.as_slice-watchers.ensures ∙ c.index.ensures ∙ get_or_default sites e.site c.index.result.now [] (omega (arith, there, c.requires.watched.as_many)) in
    let own : ℕ → Bool = λ (k : ℕ). list_any (λ w. w == k) c.as_slice-watchers.result.now in record {
      as_many = c.see_entry.ensures.as_many ∙ c.loop-entry.invariant.as_many;
      seen = run-next branches predicates c.args.rows.now mid c.see_entry.new.rows c.args.place i entries e own c.loop-entry-test.true (get_or_default entries i e none c.loop-entry-test.true)
          (c.requires.entries.positive i none c.loop-entry-test.true) c.loop-entry.invariant.as_many c.requires.room
          (λ k inside. ap (list_any (λ w. w == k)) here ∙ c.requires.watched.own e.site k there (omega (arith, inside, c.requires.as_many)))
          (λ k inside. c.see_entry.ensures.seen k inside ∙ ap (λ (ps : List ℕ). seen_row c.args.place (own k) (is_true_in_entry branches (get_or ps k 0) e) (get_or mid k [])) c.as_slice-predicates.ensures)
          c.loop-entry.invariant.seen;
    }
