use Rattle.std.proofs.Common.{◌≡◌, ◌+◌, ◌*◌, ◌/◌, ◌<◌, Bool, false, true, List, [], get_or, length, map, set, rules, ap, subst, sym, ◌∙◌, arith}
use Rattle.std.specs.Prelude.{replicate}
use Rattle.std.proofs.lemmas.List.{length-map, with_items_is}
use Rattle.elimination_tallies.proofs.RunLemmas.{are-entries}
use Rattle.compound_bits.specs.Facts.{Fact, no_fact}
use Rattle.report_file.specs.declared.report.Entry.{Entry}
use Rattle.elimination_tallies.specs.Recount.{runs_of}
use Rattle.elimination_tallies.specs.Runs.{AreEntriesOf}
use Rattle.compound_counts.specs.Rows.{AreRowsUpTo, fact_in, fact_of, room_for}
use Rattle.compound_counts.specs.Runs.{counted_runs, is_counted_label, run_count}
use Rattle.compound_counts.proofs.Cuts.{counted-few, cut-later}
use Rattle.compound_counts.proofs.RowLemmas.{place-room, row-fresh, rows-end, rows-next, rows-skip, rows-start}
use Rattle.compound_counts.proofs.watch.rows_of.Goals as goal

pub loop-report-init : goal.loop-report-init
loop-report-init c = (
  rows-start c.args.tallies.now.branches c.args.watch.now.predicates (room_for (run_count c.args.failing (runs_of c.args.collection.now.reports))) c.len.result c.args.failing c.args.collection.now c.in_ok-rows.rows.items c.keeps.ensures c.len.ensures
      (c.in_ok-rows.ensures ∙ ap (λ n. replicate c.len.result (replicate (64 * (n / 64 + 1)) no_fact)) c.run_count.ensures.value),
  omega arith,
)

pub loop-report-smaller-then-not-counts : goal.loop-report-smaller-then-not-counts
loop-report-smaller-then-not-counts c =
    let so_far = c.loop-report.invariant.0 in
    omega (arith, cut-later c.args.collection.now.reports c.loop-report.last so_far.before so_far.after c.in-Some.report.now so_far.cut (sym c.in-Some.ensures.value), c.in-Some.ensures.is_report.run.most)

pub loop-report-preserved-then-not-counts : goal.loop-report-preserved-then-not-counts
loop-report-preserved-then-not-counts c =
    let no : c.counts.result ≡ false = search rules in (
      rows-skip c.args.tallies.now.branches c.args.watch.now.predicates (room_for (run_count c.args.failing (runs_of c.args.collection.now.reports))) c.args.failing c.args.collection.now.reports c.loop-report.last c.loop-report.place
          c.loop-report.rows.items c.in-Some.report.now (sym c.in-Some.ensures.value) (sym c.counts.ensures ∙ no) c.loop-report.invariant.0,
      omega (arith, c.in-Some.ensures.is_report.run.most),
    )

pub see_run-requires-clause-room : goal.see_run-requires-clause-room
see_run-requires-clause-room c k inside =
    let so_far = c.loop-report.invariant.0 in
    let yes : c.counts.result ≡ true = search rules in
    let room = place-room c.args.tallies.now.branches c.args.watch.now.predicates (room_for (run_count c.args.failing (runs_of c.args.collection.now.reports))) c.args.failing c.args.collection.now.reports c.loop-report.last c.loop-report.place
    c.loop-report.rows.items c.in-Some.report.now (sym c.in-Some.ensures.value) (sym c.counts.ensures ∙ yes) so_far in
    let within : k < length c.args.watch.now.predicates = omega (arith, inside, ap length c.as_mut_slice.ensures.value, so_far.rows_are.as_many) in
    subst (λ (xs : List (List Fact)). c.loop-report.place < length (get_or xs k [])) (sym c.as_mut_slice.ensures.value) (omega (arith, room, so_far.rows_are.rooms k within))

pub see_run-requires-clause-fresh : goal.see_run-requires-clause-fresh
see_run-requires-clause-fresh c k inside =
    let so_far = c.loop-report.invariant.0 in
    let within : k < length c.args.watch.now.predicates = omega (arith, inside, ap length c.as_mut_slice.ensures.value, so_far.rows_are.as_many) in
    let runs = counted_runs c.args.failing (runs_of so_far.before) in
    let f = fact_of c.args.tallies.now.branches (get_or c.args.watch.now.predicates k 0) in
    subst (λ (xs : List (List Fact)). get_or (get_or xs k []) c.loop-report.place no_fact ≡ no_fact) (sym c.as_mut_slice.ensures.value)
    (row-fresh (map f runs) (get_or c.loop-report.rows.items k []) c.loop-report.place (so_far.rows_are.each k within) (length-map runs f ∙ sym so_far.place_is))

pub see_run-requires-clause-entries : goal.see_run-requires-clause-entries
see_run-requires-clause-entries c =
    let r = c.in-Some.report.now in
    subst (AreEntriesOf c.args.tallies.now.branches) (sym c.as_slice-entries.ensures)
    (subst (λ (bs : List Bool). AreEntriesOf bs r.entries) (sym c.requires.branches) (are-entries c.args.collection.now r c.in-Some.ensures.is_report c.in-Some.ensures.ours))

pub overflow_add-place : goal.overflow_add-place
overflow_add-place c =
    let yes : c.counts.result ≡ true = search rules in
    let room = place-room c.args.tallies.now.branches c.args.watch.now.predicates (room_for (run_count c.args.failing (runs_of c.args.collection.now.reports))) c.args.failing c.args.collection.now.reports c.loop-report.last c.loop-report.place
    c.loop-report.rows.items c.in-Some.report.now (sym c.in-Some.ensures.value) (sym c.counts.ensures ∙ yes) c.loop-report.invariant.0 in
    record { fits = omega (arith, room, counted-few c.args.failing c.args.collection.now c.keeps.ensures) }

pub loop-report-smaller : goal.loop-report-smaller
loop-report-smaller c =
    let so_far = c.loop-report.invariant.0 in
    omega (arith, cut-later c.args.collection.now.reports c.loop-report.last so_far.before so_far.after c.in-Some.report.now so_far.cut (sym c.in-Some.ensures.value), c.in-Some.ensures.is_report.run.most)

pub loop-report-preserved : goal.loop-report-preserved
loop-report-preserved c =
    let branches = c.args.tallies.now.branches in
    let predicates = c.args.watch.now.predicates in
    let reports = c.args.collection.now.reports in
    let failing = c.args.failing in
    let room = room_for (run_count failing (runs_of reports)) in
    let r = c.in-Some.report.now in
    let place = c.loop-report.place in
    let old = c.loop-report.rows.items in
    let new = c.see_run.new.rows in
    let value : c.as_mut_slice.result.now ≡ old = c.as_mut_slice.ensures.value in
    let yes : c.counts.result ≡ true = search rules in
    let counted : is_counted_label failing r.label ≡ true = sym c.counts.ensures ∙ yes in
    let next = place-room branches predicates room failing reports c.loop-report.last place old r (sym c.in-Some.ensures.value) counted c.loop-report.invariant.0 in
    let items = with_items_is c.loop-report.rows new (omega (arith, c.see_run.ensures.as_many, c.as_mut_slice.ensures.len)) in (
      subst (AreRowsUpTo branches predicates room failing reports r.run (place + 1)) (sym items)
          (rows-next branches predicates room failing reports c.loop-report.last place old new r (sym c.in-Some.ensures.value) counted (omega (arith, next)) (c.see_run.ensures.as_many ∙ ap length value)
          (λ k inside. c.see_run.ensures.seen k (omega (arith, inside, ap length value)) ∙ ap (λ (xs : List (List Fact)). set (get_or xs k []) place (fact_in branches (get_or predicates k 0) c.as_slice-entries.result.now)) value
          ∙ ap (λ (es : List Entry). set (get_or old k []) place (fact_in branches (get_or predicates k 0) es)) c.as_slice-entries.ensures)
          c.loop-report.invariant.0),
      omega (arith, c.in-Some.ensures.is_report.run.most),
    )

pub returns : goal.returns
returns c =
    rows-end c.args.tallies.now.branches c.args.watch.now.predicates (room_for (run_count c.args.failing (runs_of c.args.collection.now.reports))) c.args.failing c.args.collection.now.reports c.loop-report.last c.loop-report.place
    c.loop-report.rows.items (sym c.in_default.ensures.value) c.loop-report.invariant.0
