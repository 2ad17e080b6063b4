use Rattle.std.proofs.Common.{ℕ, true, false, List, get_or, subst, sym, ◌∙◌, arith}
use Rattle.elimination_tallies.specs.Recount.{runs_of}
use Rattle.compound_counts.specs.Rows.{AreFactRows, room_for}
use Rattle.compound_counts.specs.Runs.{counted_runs, run_count}
use Rattle.compound_counts.proofs.Counting.{numbers-are}
use Rattle.compound_counts.proofs.Cuts.{counted-few}
use Rattle.compound_counts.proofs.RowLemmas.{rows-even}
use Rattle.compound_counts.proofs.counter.PairCounter.new.Goals as goal

pub invariant_of-result : goal.invariant_of-result
invariant_of-result c =
    let branches = c.args.tallies.now.branches in
    let runs = runs_of c.args.collection.now.reports in
    let predicates = c.in_ok-watch.watch.predicates in
    let failing = c.in_ok-failing.ensures in
    let successful = c.in_ok-successful.ensures in record {
      as_many = successful.as_many ∙ sym failing.as_many;
      failing_even = rows-even branches predicates (room_for (run_count true runs)) (counted_runs true runs) c.in_ok-failing.failing.items (omega (arith, counted-few true c.args.collection.now c.keeps.ensures)) failing;
      successful_even = rows-even branches predicates (room_for (run_count false runs)) (counted_runs false runs) c.in_ok-successful.successful.items (omega (arith, counted-few false c.args.collection.now c.keeps.ensures)) successful;
    }

pub returns-clause-numbers : goal.returns-clause-numbers
returns-clause-numbers c i j one other =
    let branches = c.args.tallies.now.branches in
    let runs = runs_of c.args.collection.now.reports in
    let predicates = c.args.predicates.now in
    let failing = subst (λ (ps : List ℕ). AreFactRows branches ps (room_for (run_count true runs)) (counted_runs true runs) c.in_ok-failing.failing.items) c.in_ok-watch.ensures.predicates c.in_ok-failing.ensures in
    let successful = subst (λ (ps : List ℕ). AreFactRows branches ps (room_for (run_count false runs)) (counted_runs false runs) c.in_ok-successful.successful.items) c.in_ok-watch.ensures.predicates c.in_ok-successful.ensures in
    numbers-are branches runs (get_or predicates i 0) (get_or predicates j 0) i j c.in_ok-failing.failing.items c.in_ok-successful.successful.items
    (failing.each i one) (failing.each j other) (successful.each i one) (successful.each j other)
