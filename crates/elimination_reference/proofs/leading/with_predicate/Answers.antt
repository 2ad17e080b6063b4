use Rattle.std.proofs.Common.{rules, ap, sym, subst, arith}
use Rattle.fractions.specs.declared.tally.Tally.{Tally}
use Rattle.fractions.specs.Tally.{IsTally, Passes}
use Rattle.elimination_tallies.specs.Recount.{recount}
use Rattle.elimination_tallies.proofs.RecountLemmas.{recount-failing, recount-tally}
use Rattle.elimination_tallies.proofs.ScanLemmas.{fractions-more}
use Rattle.elimination_reference.specs.Best.{IsBest, IsRow}
use Rattle.elimination_reference.proofs.PlainLemmas.{first-row, passed-over, row-instead, row-stays}
use Rattle.elimination_reference.proofs.leading.with_predicate.Goals as goal

pub confident-requires : goal.confident-requires
confident-requires c = subst IsTally (sym c.recount.ensures) (recount-tally c.args.branches.now c.args.runs.now c.args.predicate c.requires.runs)

pub returns-then-not-confident-clause-best : goal.returns-then-not-confident-clause-best
returns-then-not-confident-clause-best c =
    let none : Passes c.recount.result → ⊥ = search rules in
    passed-over c.args.best (recount c.args.branches.now c.args.runs.now) c.args.predicate c.args.failing c.requires.best (λ passes. none (subst Passes (sym c.recount.ensures) passes))

pub returns-then-not-confident-clause-fractions : goal.returns-then-not-confident-clause-fractions
returns-then-not-confident-clause-fractions c =
    let none : Passes c.recount.result → ⊥ = search rules in
    fractions-more (recount c.args.branches.now c.args.runs.now) c.args.predicate c.args.failing c.requires.fractions (λ passes. absurd (none (subst Passes (sym c.recount.ensures) passes)))

pub importance-value-requires-clause-bounds : goal.importance-value-requires-clause-bounds
importance-value-requires-clause-bounds c = subst IsTally (sym c.recount.ensures) (recount-tally c.args.branches.now c.args.runs.now c.args.predicate c.requires.runs)

pub importance-value-requires-clause-observed : goal.importance-value-requires-clause-observed
importance-value-requires-clause-observed c = omega (arith, recount-failing c.args.branches.now c.args.runs.now c.args.predicate, ap (λ (t : Tally). t.c) c.recount.ensures, c.requires.failing)

pub returns-in_default-clause-best : goal.returns-in_default-clause-best
returns-in_default-clause-best c =
    let passes : Passes c.recount.result = search rules in
    first-row c.args.best (recount c.args.branches.now c.args.runs.now) c.args.predicate c.args.failing c.recount.result (search rules) c.requires.best c.recount.ensures passes

pub returns-in_default-clause-fractions : goal.returns-in_default-clause-fractions
returns-in_default-clause-fractions c =
    fractions-more (recount c.args.branches.now c.args.runs.now) c.args.predicate c.args.failing c.requires.fractions (λ passes. search rules)

pub importance-requires-clause-bounds : goal.importance-requires-clause-bounds
importance-requires-clause-bounds c =
    let row : IsRow (recount c.args.branches.now c.args.runs.now) c.args.predicate c.args.failing c.in-Some.best =
    subst (IsBest (recount c.args.branches.now c.args.runs.now) c.args.predicate c.args.failing) c.in-Some.is c.requires.best in
    subst IsTally (sym row.tally) (recount-tally c.args.branches.now c.args.runs.now c.in-Some.best.predicate c.requires.runs)

pub importance-requires-clause-observed : goal.importance-requires-clause-observed
importance-requires-clause-observed c =
    let row : IsRow (recount c.args.branches.now c.args.runs.now) c.args.predicate c.args.failing c.in-Some.best =
    subst (IsBest (recount c.args.branches.now c.args.runs.now) c.args.predicate c.args.failing) c.in-Some.is c.requires.best in
    omega (arith, recount-failing c.args.branches.now c.args.runs.now c.in-Some.best.predicate, ap (λ (t : Tally). t.c) row.tally, c.requires.failing)

pub returns-then-exceeds-clause-best : goal.returns-then-exceeds-clause-best
returns-then-exceeds-clause-best c =
    let row : IsRow (recount c.args.branches.now c.args.runs.now) c.args.predicate c.args.failing c.in-Some.best =
    subst (IsBest (recount c.args.branches.now c.args.runs.now) c.args.predicate c.args.failing) c.in-Some.is c.requires.best in
    let passes : Passes c.recount.result = search rules in
    row-instead (recount c.args.branches.now c.args.runs.now) c.args.predicate c.args.failing c.in-Some.best c.recount.result c.importance-value.result c.importance.result
    c.requires.fractions row c.recount.ensures passes c.importance-value.ensures.value c.importance.ensures.value (search rules)

pub returns-then-exceeds-clause-fractions : goal.returns-then-exceeds-clause-fractions
returns-then-exceeds-clause-fractions c =
    fractions-more (recount c.args.branches.now c.args.runs.now) c.args.predicate c.args.failing c.requires.fractions (λ passes. search rules)

pub returns-clause-best : goal.returns-clause-best
returns-clause-best c =
    let row : IsRow (recount c.args.branches.now c.args.runs.now) c.args.predicate c.args.failing c.in-Some.best =
    subst (IsBest (recount c.args.branches.now c.args.runs.now) c.args.predicate c.args.failing) c.in-Some.is c.requires.best in
    row-stays (recount c.args.branches.now c.args.runs.now) c.args.predicate c.args.failing c.in-Some.best c.recount.result c.importance-value.result c.importance.result
    row c.recount.ensures c.importance-value.ensures.value c.importance.ensures.value (search rules)

pub returns-clause-fractions : goal.returns-clause-fractions
returns-clause-fractions c =
    fractions-more (recount c.args.branches.now c.args.runs.now) c.args.predicate c.args.failing c.requires.fractions (λ passes. search rules)
