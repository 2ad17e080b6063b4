use Rattle.std.proofs.Common.{◌≡◌, ℕ, ap, subst, sym, refl, ◌∙◌}
use Rattle.fractions.specs.declared.fraction.Fraction.{Fraction}
use Rattle.fractions.specs.declared.tally.Tally.{Tally}
use Rattle.compound.specs.declared.chosen.Chosen.{Chosen}
use Rattle.compound.specs.Bound.{bound_of}
use Rattle.compound.specs.Scanning.{IsPairTally}
use Rattle.compound.proofs.ScanLemmas.{scan-count, scan-skip, weighed-fraction}
use Rattle.compound.proofs.scanning.look.Goals as goal

pub better-requires-clause-next : goal.better-requires-clause-next
better-requires-clause-next c = weighed-fraction _ c.weighed-next.result c.weighed-next.ensures

-- the bound by the numbers of the two
by-members : (bound : Fraction) (left right failing a b : ℕ) → bound ≡ bound_of left right failing → left ≡ a → right ≡ b → bound ≡ bound_of a b failing
by-members bound left right failing a b is l r = is ∙ ap (λ x. bound_of x right failing) l ∙ ap (λ y. bound_of a y failing) r

pub returns-then-is_passed_over-clause-scan : goal.returns-then-is_passed_over-clause-scan
returns-then-is_passed_over-clause-scan c one pair done l r same so_far =
    let bound = c.bound-most.result in
    let p : ℕ × ℕ = (c.args.left.predicate, c.args.right.predicate) in
    let is : IsPairTally (pair p.0 p.1) c.args.left.failing c.args.right.failing c.args.failing = subst (λ (t : Tally). IsPairTally t c.args.left.failing c.args.right.failing c.args.failing) same c.requires.tally in
    scan-skip one pair c.args.failing done c.args.scan _ p bound (by-members bound c.args.left.failing c.args.right.failing c.args.failing (one p.0).a (one p.1).a c.bound-most.ensures.value l r) c.bound-most.ensures.fraction.positive
    (λ passes. c.bound-most.ensures.above (pair p.0 p.1) is.is_tally passes is.in_left is.in_right) (sym c.is_passed_over.ensures ∙ c.if-is_passed_over.true) refl refl refl so_far

pub returns-clause-scan : goal.returns-clause-scan
returns-clause-scan c one pair done l r same so_far =
    let bound = c.bound-most.result in
    let left = c.args.left.predicate in
    let right = c.args.right.predicate in
    let chosen : ℕ → ℕ → Tally → ℕ → Chosen = λ x y t f. record { left = x; right = y; tally = t; failing = f } in
    scan-count one pair c.args.failing done c.args.scan _ left right (chosen left right c.tally.result c.args.failing) c.weighed-next.result bound
    (by-members bound c.args.left.failing c.args.right.failing c.args.failing (one left).a (one right).a c.bound-most.ensures.value l r) (sym c.is_passed_over.ensures ∙ c.if-is_passed_over.false)
    (ap (λ (t : Tally). chosen left right t c.args.failing) (c.tally.ensures ∙ same)) c.weighed-next.ensures refl refl c.better.ensures so_far
