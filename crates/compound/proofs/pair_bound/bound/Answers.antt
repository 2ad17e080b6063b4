use Rattle.std.proofs.Common.{rules, subst, sym, arith}
use Rattle.std.proofs.lemmas.Grind.{common_steps}
use Rattle.fractions.specs.declared.fraction.Fraction.{Fraction}
use Rattle.fractions.specs.Fraction.{IsAtMost}
use Rattle.fractions.specs.Tally.{importance_of}
use Rattle.compound.specs.Bound.{bound_of}
use Rattle.compound.proofs.BoundLemmas.{importance-bounded}
use Rattle.compound.proofs.pair_bound.bound.Goals as goal

pub returns-then-part-eq0-clause-value : goal.returns-then-part-eq0-clause-value
unfolding bound_of
returns-then-part-eq0-clause-value c = first_of (search rules, grind (arith, common_steps))

pub returns-clause-value : goal.returns-clause-value
unfolding bound_of
returns-clause-value c = first_of (search rules, grind (arith, common_steps))

pub returns-then-part-eq0-clause-above : goal.returns-then-part-eq0-clause-above
returns-then-part-eq0-clause-above c t tally passes left right =
    subst (λ (f : Fraction). IsAtMost (importance_of t c.args.failing) f) (sym (returns-then-part-eq0-clause-value c)) (importance-bounded t c.args.left c.args.right c.args.failing passes left right (omega arith))

pub returns-clause-above : goal.returns-clause-above
returns-clause-above c t tally passes left right =
    subst (λ (f : Fraction). IsAtMost (importance_of t c.args.failing) f) (sym (returns-clause-value c)) (importance-bounded t c.args.left c.args.right c.args.failing passes left right (omega arith))
