use Rattle.std.proofs.Common.{◌≤◌, subst, sym}
use Rattle.fractions.specs.declared.fraction.Fraction.{Fraction}
use Rattle.association.proofs.Tables.{none-above-one}
use Rattle.association.proofs.contingency.strength_in_millionths.Goals as goal

pub millionths-requires-clause-at_most_one : goal.millionths-requires-clause-at_most_one
millionths-requires-clause-at_most_one c = subst (λ (f : Fraction). f.top ≤ f.bottom) (sym c.strength.ensures.value) (none-above-one c.args.table c.requires)
