-- The parts that an expression is emitted as.
use Rattle.std.specs.Prelude.{ℕ}
use Rattle.c_syntax.specs.ExprTree.{ExprTree}
use Rattle.c_meaning.specs.Facts.{Facts, Sites}
use Rattle.lower_relation.specs.Expressions.{emitted_expression}
use Rattle.lower_relation.specs.Paths.{Ways}
use Rattle.lower_nodes.specs.declared.purpose.Purpose.{Purpose}
use Rattle.lower_nodes.specs.Made.{GraphPath}
use Rattle.lower_nodes.specs.Purposes.{Serves}

module _ (facts : Facts) (sites : Sites) (x : ExprTree) where
  -- the expression, for what its value is wanted for
  abbrev pub purpose_part : GraphPath Purpose
  purpose_part G = Serves (emitted_expression G facts sites x)

  abbrev pub value_part : GraphPath ℕ
  value_part G = (emitted_expression G facts sites x).value

  abbrev pub place_part : GraphPath ℕ
  place_part G = (emitted_expression G facts sites x).place

  abbrev pub effect_part : GraphPath ℕ
  effect_part G = (emitted_expression G facts sites x).effect

  abbrev pub truth_part : GraphPath Ways
  truth_part G = (emitted_expression G facts sites x).truth
