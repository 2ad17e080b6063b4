use Rattle.c_syntax.specs.Plain.{plain_expr}
use Rattle.c_types_expressions.proofs.Rooms.{expr_left}
use Rattle.c_types_expressions.proofs.expr_walk.walk_expr.Goals as goal

pub returns-clause-left : goal.returns-clause-left
returns-clause-left c = expr_left (plain_expr c.args.expr.now) c.operand_of.result c.args.walk.now c.operand_of.new.walk c.operand_of.ensures
