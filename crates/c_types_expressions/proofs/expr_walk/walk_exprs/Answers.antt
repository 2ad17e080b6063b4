use Rattle.c_syntax.specs.Plain.{plain_exprs}
use Rattle.c_types_expressions.proofs.Rooms.{exprs_left}
use Rattle.c_types_expressions.proofs.expr_walk.walk_exprs.Goals as goal

pub returns-clause-left : goal.returns-clause-left
returns-clause-left c = exprs_left (plain_exprs c.args.exprs.now) c.operands_of.result c.args.walk.now c.operands_of.new.walk c.operands_of.ensures.walked
