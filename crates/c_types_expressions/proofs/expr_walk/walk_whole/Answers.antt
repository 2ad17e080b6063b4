use Rattle.c_syntax.specs.Plain.{plain_exprs}
use Rattle.c_types_expressions.proofs.Rooms.{call_left}
use Rattle.c_types_expressions.proofs.expr_walk.walk_whole.Goals as goal

pub returns-in-Call-clause-left : goal.returns-in-Call-clause-left
returns-in-Call-clause-left c =
    call_left c.in-Call.token c.in-Call.name (plain_exprs c.as_slice.result.now) c.walk_call.result c.args.walk.now c.walk_call.new.walk c.walk_call.ensures
