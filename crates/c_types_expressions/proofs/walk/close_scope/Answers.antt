use Rattle.std.proofs.Common.{ap}
use Rattle.c_types_expressions.proofs.Rooms.{left_same, numbers_of}
use Rattle.c_types_expressions.proofs.walk.close_scope.Goals as goal

pub returns-clause-left : goal.returns-clause-left
returns-clause-left c = left_same c.args.walk.now _ (ap numbers_of c.loop-meaning.invariant.2)
