use Rattle.c_types.proofs.NumberLaws.{variables_are}
use Rattle.c_types.proofs.laws.variables_are_numbered_in_order.Goals as goal

pub returns : goal.returns
returns c = variables_are
