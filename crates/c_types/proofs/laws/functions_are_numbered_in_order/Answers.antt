use Rattle.c_types.proofs.FunctionLaws.{frames_are, functions_numbered}
use Rattle.c_types.proofs.laws.functions_are_numbered_in_order.Goals as goal

pub returns-clause-numbers : goal.returns-clause-numbers
returns-clause-numbers c = functions_numbered

pub returns-clause-frames : goal.returns-clause-frames
returns-clause-frames c = frames_are
