use Rattle.std.proofs.Common.{[], ◌∷◌, length}
use Rattle.c_parser_expressions.specs.Steps.{with_front, all_of}
use Rattle.c_parser_declarations.specs.PartParser.{param_step}
use Rattle.c_parser_expressions.proofs.Many.{Front}
use Rattle.c_parser_declarations.proofs.parameters.further.Given as goal

abbrev pub invariant-further : goal.invariant-further
invariant-further l = Front (param_step l.fn.depth) (with_front (l.fn.first ∷ []) (all_of (param_step l.fn.depth) l.fn.reader)) l.reader l.further.items

abbrev pub decreases-further : goal.decreases-further
decreases-further l = length l.reader.rest
