use Rattle.std.proofs.Common.{[], ◌∷◌, length}
use Rattle.c_parser_expressions.specs.Steps.{with_front, all_of}
use Rattle.c_parser_declarations.specs.PartParser.{declarator_step}
use Rattle.c_parser_expressions.proofs.Many.{Front}
use Rattle.c_parser_declarations.proofs.members.declarators.Given as goal

abbrev pub invariant-declarators : goal.invariant-declarators
invariant-declarators l = Front (declarator_step l.fn.depth) (with_front (l.fn.first ∷ []) (all_of (declarator_step l.fn.depth) l.fn.reader)) l.reader l.declarators.items

abbrev pub decreases-declarators : goal.decreases-declarators
decreases-declarators l = length l.reader.rest
