use Rattle.std.proofs.Common.{[], ◌∷◌, length}
use Rattle.c_parser_expressions.specs.Steps.{with_front, all_of}
use Rattle.c_parser_declarations.specs.PartParser.{members_step}
use Rattle.c_parser_expressions.proofs.Many.{Front}
use Rattle.c_parser_declarations.proofs.members.lines.Given as goal

abbrev pub invariant-lines : goal.invariant-lines
invariant-lines l = Front (members_step l.fn.depth) (with_front (l.fn.first ∷ []) (all_of (members_step l.fn.depth) l.fn.reader)) l.reader l.lines.items

abbrev pub decreases-lines : goal.decreases-lines
decreases-lines l = length l.reader.rest
