use Rattle.std.proofs.Common.{[], ◌∷◌, length, map}
use Rattle.c_syntax.specs.Plain.{plain_start}
use Rattle.c_parser_expressions.specs.Steps.{with_front, all_of}
use Rattle.c_parser_declarations.specs.DeclarationParser.{start_step}
use Rattle.c_parser_expressions.proofs.Many.{Front}
use Rattle.c_parser_declarations.proofs.declarations.starts.Given as goal

abbrev pub invariant-starts : goal.invariant-starts
invariant-starts l = Front (start_step l.fn.by l.fn.depth) (with_front (plain_start l.fn.first ∷ []) (all_of (start_step l.fn.by l.fn.depth) l.fn.reader)) l.reader (map plain_start l.starts.items)

abbrev pub decreases-starts : goal.decreases-starts
decreases-starts l = length l.reader.rest
