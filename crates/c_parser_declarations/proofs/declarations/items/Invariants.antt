use Rattle.std.proofs.Common.{[], ◌∷◌, length, map}
use Rattle.c_syntax.specs.Plain.{plain_expr}
use Rattle.c_parser_expressions.specs.Steps.{with_front, all_of}
use Rattle.c_parser_expressions.specs.ExpressionParser.{deeper_than, assignment_by}
use Rattle.c_parser_declarations.specs.DeclarationParser.{item_step}
use Rattle.c_parser_expressions.proofs.Many.{Front}
use Rattle.c_parser_declarations.proofs.declarations.items.Given as goal

abbrev pub invariant-items : goal.invariant-items
invariant-items l =
    Front (item_step (assignment_by l.fn.depth (deeper_than l.fn.depth)))
    (with_front (plain_expr l.fn.first ∷ []) (all_of (item_step (assignment_by l.fn.depth (deeper_than l.fn.depth))) l.fn.reader)) l.reader (map plain_expr l.items.items)

abbrev pub decreases-items : goal.decreases-items
decreases-items l = length l.reader.rest
