use Rattle.std.proofs.Common.{◌+◌, ◌-◌, ◌*◌, length, map}
use Rattle.c_syntax.specs.Plain.{plain_expr, plain_link, plain_postfix}
use Rattle.c_parser_expressions.specs.Steps.{all_of}
use Rattle.c_parser_expressions.specs.ExpressionParser.{deeper_than, comma_step, more_by, assignment_by, link_step, chain_by, cast_by, postfix_step}
use Rattle.c_parser_expressions.proofs.Many.{Front}
use Rattle.c_parser_expressions.proofs.expression.+expression.Given as goal

abbrev pub decreases-closed : goal.decreases-closed
decreases-closed l = l.depth * 50 + 45

abbrev pub decreases-whole : goal.decreases-whole
decreases-whole l = l.depth * 50 + 44

abbrev pub decreases-more : goal.decreases-more
decreases-more l = l.depth * 50 + 43

abbrev pub decreases-assigned : goal.decreases-assigned
decreases-assigned l = l.depth * 50 + 42

abbrev pub decreases-conditional : goal.decreases-conditional
decreases-conditional l = l.depth * 50 + 41

abbrev pub decreases-chain : goal.decreases-chain
decreases-chain l = l.depth * 50 + 38 - 2 * l.level

abbrev pub decreases-links : goal.decreases-links
decreases-links l = l.depth * 50 + 37 - 2 * l.level

abbrev pub decreases-cast : goal.decreases-cast
decreases-cast l = l.depth * 50 + 13

abbrev pub decreases-casting : goal.decreases-casting
decreases-casting l = l.depth * 50 + 12

abbrev pub decreases-unary : goal.decreases-unary
decreases-unary l = l.depth * 50 + 11

abbrev pub decreases-prefixed : goal.decreases-prefixed
decreases-prefixed l = l.depth * 50 + 10

abbrev pub decreases-operand : goal.decreases-operand
decreases-operand l = l.depth * 50 + 9

abbrev pub decreases-size_of : goal.decreases-size_of
decreases-size_of l = l.depth * 50 + 8

abbrev pub decreases-postfix : goal.decreases-postfix
decreases-postfix l = l.depth * 50 + 7

abbrev pub decreases-operators : goal.decreases-operators
decreases-operators l = l.depth * 50 + 6

abbrev pub decreases-operator : goal.decreases-operator
decreases-operator l = l.depth * 50 + 5

abbrev pub decreases-primary : goal.decreases-primary
decreases-primary l = l.depth * 50 + 4

abbrev pub decreases-named : goal.decreases-named
decreases-named l = l.depth * 50 + 3

abbrev pub decreases-arguments : goal.decreases-arguments
decreases-arguments l = l.depth * 50 + 2

abbrev pub decreases-paren : goal.decreases-paren
decreases-paren l = l.depth * 50 + 1

abbrev pub invariant-more-items : goal.invariant-more-items
invariant-more-items l =
    Front (comma_step (assignment_by l.fn.depth (deeper_than l.fn.depth)))
    (more_by (assignment_by l.fn.depth (deeper_than l.fn.depth)) (plain_expr l.fn.first) l.fn.reader) l.reader (map plain_expr l.items.items)

abbrev pub decreases-more-items : goal.decreases-more-items
decreases-more-items l = length l.reader.rest

abbrev pub invariant-links-links : goal.invariant-links-links
invariant-links-links l =
    Front (link_step (chain_by (11 - (l.fn.level + 1)) (cast_by l.fn.depth (deeper_than l.fn.depth))) l.fn.level)
    (all_of (link_step (chain_by (11 - (l.fn.level + 1)) (cast_by l.fn.depth (deeper_than l.fn.depth))) l.fn.level) l.fn.reader) l.reader
    (map plain_link l.links.items)

abbrev pub decreases-links-links : goal.decreases-links-links
decreases-links-links l = length l.reader.rest

abbrev pub invariant-operators-operators : goal.invariant-operators-operators
invariant-operators-operators l =
    Front (postfix_step l.fn.depth (deeper_than l.fn.depth)) (all_of (postfix_step l.fn.depth (deeper_than l.fn.depth)) l.fn.reader) l.reader
    (map plain_postfix l.operators.items)

abbrev pub decreases-operators-operators : goal.decreases-operators-operators
decreases-operators-operators l = length l.reader.rest
