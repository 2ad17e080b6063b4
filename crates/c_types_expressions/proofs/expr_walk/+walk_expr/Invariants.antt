use Rattle.std.proofs.Common.{◌≡◌, ◌+◌, ◌<◌, [], drop, length}
use Rattle.c_syntax.specs.Words.{most_bytes, plain_exprs, plain_links, plain_operators}
use Rattle.c_types_expressions.specs.ExprWalk.{walk_exprs, walk_links, walk_postfix}
use Rattle.c_types_expressions.specs.Room.{exprs_text, items_in, links_text, postfix_text}
use Rattle.c_types_expressions.proofs.expr_walk.+walk_expr.Given as goal

-- the walk through what is left comes to what the whole walk comes to, and the strings of what is left are short
abbrev pub invariant-operands_of-loop-expr : goal.invariant-operands_of-loop-expr
invariant-operands_of-loop-expr l =
    (walk_exprs (plain_exprs (drop l.expr-index l.exprs)) l.done l.walk ≡ walk_exprs (plain_exprs l.exprs) [] l.fn.walk)
    × (exprs_text (plain_exprs (drop l.expr-index l.exprs)) < most_bytes)
    × (length l.done + items_in (plain_exprs (drop l.expr-index l.exprs)) ≡ items_in (plain_exprs l.exprs))

abbrev pub invariant-walk_links-loop-link : goal.invariant-walk_links-loop-link
invariant-walk_links-loop-link l =
    (walk_links (plain_links (drop l.link-index l.links)) l.left l.walk ≡ walk_links (plain_links l.links) l.fn.first l.fn.walk)
    × (links_text (plain_links (drop l.link-index l.links)) < most_bytes)

abbrev pub invariant-walk_postfix-loop-operator : goal.invariant-walk_postfix-loop-operator
invariant-walk_postfix-loop-operator l =
    (walk_postfix (plain_operators (drop l.operator-index l.operators)) l.left l.walk ≡ walk_postfix (plain_operators l.operators) l.fn.first l.fn.walk)
    × (postfix_text (plain_operators (drop l.operator-index l.operators)) < most_bytes)
