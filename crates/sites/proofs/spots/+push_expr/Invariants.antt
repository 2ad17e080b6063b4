use Rattle.std.proofs.Common.{◌≡◌, ◌++◌, drop}
use Rattle.c_syntax.specs.Plain.{plain_exprs, plain_links, plain_operators}
use Rattle.sites.specs.Spots.{exprs_spots, links_spots, postfix_spots}
use Rattle.sites.proofs.spots.+push_expr.Given as goal

-- with what is left to be added it is what the whole list comes to
abbrev pub invariant-push_exprs-loop-expr : goal.invariant-push_exprs-loop-expr
invariant-push_exprs-loop-expr l = l.spots ++ exprs_spots (plain_exprs (drop l.expr-index l.exprs)) ≡ l.fn.spots ++ exprs_spots (plain_exprs l.exprs)

abbrev pub invariant-push_links-loop-link : goal.invariant-push_links-loop-link
invariant-push_links-loop-link l = l.spots ++ links_spots (plain_links (drop l.link-index l.links)) ≡ l.fn.spots ++ links_spots (plain_links l.links)

abbrev pub invariant-push_postfix-loop-operator : goal.invariant-push_postfix-loop-operator
invariant-push_postfix-loop-operator l =
    l.spots ++ postfix_spots l.before (plain_operators (drop l.operator-index l.operators)) ≡
    l.fn.spots ++ postfix_spots l.fn.target (plain_operators l.operators)
