use Rattle.std.proofs.Common.{◌≡◌, ◌++◌, drop}
use Rattle.c_syntax.specs.Plain.{plain_exprs, plain_links, plain_operators}
use Rattle.c_meaning.specs.Literals.{strings_behind, strings_of_all, strings_of_links}
use Rattle.lower_trees.proofs.strings.+strings_in.Given as goal

-- the strings so far and those of what is left are all of them
abbrev pub invariant-strings_of_all-loop-expr : goal.invariant-strings_of_all-loop-expr
invariant-strings_of_all-loop-expr l = l.strings ++ strings_of_all (plain_exprs (drop l.expr-index l.exprs)) ≡ l.fn.strings ++ strings_of_all (plain_exprs l.exprs)

abbrev pub invariant-strings_of_links-loop-link : goal.invariant-strings_of_links-loop-link
invariant-strings_of_links-loop-link l = l.strings ++ strings_of_links (plain_links (drop l.link-index l.links)) ≡ l.fn.strings ++ strings_of_links (plain_links l.links)

abbrev pub invariant-strings_behind-loop-operator : goal.invariant-strings_behind-loop-operator
invariant-strings_behind-loop-operator l =
    l.strings ++ strings_behind (plain_operators (drop l.operator-index l.operators)) ≡ l.fn.strings ++ strings_behind (plain_operators l.operators)
