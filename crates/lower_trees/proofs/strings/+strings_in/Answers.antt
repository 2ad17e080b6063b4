use Rattle.std.proofs.Common.{refl, ◌++◌, ap}
use Rattle.c_syntax.specs.Plain.{plain_expr, plain_exprs, plain_links, plain_operators}
use Rattle.c_syntax.proofs.PlainExprs.{plain_assign, plain_call, plain_chain, plain_comma, plain_conditional, plain_link_before, plain_paren, plain_strings, plain_with_postfix}
use Rattle.c_meaning.specs.Literals.{strings_behind, strings_in, strings_of_all, strings_of_links}
use Rattle.lower_trees.proofs.Appending.{both_added, last_added, next_added}
use Rattle.lower_trees.proofs.strings.+strings_in.Goals as goal

pub strings_in-returns-in-Comma : goal.strings_in-returns-in-Comma
strings_in-returns-in-Comma t c = rw (c.in-Comma.is, plain_comma c.in-Comma.token c.in-Comma.operands) (rw c.as_slice.ensures.value at c.strings_of_all.ensures)

pub strings_in-returns-in-Call : goal.strings_in-returns-in-Call
strings_in-returns-in-Call t c =
    rw (c.in-Call.is, plain_call c.in-Call.token c.in-Call.name c.in-Call.arguments) (rw c.as_slice-in-Call.ensures.value at c.strings_of_all-in-Call.ensures)

pub strings_in-returns-in-Strings : goal.strings_in-returns-in-Strings
strings_in-returns-in-Strings t c = rw (c.in-Strings.is, plain_strings c.in-Strings.token c.in-Strings.parts) (rw c.as_slice-in-Strings.ensures at c.add_string.ensures)

pub strings_in-returns-in-Paren : goal.strings_in-returns-in-Paren
strings_in-returns-in-Paren t c = rw (c.in-Paren.is, plain_paren c.in-Paren.token c.in-Paren.inner) (rw c.deref-in-Paren.ensures at c.strings_in-in-Paren.ensures)

pub strings_in-returns-in_ok-strings_in-in-Assign : goal.strings_in-returns-in_ok-strings_in-in-Assign
strings_in-returns-in_ok-strings_in-in-Assign t c =
    rw (c.in-Assign.is, plain_assign c.in-Assign.token c.in-Assign.sign c.in-Assign.target c.in-Assign.value)
    (last_added _ _ _ _ (strings_in (plain_expr c.in-Assign.target.value)) (strings_in (plain_expr c.in-Assign.value.value))
    (rw c.deref.ensures at c.in_ok-strings_in-in-Assign.ensures) (rw c.deref-in-Assign.ensures at c.strings_in-in-Assign.ensures))

pub strings_in-returns-in_ok-strings_in-in-Conditional-2 : goal.strings_in-returns-in_ok-strings_in-in-Conditional-2
strings_in-returns-in_ok-strings_in-in-Conditional-2 t c =
    let a = strings_in (plain_expr c.in-Conditional.condition.value) in
    let b = strings_in (plain_expr c.in-Conditional.first.value) in
    rw (c.in-Conditional.is, plain_conditional c.in-Conditional.token c.in-Conditional.condition c.in-Conditional.first c.in-Conditional.second)
    (last_added _ _ _ _ (a ++ b) (strings_in (plain_expr c.in-Conditional.second.value))
    (both_added _ _ _ a b (rw c.deref-in-Conditional.ensures at c.in_ok-strings_in-in-Conditional.ensures) (rw c.deref-in-Conditional-2.ensures at c.in_ok-strings_in-in-Conditional-2.ensures))
    (rw c.deref-in-Conditional-3.ensures at c.strings_in-in-Conditional-3.ensures))

pub strings_in-returns-in_ok-strings_in-in-Chain : goal.strings_in-returns-in_ok-strings_in-in-Chain
strings_in-returns-in_ok-strings_in-in-Chain t c =
    rw (c.in-Chain.is, plain_chain c.in-Chain.level c.in-Chain.first c.in-Chain.links)
    (last_added _ _ _ _ (strings_in (plain_expr c.in-Chain.first.value)) (strings_of_links (plain_links c.in-Chain.links.items))
    (rw c.deref-in-Chain.ensures at c.in_ok-strings_in-in-Chain.ensures) (rw c.as_slice-in-Chain.ensures.value at c.strings_of_links.ensures))

pub strings_in-returns-in_ok-strings_in-in-Postfix : goal.strings_in-returns-in_ok-strings_in-in-Postfix
strings_in-returns-in_ok-strings_in-in-Postfix t c =
    rw (c.in-Postfix.is, plain_with_postfix c.in-Postfix.primary c.in-Postfix.operators)
    (last_added _ _ _ _ (strings_in (plain_expr c.in-Postfix.primary.value)) (strings_behind (plain_operators c.in-Postfix.operators.items))
    (rw c.deref-in-Postfix.ensures at c.in_ok-strings_in-in-Postfix.ensures) (rw c.as_slice-in-Postfix.ensures.value at c.strings_behind.ensures))

pub strings_of_all-loop-expr-preserved : goal.strings_of_all-loop-expr-preserved
strings_of_all-loop-expr-preserved t c =
    next_added (λ xs. strings_of_all (plain_exprs xs)) (λ x. strings_in (plain_expr x)) (λ x xs. refl) c.args.exprs.now c.loop-expr.expr-index c.expr-item.result _ _ _
    c.loop-expr-test.true c.expr-item.is c.in_ok-strings_in.ensures c.loop-expr.invariant

pub strings_of_links-loop-link-preserved : goal.strings_of_links-loop-link-preserved
strings_of_links-loop-link-preserved t c =
    next_added (λ xs. strings_of_links (plain_links xs)) (λ x. strings_in (plain_expr x.operand)) (λ x xs. ap strings_of_links (plain_link_before x (plain_links xs)))
    c.args.links.now c.loop-link.link-index c.link-item.result _ _ _ c.loop-link-test.true c.link-item.is c.in_ok-strings_in.ensures c.loop-link.invariant
