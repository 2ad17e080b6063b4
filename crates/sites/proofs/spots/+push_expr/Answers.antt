use Rattle.std.proofs.Common.{[], ◌∷◌, ◌+◌, ◌++◌, ◌∙◌, ap, append_assoc, drop, sym}
use Rattle.std.proofs.lemmas.List.{at_drop_more}
use Rattle.std.proofs.lemmas.Result.{IfOk-equal}
use Rattle.c_syntax.specs.Plain.{plain_expr, plain_exprs, plain_links, plain_operators}
use Rattle.c_syntax.proofs.PlainExprs.{plain_assign, plain_call, plain_cast, plain_chain, plain_comma, plain_conditional, plain_link_before, plain_paren, plain_with_postfix}
use Rattle.flow.specs.declared.site.BranchWord.TheVariants.{Question}
use Rattle.sites.specs.declared.spots.Spot.TheVariants as spot
use Rattle.sites.specs.Spots.{change_spots, expr_spots, exprs_spots, joined_spots, links_spots, named_token, postfix_spots}
use Rattle.sites.proofs.spots.+push_expr.Goals as goal

pub push_expr-returns-in-Comma : goal.push_expr-returns-in-Comma
push_expr-returns-in-Comma t c = rw (c.in-Comma.is, plain_comma c.in-Comma.token c.in-Comma.operands) (rw c.as_slice.ensures.value at c.push_exprs.ensures)

pub push_expr-returns-in_ok-push_change-in-Assign : goal.push_expr-returns-in_ok-push_change-in-Assign
push_expr-returns-in_ok-push_change-in-Assign t c =
    let target = expr_spots (plain_expr c.in-Assign.target.value) in
    let change = change_spots c.in-Assign.token (named_token (plain_expr c.in-Assign.target.value)) in
    let value = expr_spots (plain_expr c.in-Assign.value.value) in
    rw (c.in-Assign.is, plain_assign c.in-Assign.token c.in-Assign.sign c.in-Assign.target c.in-Assign.value)
    (IfOk-equal _ _ _ _ (rw c.deref-in-Assign-2.ensures at c.push_expr-in-Assign.ensures)
    (ap (λ l. l ++ value) ((rw (c.named.ensures, c.deref-in-Assign.ensures) at c.in_ok-push_change-in-Assign.ensures)
    ∙ ap (λ l. l ++ change) (rw c.deref.ensures at c.in_ok-push_expr-in-Assign.ensures) ∙ append_assoc _ target change) ∙ append_assoc _ (target ++ change) value))

pub push_expr-returns-in_ok-push_expr-in-Conditional-2 : goal.push_expr-returns-in_ok-push_expr-in-Conditional-2
push_expr-returns-in_ok-push_expr-in-Conditional-2 t c =
    let condition = expr_spots (plain_expr c.in-Conditional.condition.value) in
    let branch = spot.Branch c.in-Conditional.token Question ∷ [] in
    let first = expr_spots (plain_expr c.in-Conditional.first.value) in
    let second = expr_spots (plain_expr c.in-Conditional.second.value) in
    rw (c.in-Conditional.is, plain_conditional c.in-Conditional.token c.in-Conditional.condition c.in-Conditional.first c.in-Conditional.second)
    (IfOk-equal _ _ _ _ (rw c.deref-in-Conditional-3.ensures at c.push_expr-in-Conditional-3.ensures)
    (ap (λ l. l ++ second) ((rw c.deref-in-Conditional-2.ensures at c.in_ok-push_expr-in-Conditional-2.ensures)
    ∙ ap (λ l. l ++ first) (c.in_ok-push_branch-in-Conditional.ensures ∙ ap (λ l. l ++ branch) (rw c.deref-in-Conditional.ensures at c.in_ok-push_expr-in-Conditional.ensures)
    ∙ append_assoc _ condition branch) ∙ append_assoc _ (condition ++ branch) first ∙ ap (λ l. c.args.spots.now ++ l) (append_assoc condition branch first))
    ∙ append_assoc _ (condition ++ (branch ++ first)) second))

pub push_expr-returns-in_ok-push_expr-in-Chain : goal.push_expr-returns-in_ok-push_expr-in-Chain
push_expr-returns-in_ok-push_expr-in-Chain t c =
    let first = expr_spots (plain_expr c.in-Chain.first.value) in
    let links = links_spots (plain_links c.in-Chain.links.items) in
    rw (c.in-Chain.is, plain_chain c.in-Chain.level c.in-Chain.first c.in-Chain.links)
    (IfOk-equal _ _ _ _ (rw c.as_slice-in-Chain.ensures.value at c.push_links.ensures)
    (ap (λ l. l ++ links) (rw c.deref-in-Chain.ensures at c.in_ok-push_expr-in-Chain.ensures) ∙ append_assoc _ first links))

pub push_expr-returns-in-Cast : goal.push_expr-returns-in-Cast
push_expr-returns-in-Cast t c =
    rw (c.in-Cast.is, plain_cast c.in-Cast.token c.in-Cast.base c.in-Cast.stars c.in-Cast.operand) (rw c.deref-in-Cast.ensures at c.push_expr-in-Cast.ensures)

pub push_expr-returns-in_ok-push_expr-in-Postfix : goal.push_expr-returns-in_ok-push_expr-in-Postfix
push_expr-returns-in_ok-push_expr-in-Postfix t c =
    let primary = expr_spots (plain_expr c.in-Postfix.primary.value) in
    let operators = postfix_spots (named_token (plain_expr c.in-Postfix.primary.value)) (plain_operators c.in-Postfix.operators.items) in
    rw (c.in-Postfix.is, plain_with_postfix c.in-Postfix.primary c.in-Postfix.operators)
    (IfOk-equal _ _ _ _ (rw (c.as_slice-in-Postfix.ensures.value, c.named-in-Postfix.ensures, c.deref-in-Postfix-2.ensures) at c.push_postfix.ensures)
    (ap (λ l. l ++ operators) (rw c.deref-in-Postfix.ensures at c.in_ok-push_expr-in-Postfix.ensures) ∙ append_assoc _ primary operators))

pub push_expr-returns-in_ok-push_call-in-Call : goal.push_expr-returns-in_ok-push_call-in-Call
push_expr-returns-in_ok-push_call-in-Call t c =
    let call = spot.Call c.in-Call.token c.in-Call.name ∷ [] in
    let arguments = exprs_spots (plain_exprs c.in-Call.arguments.items) in
    rw (c.in-Call.is, plain_call c.in-Call.token c.in-Call.name c.in-Call.arguments)
    (IfOk-equal _ _ _ _ (rw c.as_slice-in-Call.ensures.value at c.push_exprs-in-Call.ensures)
    (ap (λ l. l ++ arguments) c.in_ok-push_call-in-Call.ensures ∙ append_assoc _ call arguments))

pub push_expr-returns-in-Paren : goal.push_expr-returns-in-Paren
push_expr-returns-in-Paren t c = rw (c.in-Paren.is, plain_paren c.in-Paren.token c.in-Paren.inner) (rw c.deref-in-Paren.ensures at c.push_expr-in-Paren.ensures)

pub push_exprs-loop-expr-preserved : goal.push_exprs-loop-expr-preserved
push_exprs-loop-expr-preserved t c =
    let left = drop (c.loop-expr.expr-index + 1) c.args.exprs.now in
    let one = expr_spots (plain_expr c.expr-item.result) in
    let rest = exprs_spots (plain_exprs left) in
    ap (λ l. l ++ rest) c.in_ok-push_expr.ensures ∙ append_assoc _ one rest
    ∙ ap (λ l. c.loop-expr.spots ++ l) (ap (λ x. exprs_spots (plain_exprs (x ∷ left))) c.expr-item.is
    ∙ sym (at_drop_more (λ xs. exprs_spots (plain_exprs xs)) c.args.exprs.now c.loop-expr.expr-index c.expr-item.result c.loop-expr-test.true))
    ∙ c.loop-expr.invariant

pub push_links-loop-link-preserved : goal.push_links-loop-link-preserved
push_links-loop-link-preserved t c =
    let left = drop (c.loop-link.link-index + 1) c.args.links.now in
    let join = joined_spots c.link-item.result.token c.link-item.result.sign in
    let one = expr_spots (plain_expr c.link-item.result.operand) in
    let rest = links_spots (plain_links left) in
    ap (λ l. l ++ rest) (c.in_ok-push_expr.ensures ∙ ap (λ l. l ++ one) c.in_ok-push_join.ensures ∙ append_assoc _ join one) ∙ append_assoc _ (join ++ one) rest
    ∙ ap (λ l. c.loop-link.spots ++ l) (sym (ap links_spots (plain_link_before c.link-item.result (plain_links left)))
    ∙ ap (λ x. links_spots (plain_links (x ∷ left))) c.link-item.is
    ∙ sym (at_drop_more (λ xs. links_spots (plain_links xs)) c.args.links.now c.loop-link.link-index c.link-item.result c.loop-link-test.true))
    ∙ c.loop-link.invariant
