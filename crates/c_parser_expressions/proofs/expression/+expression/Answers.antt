use Rattle.std.proofs.Common.{rules, ◌≡◌, ◌+◌, ◌-◌, true, map, Some, Ok, Err, sym, ◌∙◌, subst}
use Rattle.c_parser_expressions.proofs.Postfix.{step-none as operator_none}
use Rattle.c_parser_expressions.proofs.Commas.{step-none as comma_none}
use Rattle.c_parser_expressions.proofs.Chains.{step-none as link_none}
use Rattle.c_syntax.specs.declared.token.Sign.TheVariants as sign_is
use Rattle.c_syntax.specs.Plain.{plain_expr, plain_link, plain_postfix}
use Rattle.c_parser_expressions.specs.Reading.{Cursor, next_cursor}
use Rattle.c_parser_expressions.specs.Marks.{begins_with_sign}
use Rattle.c_parser_expressions.specs.Steps.{Gives, all_of}
use Rattle.c_parser_expressions.specs.ExpressionParser.{deeper_than, comma_step, more_by, assignment_by, level_sign, link_step, chain_by, cast_by, postfix_sign}
use Rattle.c_parser_expressions.specs.ExpressionParser.{operator_by, postfix_step}
use Rattle.c_parser_expressions.specs.Views.{plain_items, plain_link_list, plain_operator_list}
use Rattle.c_parser_expressions.proofs.Many.{front_err, front_done, front_push}
use Rattle.c_parser_expressions.proofs.Loops.{links_advance, items_advance, operators_advance, link_goes, link_stops, link_push, comma_goes, comma_stops}
use Rattle.c_parser_expressions.proofs.Loops.{comma_push, more_start, operator_goes}
use Rattle.c_parser_expressions.proofs.expression.+expression.Goals as goal

-- operators of a chain
pub links-returns-in_err-operand : goal.links-returns-in_err-operand
links-returns-in_err-operand t c =
    let a = c.args in
    let P = chain_by (11 - (a.level + 1)) (cast_by a.depth (deeper_than a.depth)) in
    let same : c.from_residual.result ≡ Err c.in_err-operand.field-0.0 = search rules in
    let h : level_sign a.level c.links.reader.rest ≡ Some c.in-Some.sign = cc in
    rw same (front_err plain_link_list plain_expr (link_step P a.level) (all_of
    (link_step P a.level) a.reader.now) c.links.reader c.chain.new.reader c.chain.new.reader
    (map plain_link c.links.links.items) c.in_err-operand.field-0.0 (P (next_cursor c.links.reader))
    c.links.invariant (λ i read. link_stops P a.level c.links.reader c.in-Some.sign i h read)
    (subst (λ (v : Cursor). Gives plain_expr (Err c.in_err-operand.field-0.0) c.chain.new.reader (P v)) c.pass.ensures c.in_err-operand.ensures))

pub links-links-smaller : goal.links-links-smaller
links-links-smaller t c =
    let a = c.args in
    let P = chain_by (11 - (a.level + 1)) (cast_by a.depth (deeper_than a.depth)) in
    let h : level_sign a.level c.links.reader.rest ≡ Some c.in-Some.sign = cc in
    let read : P (next_cursor c.links.reader) ≡ Ok (plain_expr c.in_ok-operand.operand, c.chain.new.reader) =
    subst (λ (v : Cursor). P v ≡ Ok (plain_expr c.in_ok-operand.operand, c.chain.new.reader)) c.pass.ensures c.in_ok-operand.ensures in
    (links_advance a.depth a.level c.requires.low c.requires.high).less c.links.reader _ c.chain.new.reader
    (link_goes P a.level c.links.reader c.chain.new.reader c.in-Some.sign (plain_expr c.in_ok-operand.operand) h read)

pub links-links-preserved : goal.links-links-preserved
links-links-preserved t c =
    let a = c.args in
    let P = chain_by (11 - (a.level + 1)) (cast_by a.depth (deeper_than a.depth)) in
    let h : level_sign a.level c.links.reader.rest ≡ Some c.in-Some.sign = cc in
    let read : P (next_cursor c.links.reader) ≡ Ok (plain_expr c.in_ok-operand.operand, c.chain.new.reader) =
    subst (λ (v : Cursor). P v ≡ Ok (plain_expr c.in_ok-operand.operand, c.chain.new.reader)) c.pass.ensures c.in_ok-operand.ensures in
    link_push P a.level (all_of (link_step P a.level) a.reader.now) c.links.reader c.chain.new.reader c.links.links.items c.push.new.self.items _
    (links_advance a.depth a.level c.requires.low c.requires.high) c.links.invariant h c.at-token.ensures.value read c.in_ok-push.ensures.items

pub links-returns : goal.links-returns
links-returns t c =
    let a = c.args in
    let P = chain_by (11 - (a.level + 1)) (cast_by a.depth (deeper_than a.depth)) in
    front_done (link_step P a.level) (all_of (link_step P a.level) a.reader.now) c.links.reader (map plain_link c.links.links.items) c.links.invariant
    (link_none P a.level c.links.reader (sym c.in_default.ensures))

-- expressions with commas between them
pub more-items-init : goal.more-items-init
more-items-init t c =
    more_start (assignment_by c.args.depth
    (deeper_than c.args.depth)) c.args.reader.now c.args.first c.new-items.result.items c.push.new.self.items c.new-items.ensures.items c.in_ok-push.ensures.items

pub more-returns-in_err-item : goal.more-returns-in_err-item
more-returns-in_err-item t c =
    let a = c.args in
    let P = assignment_by a.depth (deeper_than a.depth) in
    let same : c.from_residual-in_err-item.result ≡ Err c.in_err-item.field-0.0 = search rules in
    let h : begins_with_sign sign_is.Comma c.items.reader.rest ≡ true = sym c.stands.ensures ∙ c.items-test.true in
    rw same (front_err plain_items plain_expr (comma_step P) (more_by P
    (plain_expr a.first) a.reader.now) c.items.reader c.assigned.new.reader c.assigned.new.reader
    (map plain_expr c.items.items.items) c.in_err-item.field-0.0 (P (next_cursor c.items.reader))
    c.items.invariant (λ i read. comma_stops P c.items.reader i h read)
    (subst (λ (v : Cursor). Gives plain_expr (Err c.in_err-item.field-0.0) c.assigned.new.reader (P v)) c.pass.ensures c.in_err-item.ensures))

pub more-items-smaller : goal.more-items-smaller
more-items-smaller t c =
    let a = c.args in
    let P = assignment_by a.depth (deeper_than a.depth) in
    let h : begins_with_sign sign_is.Comma c.items.reader.rest ≡ true = sym c.stands.ensures ∙ c.items-test.true in
    let read : P (next_cursor c.items.reader) ≡ Ok (plain_expr c.in_ok-item.item, c.assigned.new.reader) =
    subst (λ (v : Cursor). P v ≡ Ok (plain_expr c.in_ok-item.item, c.assigned.new.reader)) c.pass.ensures c.in_ok-item.ensures in
    (items_advance a.depth).less c.items.reader (plain_expr c.in_ok-item.item) c.assigned.new.reader
    (comma_goes P c.items.reader c.assigned.new.reader (plain_expr c.in_ok-item.item) h read)

pub more-items-preserved : goal.more-items-preserved
more-items-preserved t c =
    let a = c.args in
    let P = assignment_by a.depth (deeper_than a.depth) in
    let h : begins_with_sign sign_is.Comma c.items.reader.rest ≡ true = sym c.stands.ensures ∙ c.items-test.true in
    let read : P (next_cursor c.items.reader) ≡ Ok (plain_expr c.in_ok-item.item, c.assigned.new.reader) =
    subst (λ (v : Cursor). P v ≡ Ok (plain_expr c.in_ok-item.item, c.assigned.new.reader)) c.pass.ensures c.in_ok-item.ensures in
    comma_push P
    (more_by P
    (plain_expr a.first) a.reader.now) c.items.reader c.assigned.new.reader c.items.items.items c.push-in-items.new.self.items c.in_ok-item.item
    (items_advance a.depth) c.items.invariant h read c.in_ok-push-2.ensures.items

pub more-returns : goal.more-returns
more-returns t c =
    let a = c.args in
    let P = assignment_by a.depth (deeper_than a.depth) in
    front_done (comma_step P) (more_by P (plain_expr a.first) a.reader.now) c.items.reader (map plain_expr c.items.items.items) c.items.invariant
    (comma_none P c.items.reader (sym c.stands.ensures ∙ c.items-test.false))

-- operators behind their operand
pub operators-returns-in_err-operator : goal.operators-returns-in_err-operator
operators-returns-in_err-operator t c =
    let a = c.args in
    let D = deeper_than a.depth in
    let same : c.from_residual.result ≡ Err c.in_err-operator.field-0.0 = search rules in
    let h : postfix_sign a.depth c.operators.reader.rest ≡ Some c.in-Some.sign = cc in
    rw same (front_err plain_operator_list plain_postfix (postfix_step a.depth D)
    (all_of (postfix_step a.depth D) a.reader.now) c.operators.reader c.operator.new.reader c.operator.new.reader
    (map plain_postfix c.operators.operators.items) c.in_err-operator.field-0.0
    (operator_by D c.in-Some.sign c.operators.reader) c.operators.invariant
    (λ i read. operator_goes a.depth D c.operators.reader c.in-Some.sign (Err i) h read) c.in_err-operator.ensures)

pub operators-operators-smaller : goal.operators-operators-smaller
operators-operators-smaller t c =
    let a = c.args in
    let D = deeper_than a.depth in
    let h : postfix_sign a.depth c.operators.reader.rest ≡ Some c.in-Some.sign = cc in
    (operators_advance a.depth).less c.operators.reader (plain_postfix c.in_ok-operator.operator) c.operator.new.reader
    (operator_goes a.depth D c.operators.reader c.in-Some.sign _ h c.in_ok-operator.ensures)

pub operators-operators-preserved : goal.operators-operators-preserved
operators-operators-preserved t c =
    let a = c.args in
    let D = deeper_than a.depth in
    let h : postfix_sign a.depth c.operators.reader.rest ≡ Some c.in-Some.sign = cc in
    front_push plain_postfix (postfix_step a.depth D) (all_of
    (postfix_step a.depth D) a.reader.now) c.operators.reader c.operator.new.reader c.operators.operators.items c.push.new.self.items c.in_ok-operator.operator
    (operators_advance a.depth) c.operators.invariant
    (operator_goes a.depth D c.operators.reader c.in-Some.sign _ h c.in_ok-operator.ensures) c.in_ok-push.ensures.items

pub operators-returns : goal.operators-returns
operators-returns t c =
    let a = c.args in
    let D = deeper_than a.depth in
    front_done (postfix_step a.depth D) (all_of (postfix_step a.depth D) a.reader.now) c.operators.reader
    (map plain_postfix c.operators.operators.items) c.operators.invariant (operator_none a.depth D c.operators.reader (sym c.in_default.ensures))
