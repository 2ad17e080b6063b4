use Rattle.std.proofs.Common.{rules, ◌≡◌, [], ◌∷◌, map, Option, Some, None, Ok, Err, subst}
use Rattle.c_syntax.specs.declared.expr.Expr.{Expr}
use Rattle.c_syntax.specs.Plain.{plain_expr}
use Rattle.c_parser_expressions.specs.Steps.{with_front, all_of}
use Rattle.c_parser_declarations.specs.Turns.{GivesStep}
use Rattle.c_parser_expressions.specs.ExpressionParser.{deeper_than, assignment_by}
use Rattle.c_parser_declarations.specs.DeclarationParser.{item_step}
use Rattle.c_parser_expressions.specs.Views.{plain_items}
use Rattle.c_parser_declarations.proofs.Turns.{turn_push, turn_less, turn_done, turn_err}
use Rattle.c_parser_declarations.proofs.DeclarationLoops.{braced_advance}
use Rattle.c_parser_declarations.proofs.declarations.items.Goals as goal

pub returns-in_err-item : goal.returns-in_err-item
returns-in_err-item c =
    let a = c.args in
    let step = item_step (assignment_by a.depth (deeper_than a.depth)) in
    let same : c.from_residual-in_err-item.result ≡ Err c.in_err-item.field-0.0 = search rules in
    rw same (turn_err plain_items plain_expr step (with_front (plain_expr a.first ∷ []) (all_of step a.reader.now))
    c.items.reader c.next_item.new.reader c.next_item.new.reader (map plain_expr c.items.items.items)
    c.in_err-item.field-0.0 c.items.invariant c.in_err-item.ensures)

pub items-smaller : goal.items-smaller
items-smaller c =
    let a = c.args in
    let step = item_step (assignment_by a.depth (deeper_than a.depth)) in
    let is : c.in_ok-item.field-0 ≡ Some c.in-Some.item = cc in
    turn_less plain_expr step c.items.reader c.next_item.new.reader c.in-Some.item (braced_advance a.depth)
    (subst (λ (v : Option Expr). GivesStep plain_expr (Ok v) c.items.reader c.next_item.new.reader (step c.items.reader)) is c.in_ok-item.ensures)

pub items-preserved : goal.items-preserved
items-preserved c =
    let a = c.args in
    let step = item_step (assignment_by a.depth (deeper_than a.depth)) in
    let is : c.in_ok-item.field-0 ≡ Some c.in-Some.item = cc in
    turn_push plain_expr step (with_front (plain_expr a.first ∷ []) (all_of step a.reader.now)) c.items.reader c.next_item.new.reader
    c.items.items.items c.push-in-Some.new.self.items c.in-Some.item (braced_advance a.depth) c.items.invariant
    (subst (λ (v : Option Expr). GivesStep plain_expr (Ok v) c.items.reader c.next_item.new.reader (step c.items.reader)) is c.in_ok-item.ensures)
    c.in_ok-push-2.ensures.items

pub returns : goal.returns
returns c =
    let a = c.args in
    let step = item_step (assignment_by a.depth (deeper_than a.depth)) in
    let is : c.in_ok-item.field-0 ≡ None = cc in
    turn_done plain_expr step (with_front (plain_expr a.first ∷ []) (all_of step a.reader.now)) c.items.reader c.next_item.new.reader
    c.items.items.items c.items.invariant
    (subst (λ (v : Option Expr). GivesStep plain_expr (Ok v) c.items.reader c.next_item.new.reader (step c.items.reader)) is c.in_ok-item.ensures)
