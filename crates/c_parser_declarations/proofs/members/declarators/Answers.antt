use Rattle.std.proofs.Common.{rules, ◌≡◌, [], ◌∷◌, Option, None, Ok, Err, subst}
use Rattle.c_syntax.specs.declared.parts.Declarator.{Declarator}
use Rattle.c_parser_expressions.specs.Steps.{with_front, all_of}
use Rattle.c_parser_declarations.specs.Turns.{GivesStep}
use Rattle.c_parser_declarations.specs.PartParser.{declarator_step}
use Rattle.c_parser_declarations.proofs.Turns.{same_push, same_done, turn_err}
use Rattle.c_parser_declarations.proofs.PartTurns.{declarators_advance}
use Rattle.c_parser_declarations.proofs.members.declarators.Goals as goal

pub returns-in_err-item : goal.returns-in_err-item
returns-in_err-item c =
    let a = c.args in
    let same : c.from_residual-in_err-item.result ≡ Err c.in_err-item.field-0.0 = search rules in
    rw same
    (turn_err (λ xs. xs) (λ x. x) (declarator_step a.depth) (with_front (a.first ∷ []) (all_of (declarator_step a.depth) a.reader.now)) c.declarators.reader
    c.next_declarator.new.reader c.next_declarator.new.reader c.declarators.declarators.items c.in_err-item.field-0.0 c.declarators.invariant c.in_err-item.ensures)

pub declarators-smaller : goal.declarators-smaller
declarators-smaller c =
    let a = c.args in
    let read = subst (λ (o : Option Declarator). GivesStep (λ x. x) (Ok o) c.declarators.reader c.next_declarator.new.reader (declarator_step a.depth c.declarators.reader)) c.in-Some.is c.in_ok-item.ensures in
    (declarators_advance a.depth).less c.declarators.reader c.in-Some.item c.next_declarator.new.reader read

pub declarators-preserved : goal.declarators-preserved
declarators-preserved c =
    let a = c.args in
    let read = subst (λ (o : Option Declarator). GivesStep (λ x. x) (Ok o) c.declarators.reader c.next_declarator.new.reader (declarator_step a.depth c.declarators.reader)) c.in-Some.is c.in_ok-item.ensures in
    same_push (declarator_step a.depth) (with_front (a.first ∷ []) (all_of (declarator_step a.depth) a.reader.now)) c.declarators.reader c.next_declarator.new.reader
    c.declarators.declarators.items c.push-in-Some.new.self.items c.in-Some.item (declarators_advance a.depth) c.declarators.invariant read c.in_ok-push-2.ensures.items

pub returns : goal.returns
returns c =
    let a = c.args in
    let none : ◌≡◌ {A = Option Declarator} c.in_ok-item.field-0 None = cc in
    let ended = subst (λ (o : Option Declarator). GivesStep (λ x. x) (Ok o) c.declarators.reader c.next_declarator.new.reader (declarator_step a.depth c.declarators.reader)) none c.in_ok-item.ensures in
    rw c.from_vec.ensures
    (same_done (declarator_step a.depth) (with_front (a.first ∷ []) (all_of (declarator_step a.depth) a.reader.now)) c.declarators.reader c.next_declarator.new.reader c.declarators.declarators.items c.declarators.invariant ended)
