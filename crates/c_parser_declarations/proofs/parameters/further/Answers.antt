use Rattle.std.proofs.Common.{rules, ◌≡◌, [], ◌∷◌, Option, None, Ok, Err, subst}
use Rattle.c_syntax.specs.declared.parts.Param.{Param}
use Rattle.c_parser_expressions.specs.Steps.{with_front, all_of}
use Rattle.c_parser_declarations.specs.Turns.{GivesStep}
use Rattle.c_parser_declarations.specs.PartParser.{param_step}
use Rattle.c_parser_declarations.proofs.Turns.{same_push, same_done, turn_err}
use Rattle.c_parser_declarations.proofs.PartTurns.{params_advance}
use Rattle.c_parser_declarations.proofs.parameters.further.Goals as goal

pub returns-in_err-item : goal.returns-in_err-item
returns-in_err-item c =
    let a = c.args in
    let same : c.from_residual-in_err-item.result ≡ Err c.in_err-item.field-0.0 = search rules in
    rw same
    (turn_err (λ xs. xs) (λ x. x) (param_step a.depth) (with_front (a.first ∷ []) (all_of (param_step a.depth) a.reader.now)) c.further.reader
    c.next_param.new.reader c.next_param.new.reader c.further.further.items c.in_err-item.field-0.0 c.further.invariant c.in_err-item.ensures)

pub further-smaller : goal.further-smaller
further-smaller c =
    let a = c.args in
    let read = subst (λ (o : Option Param). GivesStep (λ x. x) (Ok o) c.further.reader c.next_param.new.reader (param_step a.depth c.further.reader)) c.in-Some.is c.in_ok-item.ensures in
    (params_advance a.depth).less c.further.reader c.in-Some.item c.next_param.new.reader read

pub further-preserved : goal.further-preserved
further-preserved c =
    let a = c.args in
    let read = subst (λ (o : Option Param). GivesStep (λ x. x) (Ok o) c.further.reader c.next_param.new.reader (param_step a.depth c.further.reader)) c.in-Some.is c.in_ok-item.ensures in
    same_push (param_step a.depth) (with_front (a.first ∷ []) (all_of (param_step a.depth) a.reader.now)) c.further.reader c.next_param.new.reader
    c.further.further.items c.push-in-Some.new.self.items c.in-Some.item (params_advance a.depth) c.further.invariant read c.in_ok-push-2.ensures.items

pub returns : goal.returns
returns c =
    let a = c.args in
    let none : ◌≡◌ {A = Option Param} c.in_ok-item.field-0 None = cc in
    let ended = subst (λ (o : Option Param). GivesStep (λ x. x) (Ok o) c.further.reader c.next_param.new.reader (param_step a.depth c.further.reader)) none c.in_ok-item.ensures in
    rw c.from_vec.ensures
    (same_done (param_step a.depth) (with_front (a.first ∷ []) (all_of (param_step a.depth) a.reader.now)) c.further.reader c.next_param.new.reader c.further.further.items c.further.invariant ended)
