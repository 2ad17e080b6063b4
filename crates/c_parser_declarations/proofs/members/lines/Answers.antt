use Rattle.std.proofs.Common.{rules, ◌≡◌, [], ◌∷◌, Option, None, Ok, Err, subst}
use Rattle.c_syntax.specs.declared.parts.Members.{Members}
use Rattle.c_parser_expressions.specs.Steps.{with_front, all_of}
use Rattle.c_parser_declarations.specs.Turns.{GivesStep}
use Rattle.c_parser_declarations.specs.PartParser.{members_step}
use Rattle.c_parser_declarations.proofs.Turns.{same_push, same_done, turn_err}
use Rattle.c_parser_declarations.proofs.PartTurns.{lines_advance}
use Rattle.c_parser_declarations.proofs.members.lines.Goals as goal

pub returns-in_err-item : goal.returns-in_err-item
returns-in_err-item c =
    let a = c.args in
    let same : c.from_residual-in_err-item.result ≡ Err c.in_err-item.field-0.0 = search rules in
    rw same
    (turn_err (λ xs. xs) (λ x. x) (members_step a.depth) (with_front (a.first ∷ []) (all_of (members_step a.depth) a.reader.now)) c.lines.reader
    c.next_members.new.reader c.next_members.new.reader c.lines.lines.items c.in_err-item.field-0.0 c.lines.invariant c.in_err-item.ensures)

pub lines-smaller : goal.lines-smaller
lines-smaller c =
    let a = c.args in
    let read = subst (λ (o : Option Members). GivesStep (λ x. x) (Ok o) c.lines.reader c.next_members.new.reader (members_step a.depth c.lines.reader)) c.in-Some.is c.in_ok-item.ensures in
    (lines_advance a.depth).less c.lines.reader c.in-Some.item c.next_members.new.reader read

pub lines-preserved : goal.lines-preserved
lines-preserved c =
    let a = c.args in
    let read = subst (λ (o : Option Members). GivesStep (λ x. x) (Ok o) c.lines.reader c.next_members.new.reader (members_step a.depth c.lines.reader)) c.in-Some.is c.in_ok-item.ensures in
    same_push (members_step a.depth) (with_front (a.first ∷ []) (all_of (members_step a.depth) a.reader.now)) c.lines.reader c.next_members.new.reader
    c.lines.lines.items c.push-in-Some.new.self.items c.in-Some.item (lines_advance a.depth) c.lines.invariant read c.in_ok-push-2.ensures.items

pub returns : goal.returns
returns c =
    let a = c.args in
    let none : ◌≡◌ {A = Option Members} c.in_ok-item.field-0 None = cc in
    let ended = subst (λ (o : Option Members). GivesStep (λ x. x) (Ok o) c.lines.reader c.next_members.new.reader (members_step a.depth c.lines.reader)) none c.in_ok-item.ensures in
    rw c.from_vec.ensures
    (same_done (members_step a.depth) (with_front (a.first ∷ []) (all_of (members_step a.depth) a.reader.now)) c.lines.reader c.next_members.new.reader c.lines.lines.items c.lines.invariant ended)
