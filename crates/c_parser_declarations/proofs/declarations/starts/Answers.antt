use Rattle.std.proofs.Common.{rules, ◌≡◌, [], ◌∷◌, map, Option, Some, None, Ok, Err, subst}
use Rattle.c_syntax.specs.declared.statement.Start.{Start}
use Rattle.c_syntax.specs.Plain.{plain_start}
use Rattle.c_parser_expressions.specs.Steps.{with_front, all_of}
use Rattle.c_parser_declarations.specs.Turns.{GivesStep}
use Rattle.c_parser_declarations.specs.DeclarationParser.{start_step}
use Rattle.c_parser_declarations.proofs.Turns.{turn_push, turn_less, turn_done, turn_err}
use Rattle.c_parser_declarations.proofs.DeclarationLoops.{starts_advance}
use Rattle.c_parser_declarations.proofs.declarations.starts.Goals as goal

pub returns-in_err-start : goal.returns-in_err-start
returns-in_err-start c =
    let a = c.args in
    let step = start_step a.by a.depth in
    let same : c.from_residual-in_err-start.result ≡ Err c.in_err-start.field-0.0 = search rules in
    rw same (turn_err (map plain_start) plain_start step (with_front (plain_start a.first ∷ []) (all_of step a.reader.now))
    c.starts.reader c.next_start.new.reader c.next_start.new.reader (map plain_start c.starts.starts.items)
    c.in_err-start.field-0.0 c.starts.invariant c.in_err-start.ensures)

pub starts-smaller : goal.starts-smaller
starts-smaller c =
    let a = c.args in
    let step = start_step a.by a.depth in
    let is : c.in_ok-start.field-0 ≡ Some c.in-Some.start = cc in
    turn_less plain_start step c.starts.reader c.next_start.new.reader c.in-Some.start (starts_advance a.by a.depth c.requires)
    (subst (λ (v : Option Start). GivesStep plain_start (Ok v) c.starts.reader c.next_start.new.reader (step c.starts.reader)) is c.in_ok-start.ensures)

pub starts-preserved : goal.starts-preserved
starts-preserved c =
    let a = c.args in
    let step = start_step a.by a.depth in
    let is : c.in_ok-start.field-0 ≡ Some c.in-Some.start = cc in
    turn_push plain_start step (with_front (plain_start a.first ∷ []) (all_of step a.reader.now)) c.starts.reader c.next_start.new.reader
    c.starts.starts.items c.push-in-Some.new.self.items c.in-Some.start (starts_advance a.by a.depth c.requires) c.starts.invariant
    (subst (λ (v : Option Start). GivesStep plain_start (Ok v) c.starts.reader c.next_start.new.reader (step c.starts.reader)) is c.in_ok-start.ensures)
    c.in_ok-push-2.ensures.items

pub returns : goal.returns
returns c =
    let a = c.args in
    let step = start_step a.by a.depth in
    let is : c.in_ok-start.field-0 ≡ None = cc in
    rw c.from_vec.ensures (turn_done plain_start step (with_front (plain_start a.first ∷ []) (all_of step a.reader.now)) c.starts.reader
    c.next_start.new.reader c.starts.starts.items c.starts.invariant
    (subst (λ (v : Option Start). GivesStep plain_start (Ok v) c.starts.reader c.next_start.new.reader (step c.starts.reader)) is c.in_ok-start.ensures))
