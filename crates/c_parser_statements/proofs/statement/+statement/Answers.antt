use Rattle.std.proofs.Common.{rules, ◌≡◌, ◌∙◌, map, Option, Some, None, Ok, Err, subst, sym}
use Rattle.c_syntax.specs.declared.statement.Entry.{Entry}
use Rattle.c_syntax.specs.Plain.{plain_entry}
use Rattle.c_parser_expressions.specs.Reading.{Cursor}
use Rattle.c_parser_expressions.specs.Steps.{all_of}
use Rattle.c_parser_declarations.specs.Turns.{GivesStep}
use Rattle.c_parser_statements.specs.StatementParser.{header_by, entry_step, statements_below}
use Rattle.c_parser_statements.specs.StatementViews.{plain_header, plain_entry_list}
use Rattle.c_parser_declarations.proofs.Turns.{turn_push, turn_less, turn_done, turn_err}
use Rattle.c_parser_statements.proofs.EntryLoops.{entries_advance}
use Rattle.c_parser_statements.proofs.StatementViews.{for_err, entry_stated}
use Rattle.c_parser_statements.proofs.statement.+statement.Goals as goal

-- entries
pub run-returns-in_err-entry : goal.run-returns-in_err-entry
run-returns-in_err-entry t c =
    let a = c.args in
    let step = entry_step a.depth (statements_below a.depth) in
    let same : c.from_residual.result ≡ Err c.in_err-entry.field-0.0 = search rules in
    rw same (turn_err plain_entry_list plain_entry step (all_of step a.reader.now)
    c.entries.reader c.next_entry.new.reader c.next_entry.new.reader (map plain_entry c.entries.entries.items)
    c.in_err-entry.field-0.0 c.entries.invariant c.in_err-entry.ensures)

pub run-entries-smaller : goal.run-entries-smaller
run-entries-smaller t c =
    let a = c.args in
    let step = entry_step a.depth (statements_below a.depth) in
    let is : c.in_ok-entry.field-0 ≡ Some c.in-Some.entry = cc in
    turn_less plain_entry step c.entries.reader c.next_entry.new.reader c.in-Some.entry (entries_advance a.depth)
    (subst (λ (v : Option Entry). GivesStep plain_entry (Ok v) c.entries.reader c.next_entry.new.reader (step c.entries.reader)) is c.in_ok-entry.ensures)

pub run-entries-preserved : goal.run-entries-preserved
run-entries-preserved t c =
    let a = c.args in
    let step = entry_step a.depth (statements_below a.depth) in
    let is : c.in_ok-entry.field-0 ≡ Some c.in-Some.entry = cc in
    turn_push plain_entry step (all_of step a.reader.now) c.entries.reader c.next_entry.new.reader
    c.entries.entries.items c.push.new.self.items c.in-Some.entry (entries_advance a.depth) c.entries.invariant
    (subst (λ (v : Option Entry). GivesStep plain_entry (Ok v) c.entries.reader c.next_entry.new.reader (step c.entries.reader)) is c.in_ok-entry.ensures)
    c.in_ok-push.ensures.items

pub run-returns : goal.run-returns
run-returns t c =
    let a = c.args in
    let step = entry_step a.depth (statements_below a.depth) in
    let is : c.in_ok-entry.field-0 ≡ None = cc in
    turn_done plain_entry step (all_of step a.reader.now) c.entries.reader c.next_entry.new.reader
    c.entries.entries.items c.entries.invariant
    (subst (λ (v : Option Entry). GivesStep plain_entry (Ok v) c.entries.reader c.next_entry.new.reader (step c.entries.reader)) is c.in_ok-entry.ensures)

pub next_entry-returns : goal.next_entry-returns
next_entry-returns t c =
    let a = c.args in
    entry_stated a.depth a.reader.now c.statement.new.reader c.in_ok-statement.statement (sym c.stands.ensures ∙ c.if-stands.false) c.if-depth-eq0.false
    (sym c.begins_type.ensures ∙ c.if-begins_type.false) c.in_ok-statement.ensures

-- the body of a `for` is refused
pub for_statement-returns-in-Err : goal.for_statement-returns-in-Err
for_statement-returns-in-Err t c =
    let a = c.args in
    for_err a.depth a.reader.now c.header.new.reader c.inner.new.reader c.inner.new.reader (plain_header c.in_ok-header.header)
    c.in-Err.stop c.if-depth-eq0.false
    (subst (λ (v : Cursor). header_by a.depth v ≡ Ok (plain_header c.in_ok-header.header, c.header.new.reader)) c.pass.ensures c.in_ok-header.ensures)
    c.in-Err.ensures
