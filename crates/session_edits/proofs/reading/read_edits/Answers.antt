use Rattle.std.proofs.Common.{ap, sym, subst, ◌∙◌}
use Rattle.cbi_base.specs.Lines.{IsBadLine, ReadsLines}
use Rattle.session_edits.specs.Grammar.{EditLineFollows, EditsEnd}
use Rattle.session_edits.specs.Spelling.{SpellsEdits}
use Rattle.session_edits.specs.declared.draft.Reading.{Reading}
use Rattle.session_edits.proofs.Leads.{spelled-reads}
use Rattle.session_edits.proofs.Spelled.{reads-spelled}
use Rattle.session_edits.proofs.reading.read_edits.Goals as goal

pub returns-in-Ok-clause-found : goal.returns-in-Ok-clause-found
returns-in-Ok-clause-found c =
    subst (SpellsEdits c.args.program.now c.args.bytes.now) (sym c.into_edits.ensures) (reads-spelled c.args.program.now c.args.bytes.now c.args.alloc c.new-reading.result c.read_lines.new.reader c.is_identity.ensures c.new-reading.ensures c.in-Ok.ensures.ok)

pub returns-in-Ok-clause-only : goal.returns-in-Ok-clause-only
returns-in-Ok-clause-only c = λ edits spells.
    let read = spelled-reads c.args.alloc c.args.program.now c.args.bytes.now edits spells in
    let whole = c.in-Ok.ensures.only read.to (subst (λ r. ReadsLines EditLineFollows EditsEnd r c.args.bytes.now read.to) (sym c.new-reading.ensures) read.reads) in
    c.into_edits.ensures ∙ ap (λ (r : Reading). r.draft.edits) whole ∙ read.edits_are

pub returns-in-Ok-clause-line_only : goal.returns-in-Ok-clause-line_only
returns-in-Ok-clause-line_only c = λ line bad.
    c.in-Ok.ensures.bad_only line (subst (λ r. IsBadLine EditLineFollows EditsEnd r c.args.bytes.now line) (sym c.new-reading.ensures) bad)

pub returns-in-Err-Bad-clause-only : goal.returns-in-Err-Bad-clause-only
returns-in-Err-Bad-clause-only c = λ edits spells.
    let read = spelled-reads c.args.alloc c.args.program.now c.args.bytes.now edits spells in
    rw c.in-Err-Bad.field-0-is at (c.in-Err-Bad.ensures.only read.to (subst (λ r. ReadsLines EditLineFollows EditsEnd r c.args.bytes.now read.to) (sym c.new-reading.ensures) read.reads))

pub returns-in-Err-Bad-clause-line_only : goal.returns-in-Err-Bad-clause-line_only
returns-in-Err-Bad-clause-line_only c = λ line bad.
    rw c.in-Err-Bad.field-0-is at (c.in-Err-Bad.ensures.bad_only line (subst (λ r. IsBadLine EditLineFollows EditsEnd r c.args.bytes.now line) (sym c.new-reading.ensures) bad))
