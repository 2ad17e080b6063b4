use Rattle.std.proofs.Common.{◌≡◌, sym, ap, subst, ◌∙◌}
use Rattle.cbi_base.specs.Lines.{ReadsLines, IsBadLine}
use Rattle.flow.specs.Words.{IsProgram, SpellsProgram}
use Rattle.program_file.specs.declared.draft.Draft.{Draft}
use Rattle.program_file.specs.Draft.{IsWhole, ProgramLineFollows, empty_draft, parts_in}
use Rattle.program_file.proofs.Alloc.{bad-moved}
use Rattle.program_file.proofs.Whole.{whole, whole-spelled, spelled-reads}
use Rattle.program_file.proofs.read.read_program.Goals as goal

pub of-requires : goal.of-requires
of-requires c =
    subst IsProgram (sym c.finish.ensures) (whole-spelled c.new-draft.result c.read_lines.new.reader c.args.bytes.now (ap (λ (d : Draft). d.due) c.new-draft.ensures) c.in-Ok.ensures.ok).is_program

pub returns-in-Ok-clause-found : goal.returns-in-Ok-clause-found
returns-in-Ok-clause-found c =
    subst (SpellsProgram c.args.bytes.now) (sym (c.in_ok-of-in-Ok.ensures ∙ c.finish.ensures)) (whole-spelled c.new-draft.result c.read_lines.new.reader c.args.bytes.now (ap (λ (d : Draft). d.due) c.new-draft.ensures) c.in-Ok.ensures.ok)

pub returns-in-Ok-clause-only : goal.returns-in-Ok-clause-only
returns-in-Ok-clause-only c = λ p spells.
    let reads = subst (λ d. ReadsLines ProgramLineFollows IsWhole d c.args.bytes.now (whole c.args.alloc p)) (sym c.new-draft.ensures) (spelled-reads c.args.alloc c.args.bytes.now p spells) in
    c.in_ok-of-in-Ok.ensures ∙ c.finish.ensures ∙ ap parts_in (c.in-Ok.ensures.only (whole c.args.alloc p) reads)

pub returns-in-Ok-clause-wrong : goal.returns-in-Ok-clause-wrong
returns-in-Ok-clause-wrong c = λ line wrong.
    c.in-Ok.ensures.bad_only line (subst (λ d. IsBadLine ProgramLineFollows IsWhole d c.args.bytes.now line) (sym c.new-draft.ensures) (bad-moved c.args.alloc wrong.alloc c.args.bytes.now line wrong.bad))

pub returns-in-Err-Bad-clause-only : goal.returns-in-Err-Bad-clause-only
returns-in-Err-Bad-clause-only c = λ p spells.
    let reads = subst (λ d. ReadsLines ProgramLineFollows IsWhole d c.args.bytes.now (whole c.args.alloc p)) (sym c.new-draft.ensures) (spelled-reads c.args.alloc c.args.bytes.now p spells) in
    rw c.in-Err-Bad.field-0-is at (c.in-Err-Bad.ensures.only (whole c.args.alloc p) reads)

pub returns-in-Err-Bad-clause-line : goal.returns-in-Err-Bad-clause-line
returns-in-Err-Bad-clause-line c = λ line e.
    let bad = rw c.in-Err-Bad.field-0-is at c.in-Err-Bad.ensures.bad in
    let same : c.in-Err-Bad.line ≡ line = cc in
    record { alloc = c.args.alloc; bad = subst (λ n. IsBadLine ProgramLineFollows IsWhole (empty_draft c.args.alloc) c.args.bytes.now n) same (subst (λ d. IsBadLine ProgramLineFollows IsWhole d c.args.bytes.now c.in-Err-Bad.line) c.new-draft.ensures bad) }

pub returns-in-Err-Bad-clause-wrong : goal.returns-in-Err-Bad-clause-wrong
returns-in-Err-Bad-clause-wrong c = λ line wrong.
    let bad = subst (λ d. IsBadLine ProgramLineFollows IsWhole d c.args.bytes.now line) (sym c.new-draft.ensures) (bad-moved c.args.alloc wrong.alloc c.args.bytes.now line wrong.bad) in
    let same : c.in-Err-Bad.line ≡ line = rw c.in-Err-Bad.field-0-is at (c.in-Err-Bad.ensures.bad_only line bad) in
    cc (same, c.in-Err-Bad.line-is, c.in-Err-Bad.field-0-is)
