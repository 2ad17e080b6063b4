use Rattle.std.proofs.Common.{ap, sym, subst, ◌∙◌}
use Rattle.cbi_base.specs.Lines.{IsBadLine, ReadsLines}
use Rattle.name_lists.specs.Grammar.{ListEnds, NameFollows}
use Rattle.name_lists.specs.List.{SpellsList}
use Rattle.name_lists.specs.declared.draft.Draft.{Draft}
use Rattle.name_lists.proofs.Texts.{listed, reads-spelled, spelled-reads}
use Rattle.name_lists.proofs.reading.read_list.Goals as goal

pub returns-in-Ok-clause-found : goal.returns-in-Ok-clause-found
returns-in-Ok-clause-found c =
    let reads = subst (λ (d : Draft). ReadsLines NameFollows ListEnds d c.args.text.now c.read_lines.new.reader) c.new-draft.ensures c.in-Ok.ensures.ok in
    subst (SpellsList c.args.first c.args.text.now) (sym c.into_names.ensures) (reads-spelled c.args.alloc c.args.first c.args.text.now c.read_lines.new.reader reads)

pub returns-in-Ok-clause-only : goal.returns-in-Ok-clause-only
returns-in-Ok-clause-only c = λ names spells.
    let to = listed c.args.alloc c.args.first names in
    let reads = subst (λ (d : Draft). ReadsLines NameFollows ListEnds d c.args.text.now to) (sym c.new-draft.ensures) (spelled-reads c.args.alloc c.args.first c.args.text.now names spells) in
    c.into_names.ensures ∙ ap (λ (d : Draft). d.names) (c.in-Ok.ensures.only to reads)

pub returns-in-Ok-clause-line_only : goal.returns-in-Ok-clause-line_only
returns-in-Ok-clause-line_only c = λ line bad.
    c.in-Ok.ensures.bad_only line (subst (λ (d : Draft). IsBadLine NameFollows ListEnds d c.args.text.now line) (sym c.new-draft.ensures) bad)

pub returns-in-Err-Bad-clause-only : goal.returns-in-Err-Bad-clause-only
returns-in-Err-Bad-clause-only c = λ names spells.
    let to = listed c.args.alloc c.args.first names in
    let reads = subst (λ (d : Draft). ReadsLines NameFollows ListEnds d c.args.text.now to) (sym c.new-draft.ensures) (spelled-reads c.args.alloc c.args.first c.args.text.now names spells) in
    rw c.in-Err-Bad.field-0-is at (c.in-Err-Bad.ensures.only to reads)

pub returns-in-Err-Bad-clause-line_only : goal.returns-in-Err-Bad-clause-line_only
returns-in-Err-Bad-clause-line_only c = λ line bad.
    rw c.in-Err-Bad.field-0-is at (c.in-Err-Bad.ensures.bad_only line (subst (λ (d : Draft). IsBadLine NameFollows ListEnds d c.args.text.now line) (sym c.new-draft.ensures) bad))
