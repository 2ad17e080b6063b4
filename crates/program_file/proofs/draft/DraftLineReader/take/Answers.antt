use Rattle.std.proofs.Common.{◌≡◌, codes, sym, subst, ◌∙◌}
use Rattle.std.specs.Prelude.{OnOk}
use Rattle.std.proofs.lemmas.Result.{on_ok_weaker}
use Rattle.program_file.specs.declared.draft.Due.TheVariants as due
use Rattle.program_file.specs.Draft.{ProgramLineComes}
use Rattle.program_file.proofs.Taken.{title-row}
use Rattle.program_file.proofs.draft.DraftLineReader.take.Goals as goal

pub returns-in-Title-clause-ok : goal.returns-in-Title-clause-ok
returns-in-Title-clause-ok c =
    let d = c.args.self.now in
    let comes : OnOk c.expect.result (ProgramLineComes due.Title d c.args.line.now c.expect.new.self) =
    on_ok_weaker c.expect.result (λ (p : (c.args.line.now ≡ codes "cbi-program 1") × (c.expect.new.self ≡ record d { due = due.Texts })). (p.0 ∙ sym title-row, p.1)) c.expect.ensures.ok in
    subst (λ u. OnOk c.expect.result (ProgramLineComes u d c.args.line.now c.expect.new.self)) (sym c.in-Title.is) comes

pub returns-in-Title-clause-only : goal.returns-in-Title-clause-only
returns-in-Title-clause-only c = λ next f.
    let comes = subst (λ u. ProgramLineComes u c.args.self.now c.args.line.now next) c.in-Title.is f in
    c.expect.ensures.only next (comes.0 ∙ title-row, comes.1)
