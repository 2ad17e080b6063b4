use Rattle.std.proofs.Common.{◌≡◌, codes, get_or, sym, ◌∙◌, rules}
use Rattle.collector.specs.Grammar.{current_report_closed}
use Rattle.collector.specs.declared.draft.Due.TheVariants as due
use Rattle.collector.proofs.Choices.{only-end, only-run, only-site}
use Rattle.collector.proofs.draft.Draft.take_line.Goals as goal

pub returns-then-eq-clause-only : goal.returns-then-eq-clause-only
returns-then-eq-clause-only c = λ next s.
    let d = c.args.self.now in
    let line : c.args.line.now ≡ codes "end" = search rules in
    let new : record c.close.new.self { due = due.Nothing } ≡ record (current_report_closed d) { due = due.Nothing } = search rules in
    new ∙ sym (only-end d c.args.line.now next line s).after_is

pub returns-then-begins_run-clause-only : goal.returns-then-begins_run-clause-only
returns-then-begins_run-clause-only c = λ next s.
    let begins : get_or c.args.line.now 0 0 ≡ 114 = search rules in
    c.take_run.ensures.only next (only-run c.args.self.now c.args.line.now next begins s)

pub returns-clause-only : goal.returns-clause-only
returns-clause-only c = λ next s.
    c.take_site.ensures.only next (only-site c.args.self.now c.args.line.now next (search rules) (search rules) s)
