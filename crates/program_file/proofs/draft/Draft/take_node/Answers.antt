use Rattle.std.proofs.Common.{◌≡◌, ap, sym, ◌∙◌}
use Rattle.flow.specs.declared.node.Node.{Node}
use Rattle.flow.specs.Spelling.{Head}
use Rattle.program_file.specs.Draft.{with_nodes, with_placed}
use Rattle.program_file.proofs.Grammar.{due-once}
use Rattle.program_file.proofs.draft.Draft.take_node.Goals as goal

pub returns-clause-ok : goal.returns-clause-ok
returns-clause-ok c =
    let is = c.in-Ok.ensures.ok in
    ((is.0, c.in-Ok.node), is.1, c.in-Ok-pass_nodes.ensures is.0 is.1.is_due ∙ ap (λ ns. with_nodes c.args.self.now is.0 ns) c.in-Ok-push.ensures.ok)

pub returns-clause-only : goal.returns-clause-only
returns-clause-only c = λ next f.
    let is = c.in-Ok.ensures.ok in
    let made = c.in-Ok-pass_nodes.ensures is.0 is.1.is_due ∙ ap (λ ns. with_nodes c.args.self.now is.0 ns) c.in-Ok-push.ensures.ok in
    let head : is.0 ≡ f.0.0 = due-once c.args.self.now is.0 f.0.0 is.1.is_due f.1.is_due in
    let node : c.in-Ok.node ≡ f.0.1 = c.in-Ok.ensures.only f.0.0 f.0.1 f.1 in
    made ∙ ap (λ (h : Head). with_placed c.args.self.now (h, c.in-Ok.node)) head ∙ ap (λ (n : Node). with_placed c.args.self.now (f.0.0, n)) node ∙ sym f.2
