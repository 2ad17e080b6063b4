use Rattle.std.proofs.Common.{◌≡◌, slice_get, length, sym, ap, ◌∙◌}
use Rattle.base_lists.proofs.Options.{some_is}
use Rattle.flow.specs.Spelling.{Head}
use Rattle.flow.specs.declared.program.Function.{Function}
use Rattle.program_file.specs.Draft.{IsDue, with_nodes, function_with}
use Rattle.program_file.proofs.Taken.{passed}
use Rattle.program_file.proofs.draft.Draft.pass_nodes.Goals as goal

pub returns : goal.returns
returns c = λ head is.
    let d = c.args.self.now in
    let g = c.in-Some.head.now in
    let is_due : IsDue d g = ap (slice_get d.heads) (sym c.len-number.ensures) ∙ c.in-Some.ensures.found in
    let same : g ≡ head = some_is (sym is_due ∙ is) in
    let f : Function = record { name = c.in_ok-name.name; value = c.head.inside.value; params = c.head.inside.params; locals = c.replace.result; nodes = c.replace-2.result } in
    let full : length d.nodes ≡ g.nodes = sym c.len.ensures ∙ c.if-len-head.false ∙ ap (λ (h : Head). h.nodes) c.head.view_is in
    let is_f : f ≡ function_with g d.locals d.nodes =
    ap (λ n. record f { name = n }) c.in_ok-name.ensures ∙ ap (λ (h : Head). record { name = h.name; value = h.value; params = h.params; locals = c.replace.result; nodes = c.replace-2.result }) c.head.view_is
    ∙ ap (λ ls. record { name = g.name; value = g.value; params = g.params; locals = ls; nodes = c.replace-2.result }) c.replace.ensures.value ∙ ap (λ ns. function_with g d.locals ns) c.replace-2.ensures.value in
    let made = passed d g f c.due_after_function-self.result c.push.new.self c.replace.new.dest c.replace-2.new.dest full is_f c.in_ok-push.ensures.ok c.due_after_function-self.ensures (c.replace.ensures.after ∙ c.new.ensures) (c.replace-2.ensures.after ∙ c.new-2.ensures) in
    made ∙ ap (λ (h : Head). with_nodes d h d.nodes) same
