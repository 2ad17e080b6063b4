use Rattle.std.proofs.Common.{◌∙◌, ap, sym, ◌∷◌, ◌++◌, [], is_some}
use Rattle.c_types_expressions.proofs.Stacks.{kept, on_err, pushed_first, pushed_on}
use Rattle.c_types_expressions.proofs.index.push.Goals as goal

pub returns-in_err-push-clause-err : goal.returns-in_err-push-clause-err
returns-in_err-push-clause-err c =
    on_err c.from_residual.result
    (kept c.args.name.now c.args.stacks.now (c.get_mut.follows.lender c.push.new.self) c.push.new.self c.in-Some.stack.now c.in-Some.ensures.value
    ((c.get_mut.follows.holds c.push.new.self).3 (ap is_some (sym c.in-Some.ensures.value))) c.in_err-push.ensures.items)

pub returns-in-Some-clause-ok : goal.returns-in-Some-clause-ok
returns-in-Some-clause-ok c =
    pushed_on c.args.name.now c.args.stacks.now (c.get_mut.follows.lender c.push.new.self) c.push.new.self c.in-Some.stack.now c.in-Some.ensures.value c.args.declared
    ((c.get_mut.follows.holds c.push.new.self).3 (ap is_some (sym c.in-Some.ensures.value))) c.in_ok-push.ensures.items

pub returns-clause-ok : goal.returns-clause-ok
returns-clause-ok c =
    pushed_first c.in_ok-from_slice.field-0 c.args.name.now c.args.stacks.now c.insert.new.self c.push-2.new.self c.args.declared c.in_ok-from_slice.ensures.items
    c.in_default.ensures.value
    (rw c.get_mut.follows.holds-at-none at c.in_ok-insert.ensures.updates)
    (c.in_ok-push-2.ensures.items ∙ ap (λ s. s ++ c.args.declared ∷ []) c.new-stack.ensures.items)
