use Rattle.std.proofs.Common.{rules, ◌-◌, ap, subst, arith, length}
use Rattle.lower_nodes.specs.Finished.{Finished, turned_number}
use Rattle.lower_nodes.proofs.Numbers.{all_turned, none_turned, turned_before}
use Rattle.lower_nodes.proofs.Ordered.{leads_on}
use Rattle.lower_nodes.proofs.numbering.finish.Goals as goal

pub overflow_cast-last : goal.overflow_cast-last
overflow_cast-last c = search (rules, c.nodes-nodes.ensures.few, c.saturating_sub-last.ensures)

pub loop-i-init : goal.loop-i-init
loop-i-init c = search (rules, none_turned)

pub loop-i-preserved : goal.loop-i-preserved
loop-i-preserved c =
    turned_before c.nodes-nodes.result.now c.loop-i.finished.items c.push.new.self.items (c.loop-i.i - 1) c.loop-i.i c.saturating_sub-last.result _ c.renumbered.result
    (omega (arith, c.loop-i-test.true)) c.loop-i.invariant c.saturating_sub-last.ensures c.renumbered.ensures c.in_ok-push.ensures.items

pub returns-clause-finished : goal.returns-clause-finished
returns-clause-finished c =
    subst (λ l. Finished l c.loop-i.finished.items (turned_number (length l - 1))) c.nodes-nodes.ensures.value
    (all_turned _ _ c.loop-i.i (omega (arith, c.loop-i-test.false)) c.loop-i.invariant)

pub returns-clause-as_many : goal.returns-clause-as_many
returns-clause-as_many c = omega (arith, ap length c.nodes-nodes.ensures.value, c.loop-i.invariant.count, c.loop-i-test.false)

pub returns-clause-most : goal.returns-clause-most
returns-clause-most c = omega (arith, returns-clause-as_many c, c.nodes-nodes.ensures.few)

pub returns-clause-leads : goal.returns-clause-leads
returns-clause-leads c = λ back. leads_on _ _ (returns-clause-as_many c) (returns-clause-finished c) back
