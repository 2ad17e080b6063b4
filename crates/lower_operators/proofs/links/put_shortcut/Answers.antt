use Rattle.lower_facts.specs.Facts.{facts_in, sites_in}
use Rattle.lower_operators.proofs.Linked.{shortcut_both, shortcut_either}
use Rattle.lower_operators.proofs.links.put_shortcut.Goals as goal

pub returns-then-is_both-clause-made : goal.returns-then-is_both-clause-made
returns-then-is_both-clause-made c =
    rw c.if-is_both.true
    (shortcut_both (facts_in c.args.facts.now) (sites_in c.args.facts.now) c.args.token c.args.right _ _ _ _ _ c.args.next c.in_ok-zero.ensures.number c.in_ok-zero.ensures.added c.in_ok-i.ensures.made)

pub returns-clause-made : goal.returns-clause-made
returns-clause-made c =
    rw c.if-is_both.false
    (shortcut_either (facts_in c.args.facts.now) (sites_in c.args.facts.now) c.args.token c.args.right _ _ _ _ _ c.args.next c.in_ok-one.ensures.number c.in_ok-one.ensures.added c.in_ok-i-2.ensures.made)
