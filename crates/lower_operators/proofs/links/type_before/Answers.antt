use Rattle.std.proofs.Common.{◌≡◌, ◌+◌, ◌-◌, ◌∙◌, ap, arith, sym}
use Rattle.lower_facts.specs.Facts.{facts_in, sites_in}
use Rattle.lower_operators.specs.Linking.{type_before}
use Rattle.lower_operators.proofs.Linked.{type_after}
use Rattle.lower_operators.proofs.links.type_before.Goals as goal

pub returns : goal.returns
returns c =
    let next : c.args.place ≡ c.args.place - 1 + 1 = omega (arith, c.if-place-eq0.false) in
    c.type_at.ensures ∙ sym (type_after (facts_in c.args.facts.now) (sites_in c.args.facts.now) c.args.left c.args.links.now (c.args.place - 1) c.index-links-place.result (omega (arith, c.requires, next)) c.index-links-place.is)
    ∙ ap (type_before (facts_in c.args.facts.now) c.args.left c.args.links.now) (sym next)
