use Rattle.std.proofs.Common.{◌≡◌, ◌+◌, ◌-◌, ◌∙◌, ap, arith, sym}
use Rattle.c_syntax.specs.Plain.{plain_operators}
use Rattle.lower_facts.specs.Facts.{facts_in, sites_in}
use Rattle.lower_operators.specs.Spots.{type_behind}
use Rattle.lower_operators.proofs.Spotted.{type_next}
use Rattle.lower_operators.proofs.spots.type_behind.Goals as goal

pub returns : goal.returns
returns c =
    let next : c.args.place ≡ c.args.place - 1 + 1 = omega (arith, c.if-place-eq0.false) in
    c.type_at.ensures ∙ ap (facts_in c.args.facts.now).type_at c.operator_token-token.ensures
    ∙ sym (type_next (facts_in c.args.facts.now) (sites_in c.args.facts.now) c.args.of c.args.operators.now (c.args.place - 1) c.index-operators-place.result (omega (arith, c.requires, next)) c.index-operators-place.is)
    ∙ ap (type_behind (facts_in c.args.facts.now) c.args.of (plain_operators c.args.operators.now)) (sym next)
