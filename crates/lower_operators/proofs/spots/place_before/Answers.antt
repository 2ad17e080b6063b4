use Rattle.std.proofs.Common.{◌≡◌, ◌+◌, ◌-◌, ◌∙◌, ap, arith, sym}
use Rattle.c_syntax.specs.Plain.{plain_operators}
use Rattle.lower_operators.specs.Spots.{place_before}
use Rattle.lower_operators.proofs.Spotted.{place_next}
use Rattle.lower_operators.proofs.spots.place_before.Goals as goal

pub returns : goal.returns
returns c =
    let next : c.args.place ≡ c.args.place - 1 + 1 = omega (arith, c.if-place-eq0.false) in
    c.leads_to_place.ensures
    ∙ sym (place_next c.args.known c.args.operators.now (c.args.place - 1) c.index-operators-place.result (omega (arith, c.requires, next)) c.index-operators-place.is)
    ∙ ap (place_before c.args.known (plain_operators c.args.operators.now)) (sym next)
