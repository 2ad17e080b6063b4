use Rattle.std.proofs.Common.{◌≡◌, ◌+◌, ◌∷◌, drop, ap, sym, subst, ◌∙◌, arith}
use Rattle.std.proofs.lemmas.List.{drop_more}
use Rattle.sites.specs.Standing.{EachToken, IsUpTo}
use Rattle.sites.proofs.Standing.{up_to}
use Rattle.sites.proofs.noted.latest.Goals as goal

pub loop-spot-preserved : goal.loop-spot-preserved
loop-spot-preserved c n le rest =
    let i = c.loop-spot.spot-index in
    let spots = c.args.spots.now in
    let x = c.spot-item.result in
    let there : drop i spots ≡ x ∷ drop (i + 1) spots = drop_more spots i x c.loop-spot-test.true ∙ ap (λ y. y ∷ drop (i + 1) spots) (sym c.spot-item.is) in
    c.loop-spot.invariant n (omega (arith, le, c.later-last.ensures.other))
    (subst (EachToken (IsUpTo n)) (sym there) (up_to x c.token_of.result c.later-last.result n (drop (i + 1) spots) c.token_of.ensures c.later-last.ensures.token le rest))
