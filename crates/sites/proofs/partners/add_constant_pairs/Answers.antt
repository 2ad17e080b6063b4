use Rattle.std.proofs.Common.{rules, ◌≡◌, suc, ◌+◌, ◌++◌, ◌∷◌, [], map, drop, sym, ap, ◌∙◌, pos, append_assoc, get_or, arith}
use Rattle.std.proofs.Math.Seq.{drop-cons}
use Rattle.flow.specs.declared.site.Partner.TheVariants as partner
use Rattle.sites.specs.SitesAt.{pair_on}
use Rattle.sites.specs.Visible.{slot_of}
use Rattle.sites.proofs.partners.add_constant_pairs.Goals as goal

pub loop-value-preserved : goal.loop-value-preserved
loop-value-preserved c =
    let i = c.loop-value.value-index in
    let values = c.args.constants.now in
    let sites = c.loop-value.sites in
    let pair = pair_on c.args.stand c.args.target.now.name (slot_of c.args.target.now.variable) in
    let rest = map pair (map partner.Constant (drop (i + 1) values)) in
    let next : suc i ≡ i + 1 = omega arith in
    let here = pair (partner.Constant (get_or values i (pos 0))) in
    let added : c.add_constant_pair.new.sites ≡ sites ++ here ∷ [] = search (rules, c.in_ok-add_constant_pair.ensures) in
    ap (λ l. l ++ rest) added
    ∙ append_assoc sites (here ∷ []) rest
    ∙ ap (λ k. sites ++ here ∷ map pair (map partner.Constant (drop k values))) (sym next)
    ∙ ap (λ l. sites ++ map pair (map partner.Constant l)) (sym (drop-cons values i (pos 0) c.loop-value-test.true))
    ∙ c.loop-value.invariant
