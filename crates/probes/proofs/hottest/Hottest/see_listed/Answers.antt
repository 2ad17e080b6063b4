use Rattle.std.proofs.Common.{◌≡◌, ◌++◌, length, take, sym, ap, subst, ◌∙◌, arith}
use Rattle.probes.specs.Sites.{sites_seen}
use Rattle.probes.specs.Hottest.{AreCounted}
use Rattle.probes.proofs.Listed.{lent_whole}
use Rattle.probes.proofs.hottest.Hottest.see_listed.Goals as goal

pub invariant_of-self : goal.invariant_of-self
invariant_of-self c =
    let counts = c.self.inside.counts in
    let carried = c.self.inside.carried.items in
    let before = c.self.inside.log.observations in
    let new = c.count_listed-count.new.counts in
    let lent = c.as_mut_slice.ensures.value in
    let long : length new ≡ length counts.items = c.count_listed-count.ensures.len ∙ ap length lent in
    let counted : AreCounted new carried (sites_seen (before ++ take c.count_listed-count.result c.args.observations.now)) =
    c.count_listed-count.ensures.counted carried before (subst (λ l. AreCounted l carried (sites_seen before)) (sym lent) c.self.invariant) in
    subst (λ l. AreCounted l carried (sites_seen c.with_several-self-inside.result.observations)) (sym (lent_whole counts.items new counts.len long (omega (arith, counts.ok.0))))
    (subst (λ os. AreCounted new carried (sites_seen os)) (sym c.with_several-self-inside.ensures) counted)
