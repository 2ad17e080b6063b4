use Rattle.std.proofs.Common.{sym, ap, subst, ◌∙◌, [], ◌∷◌}
use Rattle.probes.specs.Sites.{sites_seen}
use Rattle.probes.specs.Hottest.{AreCounted}
use Rattle.probes.proofs.Firsts.{sites_seen-append}
use Rattle.probes.proofs.hottest.HottestProbe.see.Goals as goal

pub invariant_of-self : goal.invariant_of-self
invariant_of-self c = c.in_err-count.ensures.memory (sites_seen c.self.inside.log.observations) c.self.invariant

pub invariant_of-self-2 : goal.invariant_of-self-2
invariant_of-self-2 c =
    let before = c.self.inside.log.observations in
    subst (λ sites. AreCounted c.count.new.counts.items c.count.new.carried.items sites)
    (sym (ap sites_seen c.with-self-inside.ensures ∙ sites_seen-append before (c.args.observation ∷ [])))
    (c.in_ok-count.ensures.ok (sites_seen before) c.self.invariant)
