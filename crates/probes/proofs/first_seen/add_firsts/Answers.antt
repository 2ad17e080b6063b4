use Rattle.std.proofs.Common.{◌≡◌, length, sym, ap, ◌∙◌}
use Rattle.std.proofs.lemmas.Bool.{eqb-true}
use Rattle.probes.specs.Sites.{most_sites, sites_seen}
use Rattle.probes.specs.FirstSeen.{first_of}
use Rattle.probes.proofs.Firsts.{first_of-full, sites_seen-append}
use Rattle.probes.proofs.first_seen.add_firsts.Goals as goal

pub returns-then-is_full : goal.returns-then-is_full
returns-then-is_full c =
    let items = c.args.sites.now.items in
    let more = c.args.observations.now in
    let full : length items ≡ most_sites = eqb-true _ _ (sym c.is_full.ensures.value ∙ c.if-is_full.true) in
    λ seen is. first_of-full (sites_seen seen) (sites_seen more) items is full ∙ sym (ap first_of (sites_seen-append seen more))
