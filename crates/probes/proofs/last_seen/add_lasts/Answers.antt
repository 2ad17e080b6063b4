use Rattle.std.proofs.Common.{◌≡◌, ◌-◌, ◌++◌, length, drop, take, ap, ◌∙◌}
use Rattle.std.proofs.lemmas.List.{take_all, take_rest}
use Rattle.probes.specs.Sites.{most_sites, sites_seen}
use Rattle.probes.specs.LastSeen.{last_of}
use Rattle.probes.proofs.Lasts.{last_sites-several}
use Rattle.probes.proofs.last_seen.add_lasts.Goals as goal

pub returns : goal.returns
returns c = λ seen is.
    let l = c.loop-observation in
    let more = c.args.observations.now in
    let skipped = c.saturating_sub.result in
    let latest : take l.observation-index (take (length more - skipped) (drop skipped more)) ≡ drop skipped more = take_all _ _ c.loop-observation-test.false ∙ take_rest more skipped in
    last_sites-several seen more l.sites.items skipped c.saturating_sub.ensures (l.invariant seen is ∙ ap (λ os. last_of most_sites (sites_seen seen ++ sites_seen os)) latest)
