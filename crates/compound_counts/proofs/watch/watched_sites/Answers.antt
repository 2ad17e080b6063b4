use Rattle.std.proofs.Common.{◌≡◌, ℕ, List, [], ◌∷◌, ◌++◌, get_or, length, set, ap, ◌∙◌, arith}
use Rattle.std.proofs.lemmas.List.{get_or_default, length-map}
use Rattle.collector.specs.Sites.{is_branch}
use Rattle.compound_counts.proofs.Watching.{watched-more, watched-none}
use Rattle.compound_counts.proofs.watch.watched_sites.Goals as goal

pub loop-place-init : goal.loop-place-init
loop-place-init c =
    watched-none c.args.tallies.now.branches c.args.predicates.now (length c.sites.result.now) c.in_ok-watched.watched.items
    (omega (arith, ap length c.sites.ensures.value, ap length c.requires.sites, length-map c.args.table.now.sites is_branch)) c.in_ok-watched.ensures

pub loop-place-preserved : goal.loop-place-preserved
loop-place-preserved c =
    let items = c.loop-place.watched.items in
    let site = c.site_of-site.result in
    let m = c.loop-place.place in
    let list : c.index_mut.result.now ≡ get_or items site [] = c.index_mut.ensures.value ∙ get_or_default items site c.index_mut.result.now [] (omega (arith, c.site_of-site.ensures.within, c.loop-place.invariant.as_many)) in
    watched-more c.args.tallies.now.branches c.args.predicates.now m site items (set items site c.push.new.self) c.site_of-site.ensures.within c.site_of-site.ensures.own
    (ap (set items site) (c.in_ok-push.ensures.ok ∙ ap (λ (ws : List ℕ). ws ++ m ∷ []) list)) c.loop-place.invariant
