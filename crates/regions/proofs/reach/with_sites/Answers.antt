use Rattle.std.proofs.Common.{◌≡◌, inl, inr, ℕ, List, map, subst, rules}
use Rattle.std.specs.List.{Contains}
use Rattle.flow.specs.declared.site.Site.{Site}
use Rattle.regions.proofs.reach.with_sites.Goals as goal

pub returns-clause-only : goal.returns-clause-only
returns-clause-only c =
    let owners : c.deref.result.now ≡ map (λ (s : Site). s.function) c.args.sites.now = search rules in
    λ g h. elim (c.in_ok-add_each.ensures.only g h) [
      | inl old ↦ absurd (c.in_ok-found.ensures.none g old)
      | inr new ↦ subst (λ (xs : List ℕ). Contains xs g) owners new
    ]
