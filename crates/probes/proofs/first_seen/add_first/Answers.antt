use Rattle.std.proofs.Common.{◌≡◌, ◌<◌, true, false, length, sym, ap, ◌∙◌, [], ◌∷◌}
use Rattle.std.proofs.lemmas.Bool.{eqb-true, eqb-false}
use Rattle.probes.specs.Sites.{most_sites}
use Rattle.probes.proofs.Firsts.{stands_in, first_of-full, not_full, first_of-known, first_of-new}
use Rattle.probes.proofs.first_seen.add_first.Goals as goal
use Rattle.probes.proofs.first_seen.add_first.Goals.{then-is_full-via-then-is_full, then-is_full-via-else-is_full+then-contains}

pub returns-then-is_full : goal.returns-then-is_full
returns-then-is_full c =
    let items = c.args.sites.now.items in
    elim c.then-is_full.branch [
      | then-is_full-via-then-is_full w ↦
          let full : length items ≡ most_sites = eqb-true _ _ (sym c.is_full.ensures.value ∙ w.if-is_full.true) in
          λ seen is. first_of-full seen (c.args.site ∷ []) items is full
      | then-is_full-via-else-is_full+then-contains w ↦
          let room : length items ≡ most_sites → ⊥ = eqb-false _ _ (sym c.is_full.ensures.value ∙ w.if-is_full.false) in
          let few : length items < most_sites = not_full (length items) c.is_full.ensures.fits room in
          let known : stands_in items c.args.site ≡ true = ap (λ ks. stands_in ks c.args.site) (sym w.as_slice.ensures.value) ∙ sym w.contains.ensures.value ∙ w.if-contains.true in
          λ seen is. first_of-known seen items c.args.site is few known
    ]

pub returns : goal.returns
returns c =
    let items = c.args.sites.now.items in
    let room : length items ≡ most_sites → ⊥ = eqb-false _ _ (sym c.is_full.ensures.value ∙ c.if-is_full.false) in
    let few : length items < most_sites = not_full (length items) c.is_full.ensures.fits room in
    let new : stands_in items c.args.site ≡ false = ap (λ ks. stands_in ks c.args.site) (sym c.as_slice.ensures.value) ∙ sym c.contains.ensures.value ∙ c.if-contains.false in
    λ seen is. c.push.ensures.items ∙ first_of-new seen items c.args.site is few new
