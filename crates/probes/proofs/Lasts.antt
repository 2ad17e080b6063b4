-- The last so many of a list.
use Rattle.std.proofs.Common.{◌≡◌, ℕ, ◌+◌, ◌-◌, ◌≤◌, inl, inr, List, ◌++◌, length, length-append, drop, sym, ap, ◌∙◌, arith}
use Rattle.std.proofs.Math.Seq.{drop-append-add}
use Rattle.std.proofs.lemmas.Bool.{cases_lt}
use Rattle.std.proofs.lemmas.List.{length-drop, drop-map, length-map, map-append}
use Rattle.cbi_base.specs.declared.observation.Observation.{Observation}
use Rattle.probes.specs.Sites.{most_sites, sites_seen}
use Rattle.probes.specs.LastSeen.{last_of, last_sites}

-- of no more than there is room for, all
pub last_of-short : (most : ℕ) (xs : List ℕ) → length xs ≤ most → last_of most xs ≡ xs
last_of-short most xs short = let none : length xs - most ≡ 0 = omega arith in ap (λ n. drop n xs) none

-- what stands before as many doesn't count
last_of-behind : (most : ℕ) (xs ys : List ℕ) → most ≤ length ys → last_of most (xs ++ ys) ≡ last_of most ys
last_of-behind most xs ys enough =
    let long : length (xs ++ ys) - most ≡ length xs + (length ys - most) = omega (arith, length-append xs ys, enough) in
    ap (λ n. drop n (xs ++ ys)) long ∙ drop-append-add xs ys (length ys - most)

length-last_of : (most : ℕ) (xs : List ℕ) → most ≤ length xs → length (last_of most xs) ≡ most
length-last_of most xs enough = omega (arith, length-drop (length xs - most) xs, enough)

-- of others and the last of a list, the last ones are those of the whole
pub last_of-of_last : (most : ℕ) (xs ys : List ℕ) → last_of most (xs ++ last_of most ys) ≡ last_of most (xs ++ ys)
last_of-of_last most xs ys =
    elim (cases_lt (length ys) most) [
      | inl short ↦ ap (λ l. last_of most (xs ++ l)) (last_of-short most ys (omega arith))
      | inr long ↦
          let exact = length-last_of most ys long in
          last_of-behind most xs (last_of most ys) (omega (arith, exact)) ∙ last_of-short most (last_of most ys) (omega (arith, exact)) ∙ sym (last_of-behind most xs ys long)
    ]

-- the last sites so far, and the last of several more
pub last_sites-several : (seen more : List Observation) (sites : List ℕ) (skipped : ℕ) → skipped ≡ length more - most_sites → sites ≡ last_of most_sites (sites_seen seen ++ sites_seen (drop skipped more)) → sites ≡ last_sites (seen ++ more)
last_sites-several seen more sites skipped skip is =
    let few : skipped ≡ length (sites_seen more) - most_sites = skip ∙ sym (ap (λ n. n - most_sites) (length-map more (λ (o : Observation). o.site))) in
    let latest : sites_seen (drop skipped more) ≡ last_of most_sites (sites_seen more) = sym (drop-map (λ (o : Observation). o.site) skipped more) ∙ ap (λ n. drop n (sites_seen more)) few in
    is ∙ ap (λ l. last_of most_sites (sites_seen seen ++ l)) latest ∙ last_of-of_last most_sites (sites_seen seen) (sites_seen more)
    ∙ ap (last_of most_sites) (sym (map-append (λ (o : Observation). o.site) seen more))
