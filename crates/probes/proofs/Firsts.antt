-- The distinct sites of a list, one site after another.
use Rattle.std.proofs.Common.{◌≡◌, ℕ, ◌<◌, ◌≤◌, inl, inr, Bool, true, false, not, ◌||◌, ◌==◌, nat_eq, cond, List, [], ◌∷◌, ◌++◌, length, take, filter, refl, sym, ap, ◌∙◌, arith, append_assoc}
use Rattle.std.specs.List.{list_any}
use Rattle.std.proofs.lemmas.Bool.{cases_eq, cases_lt, eq-eqb, ne_eqb}
use Rattle.std.proofs.lemmas.List.{append-nil, take-append-le, take_all, length-take-le, length_push, map-append}
use Rattle.std.proofs.lemmas.List.Elements.{filter-append}
use Rattle.cbi_base.specs.declared.observation.Observation.{Observation}
use Rattle.probes.specs.Sites.{most_sites, sites_seen}
use Rattle.probes.specs.FirstSeen.{firsts_of, first_of}

abbrev pub others_than : ℕ → ℕ → Bool
others_than site other = not (other == site)

pub filter-skip : (p : ℕ → Bool) (k : ℕ) (ks : List ℕ) → p k ≡ false → filter p (k ∷ ks) ≡ filter p ks
filter-skip p k ks out = ap (λ b. cond b (k ∷ filter p ks) (filter p ks)) out

pub filter-keep : (p : ℕ → Bool) (k : ℕ) (ks : List ℕ) → p k ≡ true → filter p (k ∷ ks) ≡ k ∷ filter p ks
filter-keep p k ks pass = ap (λ b. cond b (k ∷ filter p ks) (filter p ks)) pass

pub others-same : (x k : ℕ) → k ≡ x → others_than x k ≡ false
others-same x k same = ap not (eq-eqb k x same)

pub others-other : (x k : ℕ) → (k ≡ x → ⊥) → others_than x k ≡ true
others-other x k apart = ap not (ne_eqb k x apart)

-- a number stands in a list
abbrev pub stands_in : List ℕ → ℕ → Bool
stands_in ks y = list_any (λ k. nat_eq k y) ks

-- a filter that takes out one number doesn't change whether another is there
list_any-filter : (x y : ℕ) (ks : List ℕ) → (y ≡ x → ⊥) → stands_in (filter (others_than x) ks) y ≡ stands_in ks y
list_any-filter x y [] apart = refl
list_any-filter x y (k ∷ ks) apart =
    elim (cases_eq k x) [
      | inl same ↦
          let out : nat_eq k y ≡ false = ne_eqb k y (λ e. apart (sym e ∙ same)) in
          ap (λ l. stands_in l y) (filter-skip (others_than x) k ks (others-same x k same)) ∙ list_any-filter x y ks apart ∙ sym (ap (λ b. b || stands_in ks y) out)
      | inr other ↦
          ap (λ l. stands_in l y) (filter-keep (others_than x) k ks (others-other x k other)) ∙ ap (λ b. nat_eq k y || b) (list_any-filter x y ks apart)
    ]

-- a number that is added where it isn't yet there
abbrev added : Bool → List ℕ → ℕ → List ℕ
added there ks y = cond there ks (ks ++ y ∷ [])

filter-added_same : (p : ℕ → Bool) (there : Bool) (ks : List ℕ) (y : ℕ) → p y ≡ false → filter p (added there ks y) ≡ filter p ks
filter-added_same p true ks y out = refl
filter-added_same p false ks y out = filter-append p ks (y ∷ []) ∙ ap (λ l. filter p ks ++ l) (filter-skip p y [] out) ∙ append-nil (filter p ks)

filter-added_other : (p : ℕ → Bool) (there : Bool) (ks : List ℕ) (y : ℕ) → p y ≡ true → filter p (added there ks y) ≡ added there (filter p ks) y
filter-added_other p true ks y pass = refl
filter-added_other p false ks y pass = filter-append p ks (y ∷ []) ∙ ap (λ l. filter p ks ++ l) (filter-keep p y [] pass)

cons-added : (there : Bool) (x y : ℕ) (ks : List ℕ) → x ∷ added there ks y ≡ added there (x ∷ ks) y
cons-added true x y ks = refl
cons-added false x y ks = refl

firsts_of-push : (xs : List ℕ) (y : ℕ) → firsts_of (xs ++ y ∷ []) ≡ added (stands_in (firsts_of xs) y) (firsts_of xs) y
firsts_of-push [] y = refl
firsts_of-push (x ∷ xs) y =
    let p = others_than x in
    let ks = firsts_of xs in
    let there = stands_in ks y in
    let first : x ∷ filter p (firsts_of (xs ++ y ∷ [])) ≡ x ∷ filter p (added there ks y) = ap (λ l. x ∷ filter p l) (firsts_of-push xs y) in
    elim (cases_eq y x) [
      | inl same ↦
          first ∙ ap (λ l. x ∷ l) (filter-added_same p there ks y (others-same x y same))
          ∙ sym (ap (λ b. added (b || stands_in (filter p ks) y) (x ∷ filter p ks) y) (eq-eqb x y (sym same)))
      | inr apart ↦
          first ∙ ap (λ l. x ∷ l) (filter-added_other p there ks y (others-other x y apart)) ∙ cons-added there x y (filter p ks)
          ∙ sym (ap (λ b. added (b || stands_in (filter p ks) y) (x ∷ filter p ks) y) (ne_eqb x y (λ e. apart (sym e))) ∙ ap (λ b. added b (x ∷ filter p ks) y) (list_any-filter x y ks apart))
    ]

added-more : (there : Bool) (ks : List ℕ) (y : ℕ) → (more : List ℕ) × (added there ks y ≡ ks ++ more)
added-more true ks y = ([], sym (append-nil ks))
added-more false ks y = (y ∷ [], refl)

-- the sites so far stay the first ones
pub firsts_of-append : (xs ys : List ℕ) → (more : List ℕ) × (firsts_of (xs ++ ys) ≡ firsts_of xs ++ more)
firsts_of-append xs [] = ([], ap firsts_of (append-nil xs) ∙ sym (append-nil (firsts_of xs)))
firsts_of-append xs (y ∷ ys) =
    let next = firsts_of-append (xs ++ y ∷ []) ys in
    let here = added-more (stands_in (firsts_of xs) y) (firsts_of xs) y in
    let whole : xs ++ y ∷ ys ≡ (xs ++ y ∷ []) ++ ys = sym (append_assoc xs (y ∷ []) ys) in
    (here.0 ++ next.0, ap firsts_of whole ∙ next.1 ∙ ap (λ l. l ++ next.0) (firsts_of-push xs y ∙ here.1) ∙ append_assoc (firsts_of xs) here.0 next.0)

pub not_full : (n : ℕ) → n ≤ most_sites → (n ≡ most_sites → ⊥) → n < most_sites
not_full n fits room = elim (cases_lt n most_sites) [ inl few ↦ few | inr rest ↦ absurd (room (omega arith)) ]

-- where fewer are taken than the line has, they are all
first_of-whole : (seen : List ℕ) → length (first_of seen) < most_sites → first_of seen ≡ firsts_of seen
first_of-whole seen few =
    elim (cases_lt (length (firsts_of seen)) most_sites) [
      | inl short ↦ take_all most_sites (firsts_of seen) (omega arith)
      | inr long ↦ absurd (omega (arith, few, length-take-le most_sites (firsts_of seen) long))
    ]

-- once there are as many as the line has, no later site counts
pub first_of-full : (seen more ks : List ℕ) → ks ≡ first_of seen → length ks ≡ most_sites → ks ≡ first_of (seen ++ more)
first_of-full seen more ks is full =
    let grown = firsts_of-append seen more in
    let known : length (first_of seen) ≡ most_sites = ap length (sym is) ∙ full in
    elim (cases_lt (length (firsts_of seen)) most_sites) [
      | inl short ↦ absurd (omega (arith, short, known, ap length (take_all most_sites (firsts_of seen) (omega arith))))
      | inr long ↦ is ∙ sym (ap (take most_sites) grown.1 ∙ take-append-le most_sites (firsts_of seen) grown.0 long)
    ]

-- one more site, where there is room
first_of-next : (seen ks : List ℕ) (site : ℕ) (there : Bool) → ks ≡ first_of seen → length ks < most_sites → stands_in ks site ≡ there → first_of (seen ++ site ∷ []) ≡ take most_sites (added there ks site)
first_of-next seen ks site there is few found =
    let whole : ks ≡ firsts_of seen = is ∙ first_of-whole seen (omega (arith, few, ap length is)) in
    ap (take most_sites) (firsts_of-push seen site ∙ ap (λ l. added (stands_in l site) l site) (sym whole) ∙ ap (λ b. added b ks site) found)

pub first_of-known : (seen ks : List ℕ) (site : ℕ) → ks ≡ first_of seen → length ks < most_sites → stands_in ks site ≡ true → ks ≡ first_of (seen ++ site ∷ [])
first_of-known seen ks site is few known = sym (first_of-next seen ks site true is few known ∙ take_all most_sites ks (omega arith))

pub first_of-new : (seen ks : List ℕ) (site : ℕ) → ks ≡ first_of seen → length ks < most_sites → stands_in ks site ≡ false → ks ++ site ∷ [] ≡ first_of (seen ++ site ∷ [])
first_of-new seen ks site is few new = sym (first_of-next seen ks site false is few new ∙ take_all most_sites (ks ++ site ∷ []) (omega (arith, few, length_push ks site)))

-- the sites of observations and of more of them
pub sites_seen-append : (seen more : List Observation) → sites_seen (seen ++ more) ≡ sites_seen seen ++ sites_seen more
sites_seen-append seen more = map-append (λ (o : Observation). o.site) seen more
