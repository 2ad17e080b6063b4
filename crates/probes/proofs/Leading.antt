-- The site that was observed most often.
use Rattle.std.proofs.Common.{◌≡◌, ℕ, ◌<◌, ◌≤◌, ◌⊎◌, inl, inr, Bool, true, false, ◌&&◌, ◌||◌, ◌==◌, nat_lt, cond, List, [], ◌∷◌, map, fold, Some, None, refl, sym, ap, subst, ◌∙◌, arith}
use Rattle.std.proofs.lemmas.Bool.{cases_lt, ltb-true, ltb-false, leb-true, eqb-true, eq-eqb, lt-ltb, le-leb, and_parts, and_from, or_cases, or_parts, or_left, or_right}
use Rattle.probes.specs.Hottest.{times_of, is_site_ahead_of, hottest_of, best_of, hotter_site, IsHottest}
use Rattle.std.specs.List.{list_all}
use Rattle.std.specs.Option.{option_map}
use Rattle.probes.proofs.Members.{IsIn, IsIn-from_Contains, Contains-from_IsIn, IsIn-map, IsIn-from_map, list_all-each, list_all-from_each, find-is, find-some, count_by-positive, IsIn-from_count_by}

-- of two sites with their counts, the first was observed more often, or as often and isn't the greater
abbrev pub Beats : ℕ × ℕ → ℕ × ℕ → Type 0
Beats a b = (b.1 < a.1) ⊎ ((b.1 ≡ a.1) × (a.0 ≤ b.0))

beats-itself : (a : ℕ × ℕ) → Beats a a
beats-itself a = inr (refl, omega arith)

pub beats-then : (a b c : ℕ × ℕ) → Beats a b → Beats b c → Beats a c
beats-then a b c (inl x) (inl y) = inl (omega arith)
beats-then a b c (inl x) (inr y) = inl (omega (arith, y.0))
beats-then a b c (inr x) (inl y) = inl (omega (arith, x.0))
beats-then a b c (inr x) (inr y) = inr (y.0 ∙ x.0, omega (arith, x.1, y.1))

-- the test of the better one
abbrev stays : ℕ × ℕ → ℕ × ℕ → Bool
stays best next = nat_lt next.1 best.1 || (best.1 == next.1 && nat_lt best.0 next.0)

and-false : (a b : Bool) → a ≡ true → (a && b) ≡ false → b ≡ false
and-false true b h n = n
and-false false b h n = cc

beats-where_stays : (a b : ℕ × ℕ) → stays a b ≡ true → Beats a b
beats-where_stays a b h =
    elim (or_cases (nat_lt b.1 a.1) (a.1 == b.1 && nat_lt a.0 b.0) h) [
      | inl more ↦ inl (ltb-true b.1 a.1 more)
      | inr less ↦
          let same = eqb-true a.1 b.1 (and_parts (a.1 == b.1) (nat_lt a.0 b.0) less).0 in
          let below = ltb-true a.0 b.0 (and_parts (a.1 == b.1) (nat_lt a.0 b.0) less).1 in
          inr (sym same, omega arith)
    ]

beats-where_gives : (a b : ℕ × ℕ) → stays a b ≡ false → Beats b a
beats-where_gives a b h =
    let both = or_parts (nat_lt b.1 a.1) (a.1 == b.1 && nat_lt a.0 b.0) h in
    let most = ltb-false b.1 a.1 both.0 in
    elim (cases_lt a.1 b.1) [
      | inl more ↦ inl more
      | inr rest ↦
          let same : a.1 ≡ b.1 = omega arith in
          let below = ltb-false a.0 b.0 (and-false (a.1 == b.1) (nat_lt a.0 b.0) (eq-eqb a.1 b.1 same) both.1) in
          inr (same, below)
    ]

-- which of the two goes on
pub record Winner (a b : ℕ × ℕ) : Type 0 where
  pub who : ℕ × ℕ
  pub goes_on : hotter_site (Some a) b ≡ Some who
  pub one : (a ≡ who) ⊎ (b ≡ who)
  pub first : Beats who a
  pub second : Beats who b

pub winner : (a b : ℕ × ℕ) → Winner a b
winner a b = at (stays a b) refl
  where
    at : (t : Bool) → stays a b ≡ t → Winner a b
    at true is = record {
      who = a;
      goes_on = ap (λ t. cond t (Some a) (Some b)) is;
      one = inl refl;
      first = beats-itself a;
      second = beats-where_stays a b is;
    }
    at false is = record {
      who = b;
      goes_on = ap (λ t. cond t (Some a) (Some b)) is;
      one = inr refl;
      first = beats-where_gives a b is;
      second = beats-itself b;
    }

-- the best of a list is in it, and beats each
pub record IsBest (es : List (ℕ × ℕ)) (best : ℕ × ℕ) : Type 0 where
  pub among : IsIn best es
  pub beats : (e : ℕ × ℕ) → IsIn e es → Beats best e

IsBest-one : (a : ℕ × ℕ) → IsBest (a ∷ []) a
IsBest-one a = record { among = inl refl; beats = beats_one }
  where
    beats_one : (e : ℕ × ℕ) → IsIn e (a ∷ []) → Beats a e
    beats_one e (inl same) = subst (Beats a) same (beats-itself a)
    beats_one e (inr none) = absurd none

-- the best of the winner and the rest is the best of all
IsBest-more : (a b : ℕ × ℕ) (es : List (ℕ × ℕ)) (best : ℕ × ℕ) (w : Winner a b) → IsBest (w.who ∷ es) best → IsBest (a ∷ b ∷ es) best
IsBest-more a b es best w rest = record { among = is_among rest.among; beats = beats_each }
  where
    is_among : IsIn best (w.who ∷ es) → IsIn best (a ∷ b ∷ es)
    is_among (inl same) = elim w.one [ inl first ↦ inl (first ∙ same) | inr second ↦ inr (inl (second ∙ same)) ]
    is_among (inr later) = inr (inr later)

    beats_each : (e : ℕ × ℕ) → IsIn e (a ∷ b ∷ es) → Beats best e
    beats_each e (inl same) = subst (Beats best) same (beats-then best w.who a (rest.beats w.who (inl refl)) w.first)
    beats_each e (inr (inl same)) = subst (Beats best) same (beats-then best w.who b (rest.beats w.who (inl refl)) w.second)
    beats_each e (inr (inr later)) = rest.beats e (inr later)

pub fold-best : (es : List (ℕ × ℕ)) (a : ℕ × ℕ) → (best : ℕ × ℕ) × (fold hotter_site (Some a) es ≡ Some best) × IsBest (a ∷ es) best
fold-best [] a = (a, refl, IsBest-one a)
fold-best (b ∷ es) a =
    let w = winner a b in
    let rest = fold-best es w.who in
    (rest.0, ap (λ o. fold hotter_site o es) w.goes_on ∙ rest.1, IsBest-more a b es rest.0 w rest.2)

-- a site with its count
abbrev pub counted : List ℕ → ℕ → ℕ × ℕ
counted sites site = (site, times_of sites site)

-- a site that beats each observed one was observed most often
pub IsHottest-from_beats : (sites : List ℕ) (site : ℕ) → IsIn site sites → ((other : ℕ) → IsIn other sites → Beats (counted sites site) (counted sites other)) → IsHottest sites site
IsHottest-from_beats sites site among beats = record {
  observed = Contains-from_IsIn sites site among;
  most = λ other. elim (cases_lt 0 (times_of sites other)) [
    | inl some ↦ elim (beats other (IsIn-from_count_by sites other some)) [ inl less ↦ omega arith | inr same ↦ omega (arith, same.0) ]
    | inr none ↦ omega arith
  ];
  smallest = λ other same.
      let some : 0 < times_of sites other = omega (arith, count_by-positive sites site among) in
      elim (beats other (IsIn-from_count_by sites other some)) [ inl less ↦ absurd (omega arith) | inr also ↦ also.1 ];
}

leads-where_hottest : (sites : List ℕ) (site other : ℕ) → IsHottest sites site → is_site_ahead_of sites site other ≡ true
leads-where_hottest sites site other h =
    elim (cases_lt (times_of sites other) (times_of sites site)) [
      | inl less ↦ or_left _ _ (lt-ltb (times_of sites other) (times_of sites site) less)
      | inr rest ↦
          let same : times_of sites other ≡ times_of sites site = omega (arith, h.most other) in
          or_right _ _ (and_from _ _ (eq-eqb (times_of sites other) (times_of sites site) same) (le-leb site other (h.smallest other same)))
    ]

beats-where_leads : (sites : List ℕ) (site other : ℕ) → is_site_ahead_of sites site other ≡ true → Beats (counted sites site) (counted sites other)
beats-where_leads sites site other h =
    elim (or_cases _ _ h) [
      | inl less ↦ inl (ltb-true (times_of sites other) (times_of sites site) less)
      | inr same ↦ inr (eqb-true (times_of sites other) (times_of sites site) (and_parts _ _ same).0, leb-true site other (and_parts _ _ same).1)
    ]

pub IsHottest-once : (sites : List ℕ) (a b : ℕ) → IsHottest sites a → IsHottest sites b → a ≡ b
IsHottest-once sites a b x y =
    let same : times_of sites a ≡ times_of sites b = omega (arith, x.most b, y.most a) in
    omega (arith, x.smallest b (sym same), y.smallest a same)

pub found-is_hottest : (sites : List ℕ) (site : ℕ) → hottest_of sites ≡ Some site → IsHottest sites site
found-is_hottest sites site is =
    let found = find-is (λ s. list_all (is_site_ahead_of sites s) sites) sites site is in
    IsHottest-from_beats sites site found.0 (λ other i. beats-where_leads sites site other (list_all-each (is_site_ahead_of sites site) sites other found.1 i))

pub hottest-is_found : (sites : List ℕ) (site : ℕ) → IsHottest sites site → hottest_of sites ≡ Some site
hottest-is_found sites site h =
    let passes = list_all-from_each (is_site_ahead_of sites site) sites (λ other i. leads-where_hottest sites site other h) in
    let found = find-some (λ s. list_all (is_site_ahead_of sites s) sites) sites site (IsIn-from_Contains sites site h.observed) passes in
    found.1 ∙ ap Some (IsHottest-once sites found.0 site (found-is_hottest sites found.0 found.1) h)

-- where something was observed, a site is the hottest
pub some-is_hottest : (site : ℕ) (more : List ℕ) → (best : ℕ) × IsHottest (site ∷ more) best
some-is_hottest site more =
    let sites = site ∷ more in
    let best = fold-best (map (counted sites) more) (counted sites site) in
    let from = IsIn-from_map (counted sites) sites best.0 best.2.among in
    (from.0, IsHottest-from_beats sites from.0 from.1 (λ other i. subst (λ (b : ℕ × ℕ). Beats b (counted sites other)) (sym from.2) (best.2.beats (counted sites other) (IsIn-map (counted sites) sites other i))))

pub none-is_empty : (sites : List ℕ) → hottest_of sites ≡ None → sites ≡ []
none-is_empty [] is = refl
none-is_empty (site ∷ more) is = let best = some-is_hottest site more in let found = hottest-is_found (site ∷ more) best.0 best.1 in cc

-- a site with its count that beats each observed one is the best
pub best_of-from_beats : (sites : List ℕ) (best : ℕ × ℕ) → times_of sites best.0 ≡ best.1 → 0 < best.1 → ((other : ℕ) → IsIn other sites → Beats best (counted sites other)) → Some best ≡ best_of sites
best_of-from_beats sites best times positive beats =
    let site = best.0 in
    let same : best ≡ counted sites site = ap (λ n. (site, n)) (sym times) in
    let beats_each : (other : ℕ) → IsIn other sites → Beats (counted sites site) (counted sites other) = λ other i. subst (λ (b : ℕ × ℕ). Beats b (counted sites other)) same (beats other i) in
    let observed = IsIn-from_count_by sites site (omega (arith, times, positive)) in
    let hottest = hottest-is_found sites site (IsHottest-from_beats sites site observed beats_each) in
    ap Some same ∙ sym (ap (option_map (counted sites)) hottest)
