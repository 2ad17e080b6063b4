-- How often sites were observed, in a list by their numbers and in what was carried from it.
use Rattle.std.proofs.Common.{◌≡◌, ℕ, ◌+◌, ◌^◌, ◌<◌, ◌≤◌, inl, inr, List, [], ◌∷◌, ◌++◌, append_assoc, length, take, drop, get_or, set, Option, Some, None, refl, sym, ap, subst, ◌∙◌, arith}
use Rattle.std.proofs.lemmas.Bool.{cases_lt, cases_eq}
use Rattle.std.proofs.lemmas.List.{append-nil, length-set, take_all, take_more, drop_all, get_or-set_same, get_or-set_other, get_or_past}
use Rattle.cbi_base.specs.declared.observation.Observation.{Observation}
use Rattle.probes.specs.Sites.{sites_seen}
use Rattle.probes.specs.Hottest.{best_of, hotter_site, whole_count, AreCounted}
use Rattle.probes.proofs.Firsts.{sites_seen-append}
use Rattle.probes.proofs.Members.{IsIn, count_by-positive, times_of-same, times_of-other}
use Rattle.probes.proofs.Leading.{Beats, beats-then, winner, best_of-from_beats}

module _ (counts more carried sites : List ℕ) (same : (place : ℕ) → get_or more place 0 ≡ get_or counts place 0) (grown : length counts ≤ length more) (few : length more ≤ 2 ^ 32) (before : AreCounted counts carried sites) where
  -- a list that was lengthened
  pub AreCounted-longer : AreCounted more carried sites
  AreCounted-longer = record {
    times = λ site. omega (arith, same site, before.times site);
    past = λ site out. before.past site (omega (arith, grown, out));
    few = few;
  }

  module _ (here : ℕ) (inside : here < length more) where
    -- one more observation
    pub AreCounted-push : AreCounted (set more here (get_or more here 0 + 1)) carried (sites ++ here ∷ [])
    AreCounted-push = record {
      times = λ site. elim (cases_eq here site) [
        | inl is ↦
            let now : get_or (set more here count) site 0 ≡ count = ap (λ k. get_or (set more here count) k 0) (sym is) ∙ get_or-set_same more here count 0 inside in
            omega (arith, now, same here, ap (λ k. get_or counts k 0) is, before.times site, times_of-same sites here site is)
        | inr apart ↦
            let now : get_or (set more here count) site 0 ≡ get_or more site 0 = get_or-set_other more here site count 0 (λ e. apart (sym e)) in
            omega (arith, now, same site, before.times site, times_of-other sites here site apart)
      ];
      past = λ site out. before.past site (omega (arith, grown, out, length-set more here count));
      few = omega (arith, few, length-set more here count);
    }
      where
        count : ℕ
        count = get_or more here 0 + 1

    -- one more observation of a site whose count is full
    pub AreCounted-carry : get_or more here 0 + 1 ≡ 2 ^ 64 → AreCounted (set more here 0) (carried ++ here ∷ []) (sites ++ here ∷ [])
    AreCounted-carry full = record {
      times = λ site. elim (cases_eq here site) [
        | inl is ↦
            let now : get_or (set more here 0) site 0 ≡ 0 = ap (λ k. get_or (set more here 0) k 0) (sym is) ∙ get_or-set_same more here 0 0 inside in
            omega (arith, now, full, same here, ap (λ k. get_or counts k 0) is, before.times site, times_of-same sites here site is, times_of-same carried here site is)
        | inr apart ↦
            let now : get_or (set more here 0) site 0 ≡ get_or more site 0 = get_or-set_other more here site 0 0 (λ e. apart (sym e)) in
            omega (arith, now, same site, before.times site, times_of-other sites here site apart, times_of-other carried here site apart)
      ];
      past = λ site out.
          let beyond : length more ≤ site = omega (arith, out, length-set more here 0) in
          let apart : here ≡ site → ⊥ = λ is. omega (arith, is, inside, beyond) in
          times_of-other carried here site apart ∙ before.past site (omega (arith, grown, beyond));
      few = omega (arith, few, length-set more here 0);
    }

-- what is written back of a slice of a whole list
pub lent_whole : (items now : List ℕ) (len : ℕ) → length now ≡ length items → len ≡ length items → take len (now ++ drop (length now) items) ≡ now
lent_whole items now len same is = ap (λ l. take len (now ++ l)) (drop_all (length now) items (omega arith)) ∙ ap (take len) (append-nil now) ∙ take_all len now (omega arith)

-- the observation at a place of several
pub AreCounted-at : (counts carried : List ℕ) (seen more : List Observation) (i : ℕ) (d : Observation) → i < length more → (get_or more i d).site < length counts → AreCounted counts carried (sites_seen (seen ++ take i more))
    → AreCounted (set counts (get_or more i d).site (get_or counts (get_or more i d).site 0 + 1)) carried (sites_seen (seen ++ take (i + 1) more))
AreCounted-at counts carried seen more i d within inside before =
    let o = get_or more i d in
    let whole : seen ++ take (i + 1) more ≡ (seen ++ take i more) ++ o ∷ [] = ap (λ l. seen ++ l) (take_more more i d within) ∙ sym (append_assoc seen (take i more) (o ∷ [])) in
    let sites : sites_seen (seen ++ take (i + 1) more) ≡ sites_seen (seen ++ take i more) ++ o.site ∷ [] = ap sites_seen whole ∙ sites_seen-append (seen ++ take i more) (o ∷ []) in
    subst (AreCounted (set counts o.site (get_or counts o.site 0 + 1)) carried) (sym sites)
    (AreCounted-push counts counts carried (sites_seen (seen ++ take i more)) (λ place. refl) (omega arith) before.few before o.site inside)

less_than : (site n : ℕ) → site < n + 1 → (site ≡ n → ⊥) → site < n
less_than site n less apart = elim (cases_lt site n) [ inl below ↦ below | inr rest ↦ absurd (apart (omega arith)) ]

-- a site with its count that beats each of the first so many
pub record IsBestBelow (count : ℕ → ℕ) (n : ℕ) (best : ℕ × ℕ) : Type 0 where
  pub listed : count best.0 ≡ best.1
  pub some : 0 < best.1
  pub beats : (site : ℕ) → site < n → Beats best (site, count site)

-- the best of the first so many, if one of them was observed
abbrev pub LeadsBelow : (ℕ → ℕ) → ℕ → Option (ℕ × ℕ) → Type 0
LeadsBelow count n None = (site : ℕ) → site < n → count site ≡ 0
LeadsBelow count n (Some best) = IsBestBelow count n best

-- one more, which wasn't observed
pub LeadsBelow-skip : (count : ℕ → ℕ) (n : ℕ) (best : Option (ℕ × ℕ)) → count n ≡ 0 → LeadsBelow count n best → LeadsBelow count (n + 1) best
LeadsBelow-skip count n None none below = λ site less. elim (cases_eq site n) [ inl is ↦ ap count is ∙ none | inr apart ↦ below site (less_than site n less apart) ]
LeadsBelow-skip count n (Some best) none below = record {
  listed = below.listed;
  some = below.some;
  beats = λ site less. elim (cases_eq site n) [
    | inl is ↦ inl (omega (arith, ap count is, none, below.some))
    | inr apart ↦ below.beats site (less_than site n less apart)
  ];
}

-- one more, which was observed
pub LeadsBelow-more : (count : ℕ → ℕ) (n : ℕ) (best : Option (ℕ × ℕ)) (total : ℕ) → count n ≡ total → 0 < total → LeadsBelow count n best → LeadsBelow count (n + 1) (hotter_site best (n, total))
LeadsBelow-more count n None total is some below = record {
  listed = is;
  some = some;
  beats = λ site less. elim (cases_eq site n) [
    | inl same ↦ inr (ap count same ∙ is, omega (arith, same))
    | inr apart ↦ inl (omega (arith, below site (less_than site n less apart), some))
  ];
}
LeadsBelow-more count n (Some best) total is some below =
    let w = winner best (n, total) in
    let who : IsBestBelow count (n + 1) w.who = record {
      listed = elim w.one [
        | inl first ↦ ap (λ (b : ℕ × ℕ). count b.0) (sym first) ∙ below.listed ∙ ap (λ (b : ℕ × ℕ). b.1) first
        | inr second ↦ ap (λ (b : ℕ × ℕ). count b.0) (sym second) ∙ is ∙ ap (λ (b : ℕ × ℕ). b.1) second
      ];
      some = elim w.one [
        | inl first ↦ omega (arith, below.some, ap (λ (b : ℕ × ℕ). b.1) first)
        | inr second ↦ omega (arith, some, ap (λ (b : ℕ × ℕ). b.1) second)
      ];
      beats = λ site less. elim (cases_eq site n) [
        | inl same ↦ subst (Beats w.who) (ap (λ k. (k, total)) (sym same) ∙ ap (λ k. (site, k)) (sym (ap count same ∙ is))) w.second
        | inr apart ↦ beats-then w.who best (site, count site) w.first (below.beats site (less_than site n less apart))
      ];
    } in
    subst (LeadsBelow count (n + 1)) (sym w.goes_on) who

-- an observed site has a place
counted-inside : (counts carried sites : List ℕ) (site : ℕ) → AreCounted counts carried sites → IsIn site sites → (site < length counts) × (0 < whole_count counts carried site)
counted-inside counts carried sites site counted i =
    let some : 0 < whole_count counts carried site = omega (arith, counted.times site, count_by-positive sites site i) in
    elim (cases_lt site (length counts)) [
      | inl inside ↦ (inside, some)
      | inr out ↦ absurd (omega (arith, some, get_or_past counts site 0 out, counted.past site out))
    ]

-- the best of all places is the best of what was observed
pub LeadsBelow-all : (counts carried : List ℕ) (n : ℕ) (best : Option (ℕ × ℕ)) (sites : List ℕ) → length counts ≤ n → LeadsBelow (whole_count counts carried) n best → AreCounted counts carried sites → best ≡ best_of sites
LeadsBelow-all counts carried n None [] whole below counted = refl
LeadsBelow-all counts carried n None (site ∷ more) whole below counted =
    let there = counted-inside counts carried (site ∷ more) site counted (inl refl) in
    absurd (omega (arith, there.1, below site (omega (arith, there.0, whole))))
LeadsBelow-all counts carried n (Some best) sites whole below counted =
    best_of-from_beats sites best (sym (counted.times best.0) ∙ below.listed) below.some
    (λ other i. subst (λ k. Beats best (other, k)) (counted.times other) (below.beats other (omega (arith, whole, (counted-inside counts carried sites other counted i).0))))
