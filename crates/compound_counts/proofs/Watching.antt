-- The predicates of a site, and the places of those that are watched.
use Rattle.std.proofs.Common.{◌≡◌, ℕ, ◌+◌, ◌<◌, ◌≤◌, inl, inr, Bool, true, false, ◌||◌, List, [], ◌∷◌, ◌++◌, length, get_or, set, refl, sym, ap, subst, ◌∙◌, arith}
use Rattle.std.specs.Prelude.{◌==◌, All, replicate}
use Rattle.std.specs.List.{list_any}
use Rattle.std.proofs.lemmas.Bool.{cases_eq, cases_lt, eq-eqb, false_from_ne_true, ne_eqb, or_from, or_right}
use Rattle.std.proofs.lemmas.List.{get_or-replicate, get_or-set_other, get_or-set_same, length-replicate, length-set}
use Rattle.std.proofs.lemmas.List.Elements.{All-head, All-nil, All-push, All-tail, All-weaker}
use Rattle.std.proofs.lemmas.List.Folds.{list_any-append}
use Rattle.elimination_tallies.proofs.PredicateLemmas.{of-once}
use Rattle.base_lists.proofs.Tests.{or_false}
use Rattle.elimination_tallies.specs.Predicates.{is_of}
use Rattle.compound_counts.specs.Rows.{AreWatched}

-- ---- a predicate is one site's

other-site : (branches : List Bool) (i j p : ℕ) → is_of branches i p ≡ true → (j ≡ i → ⊥) → is_of branches j p ≡ false
other-site branches i j p own other = false_from_ne_true (is_of branches j p) (λ too. other (of-once branches j i p too own))

-- ---- lists of places

absent : (m : ℕ) (places : List ℕ) → All (λ w. w < m) places → list_any (λ w. w == m) places ≡ false
absent m [] below = refl
absent m (w ∷ more) below =
    or_from (w == m) (list_any (λ x. x == m) more) (ne_eqb w m (λ e. absurd (omega (arith, e, All-head (λ x. x < m) w more below)))) (absent m more (All-tail (λ x. x < m) w more below))

pushed : (c m : ℕ) (places : List ℕ) → list_any (λ w. w == c) (places ++ m ∷ []) ≡ list_any (λ w. w == c) places || (m == c)
pushed c m places = list_any-append (λ w. w == c) places (m ∷ []) ∙ ap (λ b. list_any (λ w. w == c) places || b) (or_false (m == c))

pushed-other : (c m : ℕ) (places : List ℕ) → c < m → list_any (λ w. w == c) (places ++ m ∷ []) ≡ list_any (λ w. w == c) places
pushed-other c m places less = pushed c m places ∙ ap (λ b. list_any (λ w. w == c) places || b) (ne_eqb m c (λ e. absurd (omega (arith, e)))) ∙ or_false (list_any (λ w. w == c) places)

pushed-this : (m : ℕ) (places : List ℕ) → list_any (λ w. w == m) (places ++ m ∷ []) ≡ true
pushed-this m places = pushed m m places ∙ or_right (list_any (λ w. w == m) places) (m == m) (eq-eqb m m refl)

pub watched-none : (branches : List Bool) (predicates : List ℕ) (sites : ℕ) (watched : List (List ℕ)) → sites ≡ length branches → watched ≡ replicate sites [] → AreWatched branches predicates 0 watched
watched-none branches predicates sites watched as_many is = record {
  as_many = ap length is ∙ length-replicate sites [] ∙ as_many;
  own = λ site c inside less. absurd (omega (arith, less));
  places = λ site inside.
      let none : get_or watched site [] ≡ [] = ap (λ (xs : List (List ℕ)). get_or xs site []) is ∙ get_or-replicate sites site [] [] (omega (arith, inside, as_many)) in
      subst (All (λ w. w < 0)) (sym none) (All-nil (λ w. w < 0));
}

pub watched-more : (branches : List Bool) (predicates : List ℕ) (m at : ℕ) (old new : List (List ℕ)) → at < length branches → is_of branches at (get_or predicates m 0) ≡ true
    → new ≡ set old at (get_or old at [] ++ m ∷ []) → AreWatched branches predicates m old → AreWatched branches predicates (m + 1) new
watched-more branches predicates m at old new inside its made so_far =
    let here : get_or new at [] ≡ get_or old at [] ++ m ∷ [] = ap (λ (xs : List (List ℕ)). get_or xs at []) made ∙ get_or-set_same old at (get_or old at [] ++ m ∷ []) [] (omega (arith, inside, so_far.as_many)) in
    let there : (site : ℕ) → (site ≡ at → ⊥) → get_or new site [] ≡ get_or old site [] =
    λ site other. ap (λ (xs : List (List ℕ)). get_or xs site []) made ∙ get_or-set_other old at site (get_or old at [] ++ m ∷ []) [] other in record {
      as_many = ap length made ∙ length-set old at (get_or old at [] ++ m ∷ []) ∙ so_far.as_many;
      own = λ site c within less. elim (cases_eq site at) [
        | inl same ↦
            let is : get_or new site [] ≡ get_or old at [] ++ m ∷ [] = ap (λ k. get_or new k []) same ∙ here in
            let told : list_any (λ w. w == c) (get_or old at [] ++ m ∷ []) ≡ is_of branches at (get_or predicates c 0) = elim (cases_lt c m) [
              | inl before ↦ pushed-other c m (get_or old at []) before ∙ so_far.own at c inside before
              | inr last ↦
                  let this : c ≡ m = omega (arith, last, less) in
                  ap (λ k. list_any (λ w. w == k) (get_or old at [] ++ m ∷ [])) this ∙ pushed-this m (get_or old at []) ∙ sym its ∙ ap (λ k. is_of branches at (get_or predicates k 0)) (sym this)
            ] in
            ap (list_any (λ w. w == c)) is ∙ told ∙ ap (λ k. is_of branches k (get_or predicates c 0)) (sym same)
        | inr other ↦
            let told : list_any (λ w. w == c) (get_or old site []) ≡ is_of branches site (get_or predicates c 0) = elim (cases_lt c m) [
              | inl before ↦ so_far.own site c within before
              | inr last ↦
                  let this : c ≡ m = omega (arith, last, less) in
                  ap (λ k. list_any (λ w. w == k) (get_or old site [])) this ∙ absent m (get_or old site []) (so_far.places site within)
                  ∙ sym (other-site branches at site (get_or predicates m 0) its other) ∙ ap (λ k. is_of branches site (get_or predicates k 0)) (sym this)
            ] in
            ap (list_any (λ w. w == c)) (there site other) ∙ told
      ];
      places = λ site within. elim (cases_eq site at) [
        | inl same ↦ subst (All (λ w. w < m + 1)) (sym (ap (λ k. get_or new k []) same ∙ here))
            (All-push (λ w. w < m + 1) (get_or old at []) m (All-weaker (λ w. w < m) (λ w. w < m + 1) (λ w h. omega (arith, h)) (get_or old at []) (so_far.places at inside)) (omega arith))
        | inr other ↦ subst (All (λ w. w < m + 1)) (sym (there site other)) (All-weaker (λ w. w < m) (λ w. w < m + 1) (λ w h. omega (arith, h)) (get_or old site []) (so_far.places site within))
      ];
    }
