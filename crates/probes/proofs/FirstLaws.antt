-- The first sites of a list: those that are in it, once each.
use Rattle.std.proofs.Common.{◌≡◌, ℕ, zero, ◌≤◌, inl, inr, Bool, true, false, ◌==◌, cond, List, [], ◌∷◌, filter, refl, sym, ap, subst, ◌∙◌, arith}
use Rattle.std.specs.Prelude.{Contains, ◌↔◌}
use Rattle.std.proofs.lemmas.Bool.{cases_eq, cases_lt, ne_eqb, false≢true}
use Rattle.probes.specs.FirstSeen.{firsts_of}
use Rattle.probes.specs.Hottest.{times_of}
use Rattle.probes.proofs.Firsts.{others_than, filter-skip, filter-keep, others-same, others-other}
use Rattle.probes.proofs.Members.{IsIn, IsIn-from_Contains, Contains-from_IsIn, IsIn-from_count_by, count_by-cons, once}

-- a filter that lets a site pass
filter-in : (p : ℕ → Bool) (y : ℕ) (ys : List ℕ) (site : ℕ) (b : Bool) → p y ≡ b → p site ≡ true → (IsIn site ys → IsIn site (filter p ys)) → IsIn site (y ∷ ys) → IsIn site (filter p (y ∷ ys))
filter-in p y ys site true here pass later (inl same) = subst (IsIn site) (sym (filter-keep p y ys here)) (inl same)
filter-in p y ys site true here pass later (inr rest) = subst (IsIn site) (sym (filter-keep p y ys here)) (inr (later rest))
filter-in p y ys site false here pass later (inl same) = absurd (false≢true (sym here ∙ ap p same ∙ pass))
filter-in p y ys site false here pass later (inr rest) = subst (IsIn site) (sym (filter-skip p y ys here)) (later rest)

IsIn-filter : (p : ℕ → Bool) (xs : List ℕ) (site : ℕ) → p site ≡ true → IsIn site xs → IsIn site (filter p xs)
IsIn-filter p [] site pass i = i
IsIn-filter p (y ∷ ys) site pass i = filter-in p y ys site (p y) refl pass (IsIn-filter p ys site pass) i

from-filter : (p : ℕ → Bool) (y : ℕ) (ys : List ℕ) (site : ℕ) (b : Bool) → p y ≡ b → (IsIn site (filter p ys) → IsIn site ys × (p site ≡ true)) → IsIn site (filter p (y ∷ ys)) → IsIn site (y ∷ ys) × (p site ≡ true)
from-filter p y ys site true here later i = kept (subst (IsIn site) (filter-keep p y ys here) i)
  where
    kept : IsIn site (y ∷ filter p ys) → IsIn site (y ∷ ys) × (p site ≡ true)
    kept (inl same) = (inl same, ap p (sym same) ∙ here)
    kept (inr rest) = let more = later rest in (inr more.0, more.1)
from-filter p y ys site false here later i = let more = later (subst (IsIn site) (filter-skip p y ys here) i) in (inr more.0, more.1)

IsIn-from_filter : (p : ℕ → Bool) (xs : List ℕ) (site : ℕ) → IsIn site (filter p xs) → IsIn site xs × (p site ≡ true)
IsIn-from_filter p [] site i = absurd i
IsIn-from_filter p (y ∷ ys) site i = from-filter p y ys site (p y) refl (IsIn-from_filter p ys site) i

-- the first sites are those that were observed
first-observed : (sites : List ℕ) (site : ℕ) → IsIn site sites → IsIn site (firsts_of sites)
first-observed [] site i = i
first-observed (x ∷ xs) site (inl same) = inl same
first-observed (x ∷ xs) site (inr rest) =
    elim (cases_eq site x) [
      | inl same ↦ inl (sym same)
      | inr apart ↦ inr (IsIn-filter (others_than x) (firsts_of xs) site (others-other x site apart) (first-observed xs site rest))
    ]

observed-first : (sites : List ℕ) (site : ℕ) → IsIn site (firsts_of sites) → IsIn site sites
observed-first [] site i = i
observed-first (x ∷ xs) site (inl same) = inl same
observed-first (x ∷ xs) site (inr rest) = inr (observed-first xs site (IsIn-from_filter (others_than x) (firsts_of xs) site rest).0)

pub first-is_observed : (sites : List ℕ) (site : ℕ) → Contains sites site ↔ Contains (firsts_of sites) site
first-is_observed sites site = (
  λ c. Contains-from_IsIn (firsts_of sites) site (first-observed sites site (IsIn-from_Contains sites site c)),
  λ c. Contains-from_IsIn sites site (observed-first sites site (IsIn-from_Contains (firsts_of sites) site c)),
)

-- and each stands once
count-filter : (p : ℕ → Bool) (site : ℕ) (xs : List ℕ) → times_of (filter p xs) site ≤ times_of xs site
count-filter p site [] = omega arith
count-filter p site (y ∷ ys) = at (p y) refl (count-filter p site ys)
  where
    at : (b : Bool) → p y ≡ b → times_of (filter p ys) site ≤ times_of ys site → times_of (filter p (y ∷ ys)) site ≤ times_of (y ∷ ys) site
    at true here rest = omega (arith, ap (λ l. times_of l site) (filter-keep p y ys here), count_by-cons site y (filter p ys), count_by-cons site y ys, rest)
    at false here rest = omega (arith, ap (λ l. times_of l site) (filter-skip p y ys here), count_by-cons site y ys, rest)

none-left : (x : ℕ) (ks : List ℕ) → times_of (filter (others_than x) ks) x ≡ 0
none-left x ks =
    elim (cases_lt 0 (times_of (filter (others_than x) ks) x)) [
      | inl some ↦
          let left = IsIn-from_filter (others_than x) ks x (IsIn-from_count_by (filter (others_than x) ks) x some) in
          absurd (false≢true (sym (others-same x x refl) ∙ left.1))
      | inr none ↦ omega arith
    ]

one-or-none : (b : Bool) → cond b 1 zero ≤ 1
one-or-none true = omega arith
one-or-none false = omega arith

pub first-once : (sites : List ℕ) (site : ℕ) → times_of (firsts_of sites) site ≤ 1
first-once [] site = omega arith
first-once (x ∷ xs) site =
    let rest = filter (others_than x) (firsts_of xs) in
    elim (cases_eq x site) [
      | inl same ↦
          let left : times_of rest site ≡ 0 = ap (times_of rest) (sym same) ∙ none-left x (firsts_of xs) in
          omega (arith, count_by-cons site x rest, left, one-or-none (x == site))
      | inr apart ↦
          omega (arith, count_by-cons site x rest, count-filter (others_than x) site (firsts_of xs), first-once xs site, once false (x == site) (ne_eqb x site apart))
    ]
