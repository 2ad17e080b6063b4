-- Maps: their entries, and sums over their values.
use Rattle.std.proofs.Common.{[], Bool, Equal, Greater, Less, List, None, Some, ap, arith, cond, map, refl, sym, ℕ, ◌+◌, ◌∙◌, ◌∷◌, ◌≡◌}
use Rattle.std.proofs.lemmas.List.Sums.{sum_by-cons}
use Rattle.std.specs.Cmp.{nat_cmp_total}
use Rattle.std.specs.FinMap.{FinMap, entries, entries-insert, get, get-entries, insert, values}
use Rattle.std.specs.FinMap.Entries.{by_order, find, put}
use Rattle.std.specs.List.{sum_by}
use Rattle.std.specs.Map.{AreApart, IsKeyTest, KeepsOthers, lookup}
use Rattle.std.specs.Ordering.{is_eq, nat_cmp}
use Rattle.std.specs.declared.cmp.Ordering.{Ordering}

-- entries of other keys stay
pub other_entries : {K X : Type 0} (eq : K → K → Bool) (test : K → Bool) (old new : List (K × X)) → KeepsOthers eq test old new →
    (other : K → Bool) → IsKeyTest eq other → AreApart test other → lookup other new ≡ lookup other old
unfolding KeepsOthers
other_entries eq test old new h = h

-- a new key adds its value to the sum, in a list of entries
pub sum_put : {X : Type 0} (f : X → ℕ) (k : ℕ) (v : X) (es : List (ℕ × X)) → find nat_cmp k es ≡ None →
    sum_by f (map (λ e. e.1) (put nat_cmp k v es)) ≡ sum_by f (map (λ e. e.1) es) + f v
sum_put f k v [] none = sum_by-cons f v [] ∙ omega arith
sum_put {X = X} f k v (e ∷ es) none =
    elim (nat_cmp k e.0) as (λ (o : Ordering). nat_cmp k e.0 ≡ o → cond (is_eq o) (Some e.1) (find nat_cmp k es) ≡ None →
    sum_by f (map (λ e. e.1) (by_order o ((k, v) ∷ e ∷ es) ((e.0, v) ∷ es) (e ∷ put nat_cmp k v es))) ≡ sum_by f (e.1 ∷ map (λ e. e.1) es) + f v) [
      | Less ↦ λ is n. sum_by-cons f v (e.1 ∷ map (λ e. e.1) es) ∙ omega arith
      | Equal ↦ λ is n. cc
      | Greater ↦ λ is n. let rest = sum_put f k v es n in
          sum_by-cons f e.1 (map (λ e. e.1) (put nat_cmp k v es)) ∙ omega (arith, rest, sum_by-cons f e.1 (map (λ e. e.1) es))
    ] refl none

-- and in a map
pub sum_insert : {X : Type 0} (f : X → ℕ) (m : FinMap nat_cmp X) (k : ℕ) (v : X) → get m k ≡ None →
    sum_by f (values (insert m k v)) ≡ sum_by f (values m) + f v
sum_insert f m k v none =
    ap (λ es. sum_by f (map (λ e. e.1) es)) (entries-insert nat_cmp_total m k v) ∙ sum_put f k v (entries m) (sym (get-entries m k) ∙ none)
