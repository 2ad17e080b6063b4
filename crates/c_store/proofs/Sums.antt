-- The cells of all objects together, as objects come and go.
use Rattle.std.proofs.Common.{◌≡◌, ℕ, ◌+◌, ◌==◌, Bool, true, false, cond, [], ◌∷◌, Option, Some, None, refl, ap, sym, ◌∙◌, arith}
use Rattle.std.specs.List.{sum_by}
use Rattle.std.specs.Ordering.{nat_cmp, eq_by_cmp}
use Rattle.std.specs.Cmp.{nat_cmp_total, unsigned_tied}
use Rattle.std.specs.FinMap.{FinMap, get, insert, remove, values, get-insert, get-remove, same_map}
use Rattle.std.specs.FinMap.{nat_cmp-IsAntisymmetric}
use Rattle.std.proofs.lemmas.Bool.Decides.{nat_tests}
use Rattle.base_lists.proofs.Numbers.{key_itself, same_number}
use Rattle.base_lists.proofs.Maps.{sum_insert}

pub gone : {X : Type 0} (m : FinMap nat_cmp X) (k : ℕ) → get (remove m k) k ≡ None
gone m k = get-remove nat_cmp_total m k k ∙ ap (λ b. cond b None (get m k)) (key_itself k)

again : {X : Type 0} (b : Bool) (v : X) (o : Option X) → cond b (Some v) (cond b None o) ≡ cond b (Some v) o
again true v o = refl
again false v o = refl

-- what is put at a number is what is put where the number was taken out
put_back : {X : Type 0} (m : FinMap nat_cmp X) (k : ℕ) (v : X) → insert (remove m k) k v ≡ insert m k v
put_back m k v = same_map nat_cmp_total nat_cmp-IsAntisymmetric _ _ (λ q.
    get-insert nat_cmp_total (remove m k) k v q
    ∙ ap (cond (eq_by_cmp nat_cmp q k) (Some v)) (get-remove nat_cmp_total m k q)
    ∙ again (eq_by_cmp nat_cmp q k) v (get m q)
    ∙ sym (get-insert nat_cmp_total m k v q))

kept : {X : Type 0} (m : FinMap nat_cmp X) (k : ℕ) (v : X) (q : ℕ) (b : Bool) → (q == k) ≡ b → get m k ≡ Some v → cond b (Some v) (get m q) ≡ get m q
kept m k v q true is at = sym at ∙ ap (get m) (grind (arith, nat_tests, is))
kept m k v q false is at = refl

pub same_put : {X : Type 0} (m : FinMap nat_cmp X) (k : ℕ) (v : X) → get m k ≡ Some v → insert m k v ≡ m
same_put m k v at = same_map nat_cmp_total nat_cmp-IsAntisymmetric _ _ (λ q.
    get-insert nat_cmp_total m k v q
    ∙ ap (λ b. cond b (Some v) (get m q)) (unsigned_tied q k)
    ∙ kept m k v q (q == k) refl at)

pub sum-remove : {X : Type 0} (f : X → ℕ) (m : FinMap nat_cmp X) (k : ℕ) (v : X) → get m k ≡ Some v →
    sum_by f (values (remove m k)) + f v ≡ sum_by f (values m)
sum-remove f m k v at =
    sym (sum_insert f (remove m k) k v (gone m k))
    ∙ ap (λ n. sum_by f (values n)) (put_back m k v ∙ same_put m k v at)

pub sum-replace : {X : Type 0} (f : X → ℕ) (m : FinMap nat_cmp X) (k : ℕ) (v w : X) → get m k ≡ Some v → f w ≡ f v →
    sum_by f (values (insert m k w)) ≡ sum_by f (values m)
sum-replace f m k v w at same =
    ap (λ n. sum_by f (values n)) (sym (put_back m k w))
    ∙ sum_insert f (remove m k) k w (gone m k)
    ∙ ap (λ n. sum_by f (values (remove m k)) + n) same
    ∙ sum-remove f m k v at

alike : {X : Type 0} (b : Bool) (o : Option X) → (b ≡ true → o ≡ None) → cond b None o ≡ o
alike true o none = sym (none refl)
alike false o none = refl

-- nothing is taken from a number that has nothing
pub remove_none : {X : Type 0} (m : FinMap nat_cmp X) (k : ℕ) → get m k ≡ None → remove m k ≡ m
remove_none m k none = same_map nat_cmp_total nat_cmp-IsAntisymmetric _ _ (λ q.
    get-remove nat_cmp_total m k q
    ∙ alike (eq_by_cmp nat_cmp q k) (get m q) (λ is. ap (get m) (same_number q k (sym (unsigned_tied q k) ∙ is)) ∙ none))

hidden_twice : {X : Type 0} (b : Bool) (v : X) (o : Option X) → (b ≡ true → o ≡ None) → cond b None (cond b (Some v) o) ≡ o
hidden_twice true v o none = sym (none refl)
hidden_twice false v o none = refl

-- what is put at a number that had nothing, and taken out again
pub remove-insert : {X : Type 0} (m : FinMap nat_cmp X) (k : ℕ) (v : X) → get m k ≡ None → remove (insert m k v) k ≡ m
remove-insert m k v none = same_map nat_cmp_total nat_cmp-IsAntisymmetric _ _ (λ q.
    get-remove nat_cmp_total (insert m k v) k q
    ∙ ap (cond (eq_by_cmp nat_cmp q k) None) (get-insert nat_cmp_total m k v q)
    ∙ hidden_twice (eq_by_cmp nat_cmp q k) v (get m q) (λ is. ap (get m) (same_number q k (sym (unsigned_tied q k) ∙ is)) ∙ none))

both_ways : {X : Type 0} (b c : Bool) (o : Option X) → cond b None (cond c None o) ≡ cond c None (cond b None o)
both_ways true true o = refl
both_ways true false o = refl
both_ways false c o = refl

pub remove-remove : {X : Type 0} (m : FinMap nat_cmp X) (j k : ℕ) → remove (remove m j) k ≡ remove (remove m k) j
remove-remove m j k = same_map nat_cmp_total nat_cmp-IsAntisymmetric _ _ (λ q.
    get-remove nat_cmp_total (remove m j) k q
    ∙ ap (cond (eq_by_cmp nat_cmp q k) None) (get-remove nat_cmp_total m j q)
    ∙ both_ways (eq_by_cmp nat_cmp q k) (eq_by_cmp nat_cmp q j) (get m q)
    ∙ ap (cond (eq_by_cmp nat_cmp q j) None) (sym (get-remove nat_cmp_total m k q))
    ∙ sym (get-remove nat_cmp_total (remove m k) j q))
