-- The type of a declarator is the one that its bounds give.
use Rattle.std.proofs.Common.{◌≡◌, ℕ, ◌≤◌, refl, ap, sym, ◌∙◌, arith, List, [], ◌∷◌, Some, None, Bool, true, false}
use Rattle.std.proofs.lemmas.Bool.{and_from, and_parts}
use Rattle.std.proofs.lemmas.Bool.Decides.{nat_tests}
use Rattle.std.proofs.lemmas.Int.{ints}
use Rattle.std.specs.Prelude.{Option, ℤ, pos, negsuc, int_le, unsigned_abs, ◌&&◌, if◌then◌else◌}
use Rattle.std.proofs.lemmas.Option.{same_Some}
use Rattle.c_syntax.specs.declared.parts.Bound.{Bound}
use Rattle.c_syntax.specs.declared.parts.Constant.{Constant}
use Rattle.c_syntax.specs.declared.parts.Declarator.{Declarator}
use Rattle.c_types_rules.specs.Words.{TypeTree, Array, most_cells}
use Rattle.c_types_expressions.specs.ExprWalk.{with_stars}
use Rattle.c_types_walk.specs.Declarators.{array_of, bounded_array, bounded_by, declared_type, first_bounded, is_bound, with_bounds}
use Rattle.c_types_faults.specs.Declarators.{DeclaresAs, HasBounds, HasFirstBounds, IsArray, IsFirstArray, IsLength}
use Rattle.c_types_faults.proofs.Fitting.{if_true}
use Rattle.base_lists.proofs.Options.{none_is_some}

abbrev InRange : ℤ → ℕ → Type 0
InRange v n = (v ≡ pos n) × (1 ≤ n) × (n ≤ most_cells)

range_is : (v : ℤ) → int_le (pos 1) v ≡ true → int_le v (pos most_cells) ≡ true → InRange v (unsigned_abs v)
range_is (pos n) p q = (refl, grind (arith, ints, nat_tests, p), grind (arith, ints, nat_tests, q))
range_is (negsuc n) p q = absurd (grind (arith, ints, nat_tests, p))

length_is : (c : Constant) → is_bound c ≡ true → IsLength c (unsigned_abs c.value)
length_is c h = let k = and_parts (int_le (pos 1) c.value) (int_le c.value (pos most_cells)) h in range_is c.value k.0 k.1

range_back : (n : ℕ) → 1 ≤ n → n ≤ most_cells → (int_le (pos 1) (pos n) && int_le (pos n) (pos most_cells)) ≡ true
range_back n p q = and_from (int_le (pos 1) (pos n)) (int_le (pos n) (pos most_cells)) (grind (arith, ints, nat_tests, p)) (grind (arith, ints, nat_tests, q))

array_is : (b : Bool) (c : Constant) (v t : TypeTree) → is_bound c ≡ b → (if b then Some (Array v (unsigned_abs c.value)) else None) ≡ Some t
    → IsArray (Some c) v t
array_is true c v t e h = (unsigned_abs c.value, (length_is c e, sym (same_Some (Array v (unsigned_abs c.value)) t h)))
array_is false c v t e h = absurd (cc)

array_back : (c : Constant) (v t : TypeTree) → IsArray (Some c) v t → array_of c v ≡ Some t
array_back c v t (n, h) =
    if_true (is_bound c) (Some (Array v (unsigned_abs c.value))) None
    (ap (λ z. int_le (pos 1) z && int_le z (pos most_cells)) h.0.0 ∙ range_back n h.0.1 h.0.2)
    ∙ ap (λ z. Some (Array v (unsigned_abs z))) h.0.0 ∙ ap Some (sym h.1)

bound_is : (o : Option Constant) (inner : Option TypeTree) (of t : TypeTree) (P : TypeTree → Type 0) → ((v : TypeTree) → inner ≡ Some v → P v)
    → bounded_by o inner ≡ Some t → (v : TypeTree) × (P v × IsArray o v t)
bound_is None inner of t P f h = absurd (cc)
bound_is (Some c) None of t P f h = absurd (cc)
bound_is (Some c) (Some v) of t P f h = (v, (f v refl, array_is (is_bound c) c v t refl h))

bounded_is : (bs : List Bound) (of t : TypeTree) → bounded_array bs of ≡ Some t → HasBounds bs of t
bounded_is [] of t h = sym (same_Some of t h)
bounded_is (b ∷ bs) of t h = bound_is b.length (bounded_array bs of) of t (HasBounds bs of) (λ v k. bounded_is bs of v k) h

bound_back : (o : Option Constant) (inner t : TypeTree) → IsArray o inner t → bounded_by o (Some inner) ≡ Some t
bound_back None inner t h = absurd h
bound_back (Some c) inner t h = array_back c inner t h

bounded_back : (bs : List Bound) (of t : TypeTree) → HasBounds bs of t → bounded_array bs of ≡ Some t
bounded_back [] of t h = ap Some (sym h)
bounded_back (b ∷ bs) of t (inner, h) = ap (bounded_by b.length) (bounded_back bs of inner h.0) ∙ bound_back b.length inner t h.1

first_is : (o : Option Constant) (inner : Option TypeTree) (t : TypeTree) (P : TypeTree → Type 0) → ((v : TypeTree) → inner ≡ Some v → P v)
    → first_bounded o inner ≡ Some t → (v : TypeTree) × (P v × IsFirstArray o v t)
first_is None None t P f h = absurd (cc)
first_is None (Some v) t P f h = (v, (f v refl, sym (same_Some (Array v 0) t h)))
first_is (Some c) None t P f h = absurd (cc)
first_is (Some c) (Some v) t P f h = (v, (f v refl, array_is (is_bound c) c v t refl h))

first_back : (o : Option Constant) (inner t : TypeTree) → IsFirstArray o inner t → first_bounded o (Some inner) ≡ Some t
first_back None inner t h = ap Some (sym h)
first_back (Some c) inner t h = array_back c inner t h

firsts_is : (bs : List Bound) (of t : TypeTree) → with_bounds bs of ≡ Some t → HasFirstBounds bs of t
firsts_is [] of t h = sym (same_Some of t h)
firsts_is (b ∷ bs) of t h = first_is b.length (bounded_array bs of) t (HasBounds bs of) (λ v k. bounded_is bs of v k) h

firsts_back : (bs : List Bound) (of t : TypeTree) → HasFirstBounds bs of t → with_bounds bs of ≡ Some t
firsts_back [] of t h = ap Some (sym h)
firsts_back (b ∷ bs) of t (inner, h) = ap (first_bounded b.length) (bounded_back bs of inner h.0) ∙ first_back b.length inner t h.1

pub declared_is : (d : Declarator) (of t : TypeTree) → declared_type d of ≡ Some t → DeclaresAs d of t
declared_is d of t h = firsts_is d.bounds (with_stars d.stars of) t h

pub declared_back : (d : Declarator) (of t : TypeTree) → DeclaresAs d of t → declared_type d of ≡ Some t
declared_back d of t h = firsts_back d.bounds (with_stars d.stars of) t h

pub no_type : (d : Declarator) (of : TypeTree) → declared_type d of ≡ None → (t : TypeTree) → DeclaresAs d of t → ⊥
no_type d of h t k = none_is_some (declared_type d of) t h (declared_back d of t k)
