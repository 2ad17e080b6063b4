-- What a load finds in an object that was just put, or whose cells were all set, and what is found at other numbers.
use Rattle.std.proofs.Common.{◌≡◌, ℕ, zero, suc, ◌<◌, ◌==◌, cond, List, [], ◌∷◌, length, Option, Some, None, Result}
use Rattle.std.proofs.Common.{refl, ap, ◌∙◌, option_map, slice_get, slice_set, arith, rules}
use Rattle.std.specs.Cmp.{nat_cmp_total}
use Rattle.std.specs.FinMap.{get, gets, insert, remove, get-insert, get-remove}
use Rattle.base_lists.proofs.Numbers.{key_apart, key_itself}
use Rattle.cbi_base.specs.declared.scalar.Scalar.{Scalar}
use Rattle.cbi_base.specs.declared.scalar.Scalar.TheVariants.{Place}
use Rattle.cbi_base.specs.declared.scalar.Want.{Want}
use Rattle.cbi_base.specs.declared.trap.Trap.{Trap}
use Rattle.cbi_base.specs.Objects.{Object, Objects, found_cell, live_or, loaded_value, with_object, ◌>>=◌}

-- a load from what is found at an object's number
abbrev pub load_in : Want → ℕ → Option Object → Result Scalar Trap
load_in wanted place o = live_or o >>= λ object. found_cell wanted (slice_get object.cells place)

pub load_found : (wanted : Want) (number place : ℕ) (o : Objects) → loaded_value wanted (Place number place) o ≡ load_in wanted place (get o.live number)
unfolding loaded_value
load_found wanted number place o = refl

pub put_found : (o : Objects) (number : ℕ) (object : Object) → get (with_object o number object).live number ≡ Some object
put_found o number object = search (rules, gets)

-- the cell of an object whose cells were all set
pub cell_within : (z : Scalar) (cells : List Scalar) (place : ℕ) → place < length cells → option_map (λ _. z) (slice_get cells place) ≡ Some z
cell_within z [] place h = absurd (omega (arith, h))
cell_within z (x ∷ xs) zero h = refl
cell_within z (x ∷ xs) (suc place) h = cell_within z xs place (omega (arith, h))

pub set_elsewhere : (cells : List Scalar) (i j : ℕ) (v : Scalar) → (i ≡ j → ⊥) → slice_get (slice_set cells i v) j ≡ slice_get cells j
set_elsewhere (x ∷ xs) zero zero v other = absurd (other refl)
set_elsewhere (x ∷ xs) (suc i) (suc j) v other = set_elsewhere xs i j v (λ same. other (ap suc same))
set_elsewhere [] i j v other = refl
set_elsewhere (x ∷ xs) zero (suc j) v other = refl
set_elsewhere (x ∷ xs) (suc i) zero v other = refl

pub put_other : (o : Objects) (n m : ℕ) (object : Object) → (m ≡ n → ⊥) → get (insert o.live n object) m ≡ get o.live m
put_other o n m object differ = get-insert nat_cmp_total o.live n object m ∙ ap (λ b. cond b (Some object) (get o.live m)) (key_apart m n differ)

pub removed_other : (o : Objects) (n m : ℕ) → (m ≡ n → ⊥) → get (remove o.live n) m ≡ get o.live m
removed_other o n m differ = get-remove nat_cmp_total o.live n m ∙ ap (λ b. cond b None (get o.live m)) (key_apart m n differ)

pub removed_here : (o : Objects) (n : ℕ) → get (remove o.live n) n ≡ None
removed_here o n = get-remove nat_cmp_total o.live n n ∙ ap (λ b. cond b None (get o.live n)) (key_itself n)
