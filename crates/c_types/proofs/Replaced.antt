-- A list with another item at a place, if it has the place; and notes by token.
use Rattle.std.proofs.Common.{◌≡◌, ℕ, ◌<◌, Bool, true, false, List, length, Option, Some, None, nat_lt, slice_get, slice_set, unwrap_or, if◌then◌else◌, refl, ap}
use Rattle.base_lists.proofs.Lists.{set_here, set_other}
use Rattle.base_lists.proofs.Numbers.{less_is}
use Rattle.c_types.specs.Answers.{note_at}
use Rattle.c_types_expressions.specs.Walked.{item_replaced}

if_other : {A : Type 0} (b : Bool) (xs ys : List A) (j : ℕ) → slice_get xs j ≡ slice_get ys j → slice_get (if b then xs else ys) j ≡ slice_get ys j
if_other true xs ys j h = h
if_other false xs ys j h = refl

-- the items at other places stay
pub replaced_other : {A : Type 0} (xs : List A) (i j : ℕ) (x : A) → (i ≡ j → ⊥) → slice_get (item_replaced xs i x) j ≡ slice_get xs j
replaced_other xs i j x h = if_other (nat_lt i (length xs)) (slice_set xs i x) xs j (set_other xs i j x h)

-- the item at the place is the new one
pub replaced_same : {A : Type 0} (xs : List A) (i : ℕ) (x : A) → i < length xs → slice_get (item_replaced xs i x) i ≡ Some x
replaced_same xs i x h = rw (less_is i (length xs) h) (set_here xs i x h)

-- what is noted at other tokens stays
pub noted_other : {A : Type 0} (notes : List (Option A)) (i j : ℕ) (x : Option A) → (i ≡ j → ⊥) → note_at (item_replaced notes i x) j ≡ note_at notes j
noted_other notes i j x h = ap (λ o. unwrap_or o None) (replaced_other notes i j x h)

-- what is noted at the token
pub noted_same : {A : Type 0} (notes : List (Option A)) (i : ℕ) (x : A) → i < length notes → note_at (item_replaced notes i (Some x)) i ≡ Some x
noted_same notes i x h = ap (λ o. unwrap_or o None) (replaced_same notes i (Some x) h)
