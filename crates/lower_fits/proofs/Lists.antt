-- What holds of all of a list, where the list changes.
use Rattle.std.proofs.Common.{◌≡◌, ℕ, zero, suc, List, [], ◌∷◌, ◌++◌, Some, None, Bool, true, false, length}
use Rattle.std.specs.Prelude.{IfSome, Option, if◌then◌else◌, nat_lt, replicate, slice_set}
use Rattle.std.specs.List.{AllByRecursion}
use Rattle.std.proofs.lemmas.Option.{same_Some}
use Rattle.c_types.specs.Answers.{note_at}
use Rattle.c_types_expressions.specs.Walked.{item_replaced}

module _ {A : Type 0} (P : A → Type 0) where
  -- an item is another one
  all_set : (xs : List A) (i : ℕ) (x : A) → AllByRecursion P xs → P x → AllByRecursion P (slice_set xs i x)
  all_set [] i x h k = tt
  all_set (y ∷ xs) zero x h k = (k, h.1)
  all_set (y ∷ xs) (suc i) x h k = (h.0, all_set xs i x h.1 k)

  -- one of two lists
  all_if : (b : Bool) (xs ys : List A) → AllByRecursion P xs → AllByRecursion P ys → AllByRecursion P (if b then xs else ys)
  all_if true xs ys h k = h
  all_if false xs ys h k = k

  -- an item is another one, where there is that place
  pub all_replaced : (xs : List A) (i : ℕ) (x : A) → AllByRecursion P xs → P x → AllByRecursion P (item_replaced xs i x)
  all_replaced xs i x h k = all_if (nat_lt i (length xs)) (slice_set xs i x) xs (all_set xs i x h k) h

  -- it holds of whatever was noted
  abbrev pub AllNoted : List (Option A) → Type 0
  AllNoted notes = AllByRecursion (λ o. IfSome o P) notes

  -- and so of what was noted at a place
  pub noted_at : (notes : List (Option A)) (i : ℕ) (x : A) → AllNoted notes → note_at notes i ≡ Some x → P x
  noted_at [] i x h e = cc
  noted_at (Some y ∷ notes) zero x h e = rw (same_Some y x e) at h.0
  noted_at (None ∷ notes) zero x h e = cc
  noted_at (o ∷ notes) (suc i) x h e = noted_at notes i x h.1 e

  -- nothing is noted at the beginning
  pub none_noted : (n : ℕ) → AllNoted (replicate n None)
  none_noted zero = tt
  none_noted (suc n) = (tt, none_noted n)
