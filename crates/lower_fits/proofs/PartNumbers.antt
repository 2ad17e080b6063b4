-- Lists by the numbers of their elements.
use Rattle.std.proofs.Common.{◌≡◌, ℕ, zero, suc, ◌<◌, refl, sym, ap, ap₂, subst, ◌∙◌, arith, List, [], ◌∷◌, map, length, Some, slice_get, sum_by}
use Rattle.std.specs.List.{AllByRecursion, sum}
use Rattle.std.proofs.lemmas.List.Sums.{sum-map}
use Rattle.base_lists.proofs.Options.{none_some, some_is}

-- what every_at of each item_there every_at of this one
holds_by : {A : Type 0} (P : A → Type 0) (xs : List A) → AllByRecursion P xs → (number : ℕ) (x : A) → slice_get xs number ≡ Some x → P x
holds_by P [] all number x h = absurd (none_some h)
holds_by P (y ∷ xs) all zero x h = subst P (some_is h) all.0
holds_by P (y ∷ xs) all (suc number) x h = holds_by P xs all.1 number x h

-- two lists of one length whose elements give the same at each number
pub same_maps : {A B C : Type 0} (v : A → C) (w : B → C) (xs : List A) (ys : List B) → length xs ≡ length ys
    → ((number : ℕ) (x : A) (y : B) → slice_get xs number ≡ Some x → slice_get ys number ≡ Some y → v x ≡ w y) → map v xs ≡ map w ys
same_maps v w [] [] l same = refl
same_maps v w [] (y ∷ ys) l same = absurd (omega (arith, l))
same_maps v w (x ∷ xs) [] l same = absurd (omega (arith, l))
same_maps v w (x ∷ xs) (y ∷ ys) l same =
    ap₂ (λ a more. a ∷ more) (same zero x y refl refl) (same_maps v w xs ys (omega (arith, l)) (λ number a b h k. same (suc number) a b h k))

-- they have one sum
pub same_sums : {A B : Type 0} (v : A → ℕ) (w : B → ℕ) (xs : List A) (ys : List B) → map v xs ≡ map w ys → sum_by v xs ≡ sum_by w ys
same_sums v w xs ys same = sym (sum-map v xs) ∙ ap sum same ∙ sum-map w ys
