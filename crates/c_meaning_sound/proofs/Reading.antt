-- The number of each string of a text leads to its own bytes.
use Rattle.std.proofs.Common.{◌≡◌, ℕ, suc, ◌≤◌, ap, subst, arith, List, [], ◌∷◌, Some, ◌+◌, Bool, true, false, length}
use Rattle.std.specs.Prelude.{Option, slice_get, ◌==◌, if◌then◌else◌}
use Rattle.std.specs.List.{AllByRecursion}
use Rattle.std.specs.Option.{option_and_then}
use Rattle.std.proofs.lemmas.Bool.Decides.{nat_tests}
use Rattle.base_lists.proofs.Numbers.{number_itself}
use Rattle.c_syntax.specs.Words.{SourceTree, EachAt, ItemAt, ShapedItem, item_kinds}
use Rattle.flow.specs.declared.program.Text.{Text}
use Rattle.c_meaning.specs.Literals.{Literal, string_literals, number_from, texts_of}
use Rattle.c_meaning_sound.proofs.Rising.{Rise, items_rise}
use Rattle.c_meaning_sound.proofs.Texts.{Spelled}

abbrev Reads : (ℕ → Option Text) → ℕ → List Literal → Literal → Type 0
Reads f n xs x = option_and_then f (number_from n x.token xs) ≡ Some (record { bytes = x.bytes })

-- of all strings from a token on
from_on : {P Q : Literal → Type 0} (lo hi : ℕ) (xs : List Literal) → Rise lo hi xs → AllByRecursion P xs → ((x : Literal) → lo ≤ x.token → P x → Q x)
    → AllByRecursion Q xs
from_on lo hi [] r h k = tt
from_on lo hi (x ∷ xs) r h k = (k x r.0 h.0, from_on (x.token + 1) hi xs r.1 h.1 (λ y l p. k y (omega (arith, l, r.0)) p))

other_token : (m n : ℕ) → m + 1 ≤ n → (m == n) ≡ false
other_token m n h = grind (arith, nat_tests, h)

first_read : (b : Bool) (f : ℕ → Option Text) (n : ℕ) (o : Option ℕ) (x : Literal) → b ≡ true → f n ≡ Some (record { bytes = x.bytes })
    → option_and_then f (if b then Some n else o) ≡ Some (record { bytes = x.bytes })
first_read true f n o x e h = h
first_read false f n o x e h = cc

next_read : (b : Bool) (f : ℕ → Option Text) (n : ℕ) (o : Option ℕ) (x : Literal) → b ≡ false → option_and_then f o ≡ Some (record { bytes = x.bytes })
    → option_and_then f (if b then Some n else o) ≡ Some (record { bytes = x.bytes })
next_read true f n o x e h = cc
next_read false f n o x e h = h

all_read : (xs : List Literal) (n lo hi : ℕ) (f : ℕ → Option Text) → Rise lo hi xs → ((k : ℕ) → f (n + k) ≡ slice_get (texts_of xs) k)
    → AllByRecursion (Reads f n xs) xs
all_read [] n lo hi f r h = tt
all_read (x ∷ xs) n lo hi f r h = (
  first_read (x.token == x.token) f n (number_from (suc n) x.token xs) x (number_itself x.token)
      (subst (λ m. f m ≡ Some (record { bytes = x.bytes })) (omega arith) (h 0)),
  from_on (x.token + 1) hi xs r.1
      (all_read xs (suc n) (x.token + 1) hi f r.1 (λ k. subst (λ m. f m ≡ slice_get (texts_of xs) k) (omega arith) (h (suc k))))
      (λ y l p. next_read (x.token == y.token) f n (number_from (suc n) y.token xs) y (other_token x.token y.token l) p),
)

with_lengths : (P Q : Literal → Type 0) (xs : List Literal) → AllByRecursion P xs → AllByRecursion Q xs → AllByRecursion (λ x. P x × Q x) xs
with_lengths P Q [] h k = tt
with_lengths P Q (x ∷ xs) h k = ((h.0, k.0), with_lengths P Q xs h.1 k.1)

-- the strings of a text whose parts stand in their places, where none is longer than an object
pub all_spelled : (tree : SourceTree) → AllByRecursion ShapedItem tree.items → EachAt ItemAt item_kinds 0 0 tree.items
    → AllByRecursion (λ s. length s.bytes ≤ 1048575) (string_literals tree) → AllByRecursion (Spelled tree) (string_literals tree)
all_spelled tree q p h =
    with_lengths (Reads (slice_get (texts_of (string_literals tree))) 0 (string_literals tree)) (λ s. length s.bytes ≤ 1048575) (string_literals tree)
    (all_read (string_literals tree) 0 0 _ (slice_get (texts_of (string_literals tree))) (items_rise tree.items 0 q p).by
    (λ k. ap (slice_get (texts_of (string_literals tree))) (omega arith))) h
