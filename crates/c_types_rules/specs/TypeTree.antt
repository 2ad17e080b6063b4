-- The types of the language (C99 6.2.5), apart from how memory holds them.
use Rattle.std.specs.Prelude.{◌≡◌, ℕ, zero, suc, Bool, true, false, ◌&&◌, ◌==◌, List, [], ◌∷◌, length, refl}
use Rattle.std.proofs.Common.{ap}
use Rattle.std.specs.Coded.{Coded, code_by, coded×, coded_ℕ, coded_list}

-- An array whose length isn't known yet has length 0. A struct is known by its number, from 0 in the order of the definitions.
pub data TypeTree : Type 0 where
  Void : TypeTree
  Char : TypeTree
  Int : TypeTree
  Unsigned : TypeTree
  Pointer : (to : TypeTree) → TypeTree
  Array : (element : TypeTree) (length : ℕ) → TypeTree
  Struct : (tag : ℕ) → TypeTree

abbrev pub same_type : TypeTree → TypeTree → Bool
same_type Void Void = true
same_type Char Char = true
same_type Int Int = true
same_type Unsigned Unsigned = true
same_type (Pointer a) (Pointer b) = same_type a b
same_type (Array a m) (Array b n) = (m == n) && same_type a b
same_type (Struct k) (Struct l) = k == l
same_type a b = false

abbrev pub same_types : List TypeTree → List TypeTree → Bool
same_types [] us = length us == 0
same_types (a ∷ ts) [] = false
same_types (a ∷ ts) (b ∷ us) = same_type a b && same_types ts us

-- a type as a list of pairs, which gives it back
abbrev pub type_pairs : TypeTree → List (ℕ × ℕ)
type_pairs Void = (0, 0) ∷ []
type_pairs Char = (1, 0) ∷ []
type_pairs Int = (2, 0) ∷ []
type_pairs Unsigned = (3, 0) ∷ []
type_pairs (Pointer to) = (4, 0) ∷ type_pairs to
type_pairs (Array element length) = (5, length) ∷ type_pairs element
type_pairs (Struct tag) = (6, tag) ∷ []

abbrev pub numbered_type : ℕ → ℕ → TypeTree → TypeTree
numbered_type zero n t = Void
numbered_type (suc zero) n t = Char
numbered_type (suc (suc zero)) n t = Int
numbered_type (suc (suc (suc zero))) n t = Unsigned
numbered_type (suc (suc (suc (suc zero)))) n t = Pointer t
numbered_type (suc (suc (suc (suc (suc zero))))) n t = Array t n
numbered_type (suc (suc (suc (suc (suc (suc k)))))) n t = Struct n

abbrev pub type_of_pairs : List (ℕ × ℕ) → TypeTree
type_of_pairs [] = Void
type_of_pairs (p ∷ rest) = numbered_type p.0 p.1 (type_of_pairs rest)

pub read-written : (t : TypeTree) → type_of_pairs (type_pairs t) ≡ t
read-written Void = refl
read-written Char = refl
read-written Int = refl
read-written Unsigned = refl
read-written (Pointer to) = ap Pointer (read-written to)
read-written (Array element length) = ap (λ t. Array t length) (read-written element)
read-written (Struct tag) = refl

abbrev pub coded_type : Coded TypeTree
coded_type = code_by (List (ℕ × ℕ)) (coded_list (coded× coded_ℕ coded_ℕ)) type_pairs type_of_pairs read-written
