-- What a sink has taken. A sink needn't tell it: then each fact on it is true. A sink that told it before the call tells it after.
use Rattle.std.specs.Prelude.{◌≡◌, ℕ, List, ◌++◌, Option, Some, None, take}

-- the whole piece was taken
abbrev pub Takes : Option (List ℕ) → Option (List ℕ) → List ℕ → Type 0
Takes None now piece = Unit {0}
Takes (Some before) now piece = now ≡ Some (before ++ piece)

-- a prefix of the piece was taken
pub record IsTakenUpTo (before : List ℕ) (now : Option (List ℕ)) (piece : List ℕ) : Type 0 where
  pub cut : ℕ
  pub is : now ≡ Some (before ++ take cut piece)

abbrev pub TakesPrefix : Option (List ℕ) → Option (List ℕ) → List ℕ → Type 0
TakesPrefix None now piece = Unit {0}
TakesPrefix (Some before) now piece = IsTakenUpTo before now piece
