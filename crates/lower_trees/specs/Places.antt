-- Numbers by token.
use Rattle.std.specs.Prelude.{ℕ, List, [], ◌∷◌, Option, Some, get_or}

-- the numbers that stand at the token
abbrev pub all_at : List (List ℕ) → ℕ → List ℕ
all_at lists token = get_or lists token []

-- the first of them, or what follows
abbrev pub first_or : List ℕ → Option ℕ → Option ℕ
first_or [] after = after
first_or (x ∷ xs) after = Some x
