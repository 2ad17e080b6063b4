-- Fields that need no quotes in a line parted by commas (RFC 4180 section 2).
use Rattle.std.specs.Prelude.{◌≡◌, ℕ, Bool, true, not, ◌==◌, ◌&&◌, List}
use Rattle.std.specs.List.{list_all, AllByRecursion}

-- neither a comma, a double quote, nor the end of a line
abbrev pub is_plain : ℕ → Bool
is_plain b = not (b == 44) && not (b == 34) && not (b == 13) && not (b == 10)

abbrev pub IsPlainField : List ℕ → Type 0
IsPlainField field = list_all is_plain field ≡ true

abbrev pub ArePlainFields : List (List ℕ) → Type 0
ArePlainFields fields = AllByRecursion IsPlainField fields
