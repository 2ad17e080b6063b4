-- The formats of `printf` (C99 7.19.6.1, of which `%d`, `%u`, `%c`, `%s` and `%%` are taken).
use Rattle.std.specs.Prelude.{ℕ, ◌+◌, ◌==◌, Bool, ◌||◌, List, [], ◌∷◌, Option, None, Some, if◌then◌else◌}
use Rattle.std.specs.Option.{option_map}

abbrev pub is_percent : ℕ → Bool
is_percent b = b == 37

-- the letter of a conversion: `d`, `u`, `c` or `s`
abbrev pub is_conversion : ℕ → Bool
is_conversion b = b == 100 || b == 117 || b == 99 || b == 115

-- one more conversion
abbrev pub one_conversion_more : Option ℕ → Option ℕ
one_conversion_more count = option_map (λ n. n + 1) count

-- the number of conversions of a format; none where a `%` begins neither a conversion nor `%%`
abbrev pub conversions_of : List ℕ → Option ℕ
conversions_of [] = Some 0
conversions_of (b ∷ []) = if is_percent b then None else Some 0
conversions_of (b ∷ c ∷ rest) =
    if is_percent b then if is_conversion c then one_conversion_more (conversions_of rest) else if is_percent c then conversions_of rest else None
    else conversions_of (c ∷ rest)
