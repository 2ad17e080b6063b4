-- Names: of functions, and of what C calls an identifier (C99 6.4.2.1, with a bound of our own).
use Rattle.std.specs.Prelude.{ℕ, Bool, false, ◌||◌, ◌&&◌, ◌==◌, ◌≤◌, nat_le, List, [], ◌∷◌, length, IsTrue}
use Rattle.std.specs.List.{list_all}

-- a letter, or `_`
abbrev pub is_letter : ℕ → Bool
is_letter b = (nat_le 65 b && nat_le b 90) || (nat_le 97 b && nat_le b 122) || (b == 95)

-- a letter, `_` or a digit
abbrev pub is_name_byte : ℕ → Bool
is_name_byte b = is_letter b || (nat_le 48 b && nat_le b 57)

abbrev pub begins_name : List ℕ → Bool
begins_name [] = false
begins_name (b ∷ _) = is_letter b

-- a letter or `_`, then letters, digits and `_`, of at most 63 bytes (C99 6.4.2.1, with a bound of our own)
pub record IsName (bytes : List ℕ) : Type 0 where
  pub begins : IsTrue (begins_name bytes)
  pub runs : IsTrue (list_all is_name_byte bytes)
  pub short : length bytes ≤ 63
