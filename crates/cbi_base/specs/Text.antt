-- Texts of lines, lines of fields, and how they are spelled and taken apart.
use Rattle.std.specs.Prelude.{◌≡◌, ◌≢◌, ℕ, Bool, ◌==◌, ◌<◌, ◌≤◌, List, [], ◌∷◌, ◌++◌, length, slice_index, not, ◌&&◌, IsTrue, IsFalse}
use Rattle.std.specs.List.{slice_split, join_with_byte, flat_map, list_all, AllByRecursion, AllWithin}

-- A text is a list of lines, each ended by a newline, and a line is a list of fields, parted by one space.
abbrev pub is_newline : ℕ → Bool
is_newline b = b == 10

abbrev pub is_space : ℕ → Bool
is_space b = b == 32

-- no byte of the list passes the test
abbrev pub Lacks : (ℕ → Bool) → List ℕ → Type 0
Lacks p bytes = AllByRecursion (λ b. IsFalse (p b)) bytes

-- a byte that can stand in a field: neither a space nor a newline
abbrev pub is_field_byte : ℕ → Bool
is_field_byte b = not (is_space b) && not (is_newline b)

abbrev pub IsField : List ℕ → Type 0
IsField bytes = IsTrue (list_all is_field_byte bytes)

-- the line with these fields
abbrev pub line_of_fields : List (List ℕ) → List ℕ
line_of_fields fields = join_with_byte 32 fields

-- the fields of a line
abbrev pub fields_of : List ℕ → List (List ℕ)
fields_of line = slice_split is_space line

-- a line and its end
abbrev pub line_with_newline : List ℕ → List ℕ
line_with_newline line = line ++ 10 ∷ []

-- the text with these lines
abbrev pub text_of : List (List ℕ) → List ℕ
text_of lines = flat_map line_with_newline lines

abbrev pub AreLines : List (List ℕ) → Type 0
AreLines lines = AllByRecursion (Lacks is_newline) lines

-- the place of the first newline at or after another place
pub record IsLineEnd (bytes : List ℕ) (from place : ℕ) : Type 0 where
  pub after : from ≤ place
  pub inside : place < length bytes
  pub stands : slice_index bytes place ≡ 10
  pub first : AllWithin (λ b. b ≢ 10) bytes from place
