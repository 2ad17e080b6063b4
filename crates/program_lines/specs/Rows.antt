-- What the other lines of a program file are read as, each by a plain body.
use Rattle.std.specs.Prelude.{ℕ, zero, suc, Bool, ◌&&◌, nat_le, if◌then◌else◌, List, [], ◌∷◌, length, Option, None, Some, Result, Ok, Err, codes}
use Rattle.std.specs.Option.{option_map}
use Rattle.std.specs.List.{list_all}
use Rattle.hex.specs.Hex.{decode_of}
use Rattle.hex.specs.declared.error.FromHexError.{FromHexError}
use Rattle.cbi_base.specs.Words.{is_word, number_of, one_number, two_numbers, greatest_u32, begins_name, is_name_byte, is_lower_digit}
use Rattle.cbi_base.specs.Numbers.{◌>>=◌}
use Rattle.flow.specs.Spelling.{Head}
use Rattle.program_lines.specs.Words.{result_of}

-- a word and a number, as `texts 2` and `main 0`
abbrev pub count_of : List ℕ → List (List ℕ) → Option ℕ
count_of word [] = None
count_of word (first ∷ rest) = if is_word first word then one_number rest else None

-- a field that is a name
abbrev pub is_name : List ℕ → Bool
is_name field = (begins_name field && list_all is_name_byte field) && nat_le (length field) 63

abbrev pub name_of : List ℕ → Option (List ℕ)
name_of field = if is_name field then Some field else None

abbrev pub some_bytes : Result (List ℕ) FromHexError → Option (List ℕ)
some_bytes (Ok []) = None
some_bytes (Ok (b ∷ bytes)) = Some (b ∷ bytes)
some_bytes (Err e) = None

-- the bytes of a text, by lower-case digits, or `-` for none
unfoldable pub bytes_of : List ℕ → Option (List ℕ)
bytes_of field =
    if is_word field (codes "-") then Some [] else (if list_all is_lower_digit field then some_bytes (decode_of field) else None)

abbrev pub text_of_row : List (List ℕ) → Option (List ℕ)
text_of_row [] = None
text_of_row (word ∷ []) = None
text_of_row (word ∷ digits ∷ []) = if is_word word (codes "text") then bytes_of digits else None
text_of_row (word ∷ digits ∷ next ∷ more) = None

-- the fields of the line of a function: its name, whether it has a result, and its numbers of parameters, locals and nodes
unfoldable pub head_parts : List (List ℕ) → Option (List ℕ × (Bool × (ℕ × (ℕ × ℕ))))
head_parts (word ∷ called ∷ result ∷ params ∷ rest) =
    if is_word word (codes "function")
    then (result_of result >>= λ value. number_of greatest_u32 params >>= λ first. option_map (λ counts. (called, (value, (first, counts)))) (two_numbers rest))
    else None
head_parts fields = None

-- the line of a function
unfoldable pub head_of_row : List (List ℕ) → Option Head
head_of_row fields =
    head_parts fields >>= λ parts.
    option_map (λ name. record { name = name; value = parts.1.0; params = parts.1.1.0; locals = parts.1.1.1.0; nodes = parts.1.1.1.1 }) (name_of parts.0)

-- so many numbers
abbrev pub sizes_of : ℕ → List (List ℕ) → Option (List ℕ)
sizes_of zero [] = Some []
sizes_of zero (field ∷ fields) = None
sizes_of (suc count) [] = None
sizes_of (suc count) (field ∷ fields) = number_of greatest_u32 field >>= λ size. option_map (λ sizes. size ∷ sizes) (sizes_of count fields)

-- the line of a function's locals, of which there are so many
abbrev pub locals_of_row : ℕ → List (List ℕ) → Option (List ℕ)
locals_of_row count [] = None
locals_of_row count (word ∷ fields) = if is_word word (codes "locals") then sizes_of count fields else None
