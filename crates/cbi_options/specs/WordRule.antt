-- The rule on the words after a command. They are read from left to right. The first `--` ends the options. Before it a longer word that begins with
-- `--` is an option, another one that begins with `-` is refused, except `-` alone, and each other word is a positional.
use Rattle.std.specs.Prelude.{ℕ, Bool, true, ◌==◌, not, if◌then◌else◌, List, [], ◌∷◌, map, Option, None, Some, String, string_bytes}
use Rattle.std.specs.Option.{option_map}
use Rattle.std.specs.List.{list_any, before_first, after_first}
use Rattle.std.specs.Global.{Global}
use Rattle.cbi_options.specs.declared.given.Shape.{Shape}
use Rattle.cbi_options.specs.declared.given.Shape.TheVariants as shape
use Rattle.cbi_options.specs.declared.given.Given.{Given}

abbrev pub is_dash : ℕ → Bool
is_dash b = b == 45

-- what a word is, by how it begins
abbrev pub shape_of : List ℕ → Shape
shape_of [] = shape.Positional
shape_of (a ∷ []) = shape.Positional
shape_of (a ∷ b ∷ []) = if is_dash a then (if is_dash b then shape.End else shape.Refused) else shape.Positional
shape_of (a ∷ b ∷ c ∷ more) = if is_dash a then (if is_dash b then shape.Option else shape.Refused) else shape.Positional

-- the value of the option before it: `-`, or a word that doesn't begin with `-`
abbrev pub is_value : List ℕ → Bool
is_value [] = true
is_value (a ∷ []) = true
is_value (a ∷ b ∷ more) = not (is_dash a)

-- an option has its value behind the first `=`, or in the next word
abbrev pub is_equals : ℕ → Bool
is_equals b = b == 61

abbrev pub has_value : List ℕ → Bool
has_value word = list_any is_equals word

abbrev pub name_in : List ℕ → List ℕ
name_in word = before_first is_equals word

abbrev pub value_in : List ℕ → List ℕ
value_in word = after_first is_equals word

abbrev pub none_given : Given
none_given = record { options = []; positionals = [] }

-- an option, or a positional, before what else is given
abbrev pub with_option : List ℕ → List ℕ → Given → Given
with_option name value given = record given { options = record { name = name; value = value } ∷ given.options }

abbrev pub with_positional : List ℕ → Given → Given
with_positional word given = record given { positionals = word ∷ given.positionals }

-- what the words give, where an option may wait for its value; none where they break the rule
abbrev pub given_by_words : Option (List ℕ) → List (List ℕ) → Option Given
given_by_words None [] = Some none_given
given_by_words (Some name) [] = None
given_by_words (Some name) (word ∷ rest) = if is_value word then option_map (with_option name word) (given_by_words None rest) else None
given_by_words None (word ∷ rest) = elim (shape_of word) [
  | shape.End ↦ Some (record { options = []; positionals = rest })
  | shape.Option ↦ (if has_value word then option_map (with_option (name_in word) (value_in word)) (given_by_words None rest) else given_by_words
      (Some word) rest)
  | shape.Refused ↦ None
  | shape.Positional ↦ option_map (with_positional word) (given_by_words None rest)
]

-- the texts of the words
abbrev pub texts_of : List (String Global) → List (List ℕ)
texts_of words = map string_bytes words
