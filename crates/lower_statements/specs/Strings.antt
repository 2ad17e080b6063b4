-- Arrays that begin as strings.
use Rattle.std.specs.Prelude.{ℕ, Bool, true, false, Option, Some, None, option_map, slice_get}
use Rattle.std.specs.Option.{option_and_then}
use Rattle.c_syntax.specs.ExprTree.{ExprTree}
use Rattle.flow.specs.declared.program.Text.{Text}
use Rattle.c_meaning.specs.declared.value_type.ValueType.{ValueType}
use Rattle.c_meaning.specs.declared.value_type.ValueType.TheVariants as type
use Rattle.c_meaning.specs.Words.{Facts, Sites, text_of_string}
use Rattle.lower_relation.specs.Expressions.{number_of_text}
use Rattle.lower_relation.specs.Initialisers.{ArrayZeroed, OnLocal, Spells}
use Rattle.lower_relation.specs.Paths.{Graph, Path, ◌then◌}

-- whether the type is an array's
abbrev pub is_array : Option ValueType → Bool
is_array (Some (type.Array size)) = true
is_array of = false

-- the text with this number
abbrev pub text_with : Facts → Option ℕ → Option Text
text_with facts number = option_and_then (slice_get facts.statics.texts) number

-- the number, where there is a text with it
abbrev pub known_text : Facts → Option ℕ → Option ℕ
known_text facts None = None
known_text facts (Some number) = option_map (λ t. number) (slice_get facts.statics.texts number)

-- all cells of the array are zero, and then it holds the bytes of the string
abbrev pub StringSet : Graph → Facts → Sites → ℕ → ExprTree → Path ℕ
StringSet G facts sites token value =
    ArrayZeroed G facts sites token then OnLocal G (facts.slot_at token) (Spells G (number_of_text facts value) (text_of_string facts value))
