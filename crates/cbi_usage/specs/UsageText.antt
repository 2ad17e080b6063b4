-- What err is told of words that read as no command.
use Rattle.std.specs.Prelude.{◌≡◌, ℕ, Bool, true, ◌&&◌, not, nat_eq, List, ◌++◌, Option, None, Some, codes}
use Rattle.std.specs.List.{starts_with, ends_with}

-- how the tool is used: whole lines, of which the first doesn't begin as the lines that tell what went wrong do
abbrev pub is_usage : List ℕ → Bool
is_usage text = ends_with nat_eq text (codes "\n") && not (starts_with nat_eq text (codes "cbi: "))

-- the line that tells of a value alone
abbrev pub bad_value_line : List ℕ → List ℕ
bad_value_line option = codes "cbi: bad value of " ++ option ++ codes "\n"

-- the line of the option whose value alone breaks the rule, or, where there is none, how the tool is used
abbrev pub IsUsageText : Option (List ℕ) → List ℕ → Type 0
IsUsageText None text = is_usage text ≡ true
IsUsageText (Some option) text = text ≡ bad_value_line option
