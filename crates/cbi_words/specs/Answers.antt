-- What is said of words that are refused.
use Rattle.std.specs.Prelude.{ℕ, List, Result, Ok, Err, string_bytes}
use Rattle.cbi_words.specs.declared.error.WordsError.{WordsError}
use Rattle.cbi_words.specs.declared.error.WordsError.TheVariants as error

-- a fact of the text that is told of words that are refused
abbrev pub OnUsage : {A : Type 0} → Result A WordsError → (List ℕ → Type 0) → Type 0
OnUsage (Ok a) P = Unit {0}
OnUsage (Err (error.Usage text)) P = P (string_bytes text)
OnUsage (Err error.Memory) P = Unit {0}
