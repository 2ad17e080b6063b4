-- The bytes that a run reads of its files, as the store held them when the call began.
use Rattle.std.specs.Prelude.{◌≡◌, ℕ, List, [], ◌∷◌, ◌++◌, codes, Option, Some, None}
use Rattle.std.specs.Option.{option_to_list}
use Rattle.cbi_base.specs.Store.{Held, IsReadOf}
use Rattle.command_base.specs.Limits.{program_limit}
use Rattle.expected.specs.Expected.{expect_limit}
use Rattle.cbi_options.specs.declared.words.RunWords.{RunWords}
use Rattle.command_run.specs.declared.files.RunFiles.{RunFiles}

-- the most bytes that are read of a bank, and of an input
abbrev pub bank_limit : ℕ
bank_limit = 1048576

abbrev pub input_limit : ℕ
input_limit = 16777216

-- the names that are read, in this order
abbrev pub run_names : RunWords → List (List ℕ)
run_names r = r.program ∷ (option_to_list r.bank ++ (option_to_list r.input ++ option_to_list r.expect))

-- the bytes read of the name, or these where none is given
abbrev pub IsReadOr : List ℕ → Option Held → Option (List ℕ) → ℕ → List ℕ → Type 0
IsReadOr otherwise held None max bytes = bytes ≡ otherwise
IsReadOr otherwise held (Some name) max bytes = IsReadOf held name max bytes

-- the bytes read of the name, where one is given
abbrev pub IsReadWhere : Option Held → Option (List ℕ) → ℕ → Option (List ℕ) → Type 0
IsReadWhere held None max bytes = bytes ≡ None
IsReadWhere held (Some name) max None = ⊥
IsReadWhere held (Some name) max (Some bytes) = IsReadOf held name max bytes

-- the text of the bank of the one number 1, with which each visit of a site is observed
abbrev pub text_of_one : List ℕ
text_of_one = codes "1\n"

-- without a bank it is that of the one number 1, without an input there are no bytes, and without a file to equal there is none
pub record AreFiles (held : Option Held) (r : RunWords) (files : RunFiles) : Type 0 where
  pub program_read : IsReadOf held r.program program_limit files.program
  pub bank_read : IsReadOr text_of_one held r.bank bank_limit files.bank
  pub input_read : IsReadOr [] held r.input input_limit files.input
  pub expect_read : IsReadWhere held r.expect expect_limit files.expect
