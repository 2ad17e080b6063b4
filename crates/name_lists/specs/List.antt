-- A list of names of files, a line each. The run on the first name has a number that is given, and the run on each further one the next number.
use Rattle.std.specs.Prelude.{◌≡◌, ℕ, ◌+◌, ◌-◌, ◌≤◌, ◌==◌, Bool, List, length, All}
use Rattle.std.specs.Str.{IsUtf8}
use Rattle.cbi_base.specs.Text.{AreLines, Lacks, text_of}

-- the most names of a list, the most bytes of a name, and the greatest number of a run
abbrev pub most_names : ℕ
most_names = 100000

abbrev pub most_bytes : ℕ
most_bytes = 4095

abbrev pub greatest_run : ℕ
greatest_run = 4294967295

abbrev pub is_nul : ℕ → Bool
is_nul b = b == 0

-- the name of a file: some bytes of UTF-8, not too many, and none of them 0
pub record IsFileName (name : List ℕ) : Type 0 where
  pub some : 1 ≤ length name
  pub few : length name ≤ most_bytes
  pub is_text : IsUtf8 name
  pub no_nul : Lacks is_nul name

-- The text is these names, each with a newline behind it and none within it. The last one's run has a number.
pub record SpellsList (first : ℕ) (text : List ℕ) (names : List (List ℕ)) : Type 0 where
  pub some : 1 ≤ length names
  pub few : length names ≤ most_names
  pub each : All IsFileName names
  pub last_run : first + (length names - 1) ≤ greatest_run
  pub are_lines : AreLines names
  pub text_is : text ≡ text_of names
