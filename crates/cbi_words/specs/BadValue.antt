-- Words that break the rule by a value alone: the command has all that it wants and nothing else, and an option is given a value that it doesn't take.
use Rattle.std.specs.Prelude.{ℕ, Bool, if◌then◌else◌, List, [], ◌∷◌, Option, None, Some, codes}
use Rattle.cbi_base.specs.Numbers.{is_word, ◌>>=◌}
use Rattle.cbi_options.specs.declared.given.Choice.{Choice}
use Rattle.cbi_options.specs.Options.{value_of}
use Rattle.cbi_options.specs.Shares.{is_share}
use Rattle.cbi_options.specs.Values.{is_taken_if_given, is_mode, is_number, is_policy, is_schemes}
use Rattle.cbi_options.specs.declared.given.Given.{Given}
use Rattle.cbi_words.specs.Reading.{bank_options, bugs_options, given_after, lines_options, no_positional, only_positional, rank_options, run_options}
use Rattle.cbi_words.specs.Reading.{runs_options, session_options, study_options, transform_options, two_words, widen_options}

-- an option that doesn't take every value, and the values that it takes
pub record Rule : Type 0 where
  pub name : List ℕ
  pub takes : List ℕ → Bool

-- the first of these options that is given a value that it doesn't take
abbrev pub first_bad : List Rule → List Choice → Option (List ℕ)
first_bad [] options = None
first_bad (rule ∷ rules) options = if is_taken_if_given rule.takes (value_of rule.name options) then first_bad rules options else Some rule.name

-- of `run` with its program
abbrev pub bad_run : Given → Option (List ℕ)
bad_run given = do
  program ← only_positional given.positionals
  first_bad (record { name = codes "--turns"; takes = is_number 0 100000000 } ∷ record { name = codes "--run"; takes = is_number 1 4294967295 } ∷ [])
      given.options

-- of `bank` with the three options that must be given
abbrev pub bad_bank : Given → Option (List ℕ)
bad_bank given = do
  none ← no_positional given.positionals given
  rate ← value_of (codes "--rate") given.options
  count ← value_of (codes "--count") given.options
  seed ← value_of (codes "--seed") given.options
  first_bad (record { name = codes "--rate"; takes = is_number 1 65536 } ∷ record { name = codes "--count"; takes = is_number 1 65536 }
      ∷ record { name = codes "--seed"; takes = is_number 0 18446744073709551615 }
      ∷ record { name = codes "--stream"; takes = is_number 0 18446744073709551615 } ∷ []) given.options

-- of `runs` with its program and the three options that must be given
abbrev pub bad_runs : Given → Option (List ℕ)
bad_runs given = do
  program ← only_positional given.positionals
  inputs ← value_of (codes "--inputs") given.options
  rate ← value_of (codes "--rate") given.options
  seed ← value_of (codes "--seed") given.options
  first_bad (record { name = codes "--rate"; takes = is_number 1 65536 } ∷ record { name = codes "--seed"; takes = is_number 0 18446744073709551615 }
      ∷ record { name = codes "--first"; takes = is_number 1 4294967295 } ∷ record { name = codes "--turns"; takes = is_number 0 100000000 } ∷ []) given.options

-- of `rank` with its program and its collection
abbrev pub bad_rank : Given → Option (List ℕ)
bad_rank given = do
  files ← two_words given.positionals
  first_bad (record { name = codes "--policy"; takes = is_policy } ∷ []) given.options

-- of `study` with its text and the four options that must be given
abbrev pub bad_study : Given → Option (List ℕ)
bad_study given = do
  text ← only_positional given.positionals
  runs ← value_of (codes "--runs") given.options
  seed ← value_of (codes "--seed") given.options
  rate ← value_of (codes "--rate") given.options
  turns ← value_of (codes "--turns") given.options
  first_bad (record { name = codes "--runs"; takes = is_number 1 100000 } ∷ record { name = codes "--seed"; takes = is_number 0 18446744073709551615 }
      ∷ record { name = codes "--rate"; takes = is_number 1 65536 } ∷ record { name = codes "--turns"; takes = is_number 0 100000000 }
      ∷ record { name = codes "--policy"; takes = is_policy } ∷ []) given.options

-- of `transform` with its text and its mode
abbrev pub bad_transform : Given → Option (List ℕ)
bad_transform given = do
  text ← only_positional given.positionals
  mode ← value_of (codes "--mode") given.options
  first_bad (record { name = codes "--mode"; takes = is_mode } ∷ record { name = codes "--schemes"; takes = is_schemes }
      ∷ record { name = codes "--part"; takes = is_share } ∷ []) given.options

-- of `session` with its program and its edits
abbrev pub bad_session : Given → Option (List ℕ)
bad_session given = do
  edits ← only_positional given.positionals
  program ← value_of (codes "--program") given.options
  first_bad (record { name = codes "--policy"; takes = is_policy } ∷ []) given.options

-- of `widen` with its two_words programs, its part and its collection
abbrev pub bad_widen : Given → Option (List ℕ)
bad_widen given = do
  files ← two_words given.positionals
  whole ← value_of (codes "--whole") given.options
  part ← value_of (codes "--part") given.options
  first_bad (record { name = codes "--part"; takes = is_share } ∷ []) given.options

-- of `lines` with its program and its collection
abbrev pub bad_lines : Given → Option (List ℕ)
bad_lines given = do
  files ← two_words given.positionals
  first_bad (record { name = codes "--most"; takes = is_number 1 1000 } ∷ record { name = codes "--apart"; takes = is_number 0 100 } ∷ []) given.options

-- of `bugs` with its program and its collection
abbrev pub bad_bugs : Given → Option (List ℕ)
bad_bugs given = do
  files ← two_words given.positionals
  first_bad (record { name = codes "--most"; takes = is_number 1 1000 } ∷ record { name = codes "--also"; takes = is_number 1 100 } ∷ []) given.options

-- of the commands that list places
unfoldable pub listing_bad_in : List ℕ → List (List ℕ) → Option (List ℕ)
listing_bad_in name words =
    if is_word name (codes "lines") then (given_after lines_options words >>= bad_lines)
    else (if is_word name (codes "bugs") then (given_after bugs_options words >>= bad_bugs) else None)

-- `cards` and `pairs` have no options
unfoldable pub later_bad_in : List ℕ → List (List ℕ) → Option (List ℕ)
later_bad_in name words =
    if is_word name (codes "session") then (given_after session_options words >>= bad_session)
    else (if is_word name (codes "widen") then (given_after widen_options words >>= bad_widen)
    else (if is_word name (codes "runs") then (given_after runs_options words >>= bad_runs)
    else (if is_word name (codes "cards") then None
    else (if is_word name (codes "pairs") then None else listing_bad_in name words))))

-- `collect` takes every value of its options
unfoldable pub bad_in : List ℕ → List (List ℕ) → Option (List ℕ)
bad_in name words =
    if is_word name (codes "run") then (given_after run_options words >>= bad_run)
    else (if is_word name (codes "bank") then (given_after bank_options words >>= bad_bank)
    else (if is_word name (codes "collect") then None
    else (if is_word name (codes "rank") then (given_after rank_options words >>= bad_rank)
    else (if is_word name (codes "study") then (given_after study_options words >>= bad_study)
    else (if is_word name (codes "transform") then (given_after transform_options words >>= bad_transform) else later_bad_in name words)))))

-- the option whose value alone breaks the rule, the first in the table of the command
abbrev pub bad_value : List (List ℕ) → Option (List ℕ)
bad_value [] = None
bad_value (first ∷ []) = None
bad_value (first ∷ name ∷ words) = bad_in name words
