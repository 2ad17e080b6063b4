-- What words read as: the table of the commands with their options, positionals and defaults. The first word isn't looked at, and the second one is the
-- command.
use Rattle.std.specs.Prelude.{ℕ, if◌then◌else◌, List, [], ◌∷◌, Option, None, Some, codes}
use Rattle.cbi_base.specs.declared.policy.Policy.TheVariants.{All}
use Rattle.cbi_base.specs.Numbers.{is_word, ◌>>=◌}
use Rattle.cbi_options.specs.WordRule.{given_by_words}
use Rattle.cbi_options.specs.Options.{are_asked, value_of, number_or, number_wanted, policy_or}
use Rattle.cbi_options.specs.Schemes.{all_schemes, mode_wanted, schemes_or}
use Rattle.cbi_options.specs.Shares.{share_or, share_wanted}
use Rattle.cbi_options.specs.declared.given.Given.{Given}
use Rattle.cbi_words.specs.declared.command.Command.{Command}
use Rattle.cbi_words.specs.declared.command.Command.TheVariants.{Transform, Run, Bank, Collect, Runs, Rank, Study, Session, Widen, Cards, Pairs, Lines, Bugs}

-- the one positional, where there is one alone
abbrev pub only_positional : List (List ℕ) → Option (List ℕ)
only_positional [] = None
only_positional (word ∷ []) = Some word
only_positional (word ∷ next ∷ more) = None

-- `transform --mode plain|full|sampled [--schemes LIST] [--part I/N] C`
abbrev pub transform_options : List (List ℕ)
transform_options = codes "--mode" ∷ codes "--schemes" ∷ codes "--part" ∷ []

abbrev pub transform_of : Given → Option Command
transform_of given = do
  mode ← mode_wanted (value_of (codes "--mode") given.options)
  schemes ← schemes_or all_schemes (value_of (codes "--schemes") given.options)
  part ← share_or (value_of (codes "--part") given.options)
  text ← only_positional given.positionals
  Some (Transform (record { mode = mode; schemes = schemes; part = part; text = text }))

-- `run [--bank B] [--input I] [--expect FILE] [--turns N] [--run R] [--report F] PROG`
abbrev pub run_options : List (List ℕ)
run_options = codes "--bank" ∷ codes "--input" ∷ codes "--expect" ∷ codes "--turns" ∷ codes "--run" ∷ codes "--report" ∷ []

abbrev pub run_of : Given → Option Command
run_of given = do
  turns ← number_or 1000000 0 100000000 (value_of (codes "--turns") given.options)
  run ← number_or 1 1 4294967295 (value_of (codes "--run") given.options)
  program ← only_positional given.positionals
  Some (Run (record {
    bank = value_of (codes "--bank") given.options;
    input = value_of (codes "--input") given.options;
    expect = value_of (codes "--expect") given.options;
    turns = turns;
    run = run;
    report = value_of (codes "--report") given.options;
    program = program;
  }))

-- `bank --rate D --count N --seed S [--stream I]`
abbrev pub bank_options : List (List ℕ)
bank_options = codes "--rate" ∷ codes "--count" ∷ codes "--seed" ∷ codes "--stream" ∷ []

abbrev pub no_positional : List (List ℕ) → Given → Option Given
no_positional [] given = Some given
no_positional (word ∷ more) given = None

abbrev pub bank_of : Given → Option Command
bank_of given = do
  rate ← number_wanted 1 65536 (value_of (codes "--rate") given.options)
  count ← number_wanted 1 65536 (value_of (codes "--count") given.options)
  seed ← number_wanted 0 18446744073709551615 (value_of (codes "--seed") given.options)
  stream ← number_or 0 0 18446744073709551615 (value_of (codes "--stream") given.options)
  none ← no_positional given.positionals given
  Some (Bank (record { rate = rate; count = count; seed = seed; stream = stream }))

-- `collect --program PROG FILE...`
abbrev pub collect_options : List (List ℕ)
collect_options = codes "--program" ∷ []

abbrev pub one_or_more : List (List ℕ) → Option (List (List ℕ))
one_or_more [] = None
one_or_more (word ∷ more) = Some (word ∷ more)

abbrev pub collect_of : Given → Option Command
collect_of given = do
  program ← value_of (codes "--program") given.options
  files ← one_or_more given.positionals
  Some (Collect (record { program = program; files = files }))

-- `runs --inputs LIST [--expect LIST] --rate D --seed S [--first R] [--turns N] PROG`
abbrev pub runs_options : List (List ℕ)
runs_options = codes "--inputs" ∷ codes "--expect" ∷ codes "--rate" ∷ codes "--seed" ∷ codes "--first" ∷ codes "--turns" ∷ []

abbrev pub listed_runs_of : Given → Option Command
listed_runs_of given = do
  inputs ← value_of (codes "--inputs") given.options
  rate ← number_wanted 1 65536 (value_of (codes "--rate") given.options)
  seed ← number_wanted 0 18446744073709551615 (value_of (codes "--seed") given.options)
  first ← number_or 1 1 4294967295 (value_of (codes "--first") given.options)
  turns ← number_or 1000000 0 100000000 (value_of (codes "--turns") given.options)
  program ← only_positional given.positionals
  Some (Runs (record {
    inputs = inputs;
    expect = value_of (codes "--expect") given.options;
    rate = rate;
    seed = seed;
    first = first;
    turns = turns;
    program = program;
  }))

-- `rank [--policy all|failing|relabel] PROG COLL`
abbrev pub rank_options : List (List ℕ)
rank_options = codes "--policy" ∷ []

-- the two_words positionals, where there are two_words alone
abbrev pub two_words : List (List ℕ) → Option (List ℕ × List ℕ)
two_words [] = None
two_words (program ∷ []) = None
two_words (program ∷ collection ∷ []) = Some (program, collection)
two_words (program ∷ collection ∷ word ∷ more) = None

abbrev pub rank_of : Given → Option Command
rank_of given = do
  policy ← policy_or All (value_of (codes "--policy") given.options)
  files ← two_words given.positionals
  Some (Rank (record { policy = policy; program = files.0; collection = files.1 }))

-- `study --runs N --seed S --rate D --turns T [--policy all|failing|relabel] C`
abbrev pub study_options : List (List ℕ)
study_options = codes "--runs" ∷ codes "--seed" ∷ codes "--rate" ∷ codes "--turns" ∷ codes "--policy" ∷ []

abbrev pub study_of : Given → Option Command
study_of given = do
  runs ← number_wanted 1 100000 (value_of (codes "--runs") given.options)
  seed ← number_wanted 0 18446744073709551615 (value_of (codes "--seed") given.options)
  rate ← number_wanted 1 65536 (value_of (codes "--rate") given.options)
  turns ← number_wanted 0 100000000 (value_of (codes "--turns") given.options)
  policy ← policy_or All (value_of (codes "--policy") given.options)
  text ← only_positional given.positionals
  Some (Study (record { runs = runs; seed = seed; rate = rate; turns = turns; policy = policy; text = text }))

-- `session --program PROG [--policy all|failing|relabel] EDITS`
abbrev pub session_options : List (List ℕ)
session_options = codes "--program" ∷ codes "--policy" ∷ []

abbrev pub session_of : Given → Option Command
session_of given = do
  program ← value_of (codes "--program") given.options
  policy ← policy_or All (value_of (codes "--policy") given.options)
  edits ← only_positional given.positionals
  Some (Session (record { program = program; policy = policy; edits = edits }))

-- `widen --whole WHOLE --part I/N PARTPROG COLL`
abbrev pub widen_options : List (List ℕ)
widen_options = codes "--whole" ∷ codes "--part" ∷ []

abbrev pub widen_of : Given → Option Command
widen_of given = do
  whole ← value_of (codes "--whole") given.options
  part ← share_wanted (value_of (codes "--part") given.options)
  files ← two_words given.positionals
  Some (Widen (record { whole = whole; part = part; program = files.0; collection = files.1 }))

-- `cards PROG COLL`, and `pairs PROG COLL`
abbrev pub no_options : List (List ℕ)
no_options = []

abbrev pub cards_of : Given → Option Command
cards_of given = do
  files ← two_words given.positionals
  Some (Cards (record { program = files.0; collection = files.1 }))

abbrev pub pairs_of : Given → Option Command
pairs_of given = do
  files ← two_words given.positionals
  Some (Pairs (record { program = files.0; collection = files.1 }))

-- `lines [--most M] [--apart L] PROG COLL`
abbrev pub lines_options : List (List ℕ)
lines_options = codes "--most" ∷ codes "--apart" ∷ []

abbrev pub lines_of : Given → Option Command
lines_of given = do
  most ← number_or 10 1 1000 (value_of (codes "--most") given.options)
  apart ← number_or 3 0 100 (value_of (codes "--apart") given.options)
  files ← two_words given.positionals
  Some (Lines (record { most = most; apart = apart; program = files.0; collection = files.1 }))

-- `bugs [--most M] [--also K] PROG COLL`
abbrev pub bugs_options : List (List ℕ)
bugs_options = codes "--most" ∷ codes "--also" ∷ []

abbrev pub bugs_of : Given → Option Command
bugs_of given = do
  most ← number_or 10 1 1000 (value_of (codes "--most") given.options)
  also ← number_or 3 1 100 (value_of (codes "--also") given.options)
  files ← two_words given.positionals
  Some (Bugs (record { most = most; also = also; program = files.0; collection = files.1 }))

-- what is given after a command with these options
abbrev pub given_after : List (List ℕ) → List (List ℕ) → Option Given
given_after options words = given_by_words None words >>= λ given. if are_asked options given then Some given else None

-- the commands that list places, by their names, with the words that follow
unfoldable pub listing_command_in : List ℕ → List (List ℕ) → Option Command
listing_command_in name words =
    if is_word name (codes "lines") then (given_after lines_options words >>= lines_of)
    else (if is_word name (codes "bugs") then (given_after bugs_options words >>= bugs_of) else None)

-- the commands that look on into collections, and the one that makes one at once, by their names, with the words that follow
unfoldable pub later_command_in : List ℕ → List (List ℕ) → Option Command
later_command_in name words =
    if is_word name (codes "session") then (given_after session_options words >>= session_of)
    else (if is_word name (codes "widen") then (given_after widen_options words >>= widen_of)
    else (if is_word name (codes "runs") then (given_after runs_options words >>= listed_runs_of)
    else (if is_word name (codes "cards") then (given_after no_options words >>= cards_of)
    else (if is_word name (codes "pairs") then (given_after no_options words >>= pairs_of) else listing_command_in name words))))

-- all commands, by their names
unfoldable pub command_in : List ℕ → List (List ℕ) → Option Command
command_in name words =
    if is_word name (codes "run") then (given_after run_options words >>= run_of)
    else (if is_word name (codes "bank") then (given_after bank_options words >>= bank_of)
    else (if is_word name (codes "collect") then (given_after collect_options words >>= collect_of)
    else (if is_word name (codes "rank") then (given_after rank_options words >>= rank_of)
    else (if is_word name (codes "study") then (given_after study_options words >>= study_of)
    else (if is_word name (codes "transform") then (given_after transform_options words >>= transform_of) else later_command_in name words)))))

-- the command that the words read as
abbrev pub command_of_words : List (List ℕ) → Option Command
command_of_words [] = None
command_of_words (first ∷ []) = None
command_of_words (first ∷ name ∷ words) = command_in name words
