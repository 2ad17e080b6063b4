-- A command goes by its positionals and the values of its options.
use Rattle.std.proofs.Common.{◌≡◌, ℕ, Bool, true, false, if◌then◌else◌, List, [], ◌∷◌, ◌++◌, Option, None, Some, ap, ◌∙◌, refl}
use Rattle.std.specs.Prelude.{codes}
use Rattle.cbi_base.specs.Numbers.{is_word, ◌>>=◌}
use Rattle.cbi_options.specs.declared.given.Given.{Given}
use Rattle.cbi_options.specs.Options.{number_or, number_wanted, value_of}
use Rattle.cbi_words.specs.declared.command.Command.{Command}
use Rattle.cbi_words.specs.declared.command.Command.TheVariants.{Bank}
use Rattle.cbi_words.specs.Reading.{bank_of, bank_options, bugs_of, bugs_options, cards_of, collect_of, collect_options, command_in, given_after, later_command_in, lines_of, lines_options, listed_runs_of, listing_command_in, no_options, no_positional, pairs_of, rank_of, rank_options, run_of, run_options, runs_options, session_of, session_options, study_of, study_options, transform_of, transform_options, widen_of, widen_options}
use Rattle.cbi_words_laws.specs.Laws.{CommandStays, CommandsTakeWhatIsSaid, SaySame}
use Rattle.cbi_words_laws.proofs.Moving.{change_places}

-- the same values of all options
abbrev pub SameValues : Given → Given → Type 0
SameValues g h = (name : List ℕ) → value_of name g.options ≡ value_of name h.options

-- what a command makes of what is given
abbrev pub Heeds : (Given → Option Command) → Type 0
Heeds f = (g h : Given) → g.positionals ≡ h.positionals → SameValues g h → f g ≡ f h

run_heeds : Heeds run_of
run_heeds g h positionals values = rw (values (codes "--turns"), values (codes "--run"), values (codes "--bank"), values (codes "--input"), values (codes "--expect"), values (codes "--report"), positionals) refl

collect_heeds : Heeds collect_of
collect_heeds g h positionals values = rw (values (codes "--program"), positionals) refl

runs_heeds : Heeds listed_runs_of
runs_heeds g h positionals values = rw (values (codes "--inputs"), values (codes "--rate"), values (codes "--seed"), values (codes "--first"), values (codes "--turns"), values (codes "--expect"), positionals) refl

rank_heeds : Heeds rank_of
rank_heeds g h positionals values = rw (values (codes "--policy"), positionals) refl

study_heeds : Heeds study_of
study_heeds g h positionals values = rw (values (codes "--runs"), values (codes "--seed"), values (codes "--rate"), values (codes "--turns"), values (codes "--policy"), positionals) refl

transform_heeds : Heeds transform_of
transform_heeds g h positionals values = rw (values (codes "--mode"), values (codes "--schemes"), values (codes "--part"), positionals) refl

session_heeds : Heeds session_of
session_heeds g h positionals values = rw (values (codes "--program"), values (codes "--policy"), positionals) refl

widen_heeds : Heeds widen_of
widen_heeds g h positionals values = rw (values (codes "--whole"), values (codes "--part"), positionals) refl

cards_heeds : Heeds cards_of
cards_heeds g h positionals values = rw (positionals) refl

pairs_heeds : Heeds pairs_of
pairs_heeds g h positionals values = rw (positionals) refl

lines_heeds : Heeds lines_of
lines_heeds g h positionals values = rw (values (codes "--most"), values (codes "--apart"), positionals) refl

bugs_heeds : Heeds bugs_of
bugs_heeds g h positionals values = rw (values (codes "--most"), values (codes "--also"), positionals) refl

-- `bank` takes no positional
bank_with : List (List ℕ) → Given → Option Command
bank_with words given = do
  rate ← number_wanted 1 65536 (value_of (codes "--rate") given.options)
  count ← number_wanted 1 65536 (value_of (codes "--count") given.options)
  seed ← number_wanted 0 18446744073709551615 (value_of (codes "--seed") given.options)
  stream ← number_or 0 0 18446744073709551615 (value_of (codes "--stream") given.options)
  none ← no_positional words given
  Some (Bank (record { rate = rate; count = count; seed = seed; stream = stream }))

bank_same : (words : List (List ℕ)) (g h : Given) → SameValues g h → bank_with words g ≡ bank_with words h
unfolding bank_with
bank_same [] g h values = rw (values (codes "--rate"), values (codes "--count"), values (codes "--seed"), values (codes "--stream")) refl
bank_same (word ∷ more) g h values = rw (values (codes "--rate"), values (codes "--count"), values (codes "--seed"), values (codes "--stream")) refl

bank_heeds : Heeds bank_of
unfolding bank_with
bank_heeds g h positionals values = bank_same g.positionals g h values ∙ ap (λ words. bank_with words h) positionals

-- what is asked of the words first
bound : (f : Given → Option Command) (a b : Option Given) → Heeds f → SaySame a b → (a >>= f) ≡ (b >>= f)
bound f None None heeds same = refl
bound f None (Some h) heeds same = absurd same
bound f (Some g) None heeds same = absurd same
bound f (Some g) (Some h) heeds same = heeds g h same.0 same.1

choose : (b : Bool) (x y u v : Option Command) → x ≡ y → u ≡ v → (if b then x else u) ≡ (if b then y else v)
choose true x y u v e d = e
choose false x y u v e d = d

abbrev pub Said : List (List ℕ) → List (List ℕ) → Type 0
Said one two = (names : List (List ℕ)) → SaySame (given_after names one) (given_after names two)

listing_same : (name : List ℕ) (one two : List (List ℕ)) → Said one two → listing_command_in name one ≡ listing_command_in name two
unfolding listing_command_in
listing_same name one two same =
    choose (is_word name (codes "lines")) _ _ _ _ (bound lines_of (given_after lines_options one) (given_after lines_options two) lines_heeds (same lines_options))
    (choose (is_word name (codes "bugs")) _ _ _ _ (bound bugs_of (given_after bugs_options one) (given_after bugs_options two) bugs_heeds (same bugs_options)) refl)

later_same : (name : List ℕ) (one two : List (List ℕ)) → Said one two → later_command_in name one ≡ later_command_in name two
unfolding later_command_in
later_same name one two same =
    choose (is_word name (codes "session")) _ _ _ _ (bound session_of (given_after session_options one) (given_after session_options two) session_heeds (same session_options))
    (choose (is_word name (codes "widen")) _ _ _ _ (bound widen_of (given_after widen_options one) (given_after widen_options two) widen_heeds (same widen_options))
    (choose (is_word name (codes "runs")) _ _ _ _ (bound listed_runs_of (given_after runs_options one) (given_after runs_options two) runs_heeds (same runs_options))
    (choose (is_word name (codes "cards")) _ _ _ _ (bound cards_of (given_after no_options one) (given_after no_options two) cards_heeds (same no_options))
    (choose (is_word name (codes "pairs")) _ _ _ _ (bound pairs_of (given_after no_options one) (given_after no_options two) pairs_heeds (same no_options))
    (listing_same name one two same)))))

command_same : (name : List ℕ) (one two : List (List ℕ)) → Said one two → command_in name one ≡ command_in name two
unfolding command_in
command_same name one two same =
    choose (is_word name (codes "run")) _ _ _ _ (bound run_of (given_after run_options one) (given_after run_options two) run_heeds (same run_options))
    (choose (is_word name (codes "bank")) _ _ _ _ (bound bank_of (given_after bank_options one) (given_after bank_options two) bank_heeds (same bank_options))
    (choose (is_word name (codes "collect")) _ _ _ _ (bound collect_of (given_after collect_options one) (given_after collect_options two) collect_heeds (same collect_options))
    (choose (is_word name (codes "rank")) _ _ _ _ (bound rank_of (given_after rank_options one) (given_after rank_options two) rank_heeds (same rank_options))
    (choose (is_word name (codes "study")) _ _ _ _ (bound study_of (given_after study_options one) (given_after study_options two) study_heeds (same study_options))
    (choose (is_word name (codes "transform")) _ _ _ _ (bound transform_of (given_after transform_options one) (given_after transform_options two) transform_heeds (same transform_options))
    (later_same name one two same))))))

pub taken_as_said : CommandsTakeWhatIsSaid
taken_as_said one two same tool command = command_same command one two same

pub stays : CommandStays
stays name value other its one two before after given is its_is whole tool command =
    command_same command (before ++ (one ++ (two ++ after))) (before ++ (two ++ (one ++ after))) (λ names. change_places names name value other its one two before after given is its_is whole)
