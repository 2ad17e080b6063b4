-- Words that break the rule by a value alone read as no command.
use Rattle.std.proofs.Common.{◌≡◌, ℕ, Bool, true, false, if◌then◌else◌, List, [], ◌∷◌, Option, None, Some, inl, inr, refl}
use Rattle.std.specs.Prelude.{codes, ◌⊎◌}
use Rattle.base_lists.proofs.Options.{not_some}
use Rattle.cbi_base.specs.declared.policy.Policy.{Policy}
use Rattle.cbi_base.specs.declared.policy.Policy.TheVariants.{All}
use Rattle.cbi_base.specs.Numbers.{is_word, ◌>>=◌}
use Rattle.cbi_options.specs.declared.given.Choice.{Choice}
use Rattle.cbi_options.specs.declared.given.Given.{Given}
use Rattle.flow.specs.declared.choice.Schemes.{Schemes}
use Rattle.cbi_options.specs.Options.{number_or, number_wanted, policy_or, value_of}
use Rattle.cbi_options.specs.Schemes.{all_schemes, mode_wanted, schemes_or}
use Rattle.cbi_options.specs.Shares.{is_share, share_or, share_wanted}
use Rattle.cbi_options.specs.Values.{is_taken_if_given, is_mode, is_number, is_policy, is_schemes}
use Rattle.cbi_words.specs.declared.command.Command.{Command}
use Rattle.cbi_words.specs.BadValue.{Rule, bad_bank, bad_bugs, bad_in, bad_lines, bad_rank, bad_run, bad_runs, bad_session, bad_study, bad_transform, bad_widen, first_bad, later_bad_in, listing_bad_in}
use Rattle.cbi_words.specs.Reading.{bank_of, bank_options, bugs_of, bugs_options, command_in, given_after, later_command_in, lines_of, lines_options, listed_runs_of, listing_command_in, no_positional, only_positional, rank_of, rank_options, run_of, run_options, runs_options, session_of, session_options, study_of, study_options, transform_of, transform_options, two_words, widen_of, widen_options}
use Rattle.cbi_words_laws.specs.Laws.{BadValuesAreNoCommand}

-- one of these options is given a value that it doesn't take
abbrev pub HasBad : List Rule → List Choice → Type 0
HasBad [] options = ⊥
HasBad (rule ∷ rules) options = (is_taken_if_given rule.takes (value_of rule.name options) ≡ false) ⊎ HasBad rules options

found : (b : Bool) (rule : Rule) (more : Option (List ℕ)) (option : List ℕ) (P : Type 0) → (more ≡ Some option → P) → (if b then more else Some rule.name) ≡ Some option → (b ≡ false) ⊎ P
found true rule more option P behind e = inr (behind e)
found false rule more option P behind e = inl refl

is_bad : (rules : List Rule) (options : List Choice) (option : List ℕ) → first_bad rules options ≡ Some option → HasBad rules options
is_bad [] options option e = absurd cc
is_bad (rule ∷ rules) options option e =
    found (is_taken_if_given rule.takes (value_of rule.name options)) rule (first_bad rules options) option (HasBad rules options) (is_bad rules options option) e

no_number_or : (default least most : ℕ) (value : Option (List ℕ)) → is_taken_if_given (is_number least most) value ≡ false → number_or default least most value ≡ None
no_number_or default least most None e = absurd cc
no_number_or default least most (Some value) e = not_some _ e

no_number : (least most : ℕ) (value : Option (List ℕ)) → is_taken_if_given (is_number least most) value ≡ false → number_wanted least most value ≡ None
no_number least most None e = absurd cc
no_number least most (Some value) e = not_some _ e

no_policy : (default : Policy) (value : Option (List ℕ)) → is_taken_if_given is_policy value ≡ false → policy_or default value ≡ None
no_policy default None e = absurd cc
no_policy default (Some value) e = not_some _ e

no_mode : (value : Option (List ℕ)) → is_taken_if_given is_mode value ≡ false → mode_wanted value ≡ None
no_mode None e = absurd cc
no_mode (Some value) e = not_some _ e

no_schemes : (default : Schemes) (value : Option (List ℕ)) → is_taken_if_given is_schemes value ≡ false → schemes_or default value ≡ None
no_schemes default None e = absurd cc
no_schemes default (Some value) e = not_some _ e

first_none : {A B : Type 0} (o : Option A) (k : A → Option B) → o ≡ None → (o >>= k) ≡ None
first_none None k e = refl
first_none (Some a) k e = absurd cc

then_none : {A B : Type 0} (o : Option A) (k : A → Option B) → ((a : A) → k a ≡ None) → (o >>= k) ≡ None
then_none None k e = refl
then_none (Some a) k e = e a

no_share : (value : Option (List ℕ)) → is_taken_if_given is_share value ≡ false → share_or value ≡ None
no_share None e = absurd cc
no_share (Some value) e = first_none _ _ (not_some _ e)

no_share_wanted : (value : Option (List ℕ)) → is_taken_if_given is_share value ≡ false → share_wanted value ≡ None
no_share_wanted None e = absurd cc
no_share_wanted (Some value) e = not_some _ e

-- what is asked before the values
last : {A : Type 0} (o : Option A) (more : Option (List ℕ)) (option : List ℕ) → (o >>= λ a. more) ≡ Some option → more ≡ Some option
last None more option e = absurd cc
last (Some a) more option e = e

run_none : (g : Given) (option : List ℕ) → bad_run g ≡ Some option → run_of g ≡ None
run_none g option e = by (is_bad (record { name = codes "--turns"; takes = is_number 0 100000000 } ∷ record { name = codes "--run"; takes = is_number 1 4294967295 } ∷ []) g.options option (last (only_positional g.positionals) _ option e))
  where
    by : (is_taken_if_given (is_number 0 100000000) (value_of (codes "--turns") g.options) ≡ false) ⊎ ((is_taken_if_given (is_number 1 4294967295) (value_of (codes "--run") g.options) ≡ false) ⊎ ⊥) → run_of g ≡ None
    by (inl turns) = first_none _ _ (no_number_or 1000000 0 100000000 (value_of (codes "--turns") g.options) turns)
    by (inr (inl run)) = then_none _ _ (λ turns. first_none _ _ (no_number_or 1 1 4294967295 (value_of (codes "--run") g.options) run))
    by (inr (inr none)) = absurd none

bank_none : (g : Given) (option : List ℕ) → bad_bank g ≡ Some option → bank_of g ≡ None
bank_none g option e =
    by (is_bad (record { name = codes "--rate"; takes = is_number 1 65536 } ∷ record { name = codes "--count"; takes = is_number 1 65536 } ∷ record { name = codes "--seed"; takes = is_number 0 18446744073709551615 } ∷ record { name = codes "--stream"; takes = is_number 0 18446744073709551615 } ∷ []) g.options option (last (value_of (codes "--seed") g.options) _ option (last (value_of (codes "--count") g.options) _ option (last (value_of (codes "--rate") g.options) _ option (last (no_positional g.positionals g) _ option e)))))
  where
    by : (is_taken_if_given (is_number 1 65536) (value_of (codes "--rate") g.options) ≡ false) ⊎ ((is_taken_if_given (is_number 1 65536) (value_of (codes "--count") g.options) ≡ false)
        ⊎ ((is_taken_if_given (is_number 0 18446744073709551615) (value_of (codes "--seed") g.options) ≡ false) ⊎ ((is_taken_if_given (is_number 0 18446744073709551615) (value_of (codes "--stream") g.options) ≡ false) ⊎ ⊥))) → bank_of g ≡ None
    by (inl rate) = first_none _ _ (no_number 1 65536 (value_of (codes "--rate") g.options) rate)
    by (inr (inl count)) = then_none (number_wanted 1 65536 (value_of (codes "--rate") g.options)) _ (λ rate. first_none _ _ (no_number 1 65536 (value_of (codes "--count") g.options) count))
    by (inr (inr (inl seed))) = then_none (number_wanted 1 65536 (value_of (codes "--rate") g.options)) _ (λ rate. then_none (number_wanted 1 65536 (value_of (codes "--count") g.options)) _ (λ count. first_none _ _ (no_number 0 18446744073709551615 (value_of (codes "--seed") g.options) seed)))
    by (inr (inr (inr (inl stream)))) =
        then_none (number_wanted 1 65536 (value_of (codes "--rate") g.options)) _ (λ rate. then_none (number_wanted 1 65536 (value_of (codes "--count") g.options)) _ (λ count.
        then_none (number_wanted 0 18446744073709551615 (value_of (codes "--seed") g.options)) _ (λ seed. first_none _ _ (no_number_or 0 0 18446744073709551615 (value_of (codes "--stream") g.options) stream))))
    by (inr (inr (inr (inr none)))) = absurd none

runs_none : (g : Given) (option : List ℕ) → bad_runs g ≡ Some option → listed_runs_of g ≡ None
runs_none g option e =
    by (is_bad (record { name = codes "--rate"; takes = is_number 1 65536 } ∷ record { name = codes "--seed"; takes = is_number 0 18446744073709551615 } ∷ record { name = codes "--first"; takes = is_number 1 4294967295 } ∷ record { name = codes "--turns"; takes = is_number 0 100000000 } ∷ []) g.options option (last (value_of (codes "--seed") g.options) _ option (last (value_of (codes "--rate") g.options) _ option (last (value_of (codes "--inputs") g.options) _ option (last (only_positional g.positionals) _ option e)))))
  where
    by : (is_taken_if_given (is_number 1 65536) (value_of (codes "--rate") g.options) ≡ false) ⊎ ((is_taken_if_given (is_number 0 18446744073709551615) (value_of (codes "--seed") g.options) ≡ false)
        ⊎ ((is_taken_if_given (is_number 1 4294967295) (value_of (codes "--first") g.options) ≡ false) ⊎ ((is_taken_if_given (is_number 0 100000000) (value_of (codes "--turns") g.options) ≡ false) ⊎ ⊥))) → listed_runs_of g ≡ None
    by (inl rate) = then_none (value_of (codes "--inputs") g.options) _ (λ inputs. first_none _ _ (no_number 1 65536 (value_of (codes "--rate") g.options) rate))
    by (inr (inl seed)) = then_none (value_of (codes "--inputs") g.options) _ (λ inputs. then_none (number_wanted 1 65536 (value_of (codes "--rate") g.options)) _ (λ rate. first_none _ _ (no_number 0 18446744073709551615 (value_of (codes "--seed") g.options) seed)))
    by (inr (inr (inl first))) =
        then_none (value_of (codes "--inputs") g.options) _ (λ inputs. then_none (number_wanted 1 65536 (value_of (codes "--rate") g.options)) _ (λ rate. then_none (number_wanted 0 18446744073709551615 (value_of (codes "--seed") g.options)) _ (λ seed.
        first_none _ _ (no_number_or 1 1 4294967295 (value_of (codes "--first") g.options) first))))
    by (inr (inr (inr (inl turns)))) =
        then_none (value_of (codes "--inputs") g.options) _ (λ inputs. then_none (number_wanted 1 65536 (value_of (codes "--rate") g.options)) _ (λ rate. then_none (number_wanted 0 18446744073709551615 (value_of (codes "--seed") g.options)) _ (λ seed.
        then_none (number_or 1 1 4294967295 (value_of (codes "--first") g.options)) _ (λ first. first_none _ _ (no_number_or 1000000 0 100000000 (value_of (codes "--turns") g.options) turns)))))
    by (inr (inr (inr (inr none)))) = absurd none

rank_none : (g : Given) (option : List ℕ) → bad_rank g ≡ Some option → rank_of g ≡ None
rank_none g option e = by (is_bad (record { name = codes "--policy"; takes = is_policy } ∷ []) g.options option (last (two_words g.positionals) _ option e))
  where
    by : (is_taken_if_given is_policy (value_of (codes "--policy") g.options) ≡ false) ⊎ ⊥ → rank_of g ≡ None
    by (inl policy) = first_none _ _ (no_policy All (value_of (codes "--policy") g.options) policy)
    by (inr none) = absurd none

study_none : (g : Given) (option : List ℕ) → bad_study g ≡ Some option → study_of g ≡ None
study_none g option e =
    by (is_bad (record { name = codes "--runs"; takes = is_number 1 100000 } ∷ record { name = codes "--seed"; takes = is_number 0 18446744073709551615 } ∷ record { name = codes "--rate"; takes = is_number 1 65536 } ∷ record { name = codes "--turns"; takes = is_number 0 100000000 } ∷ record { name = codes "--policy"; takes = is_policy } ∷ []) g.options option (last (value_of (codes "--turns") g.options) _ option (last (value_of (codes "--rate") g.options) _ option (last (value_of (codes "--seed") g.options) _ option (last (value_of (codes "--runs") g.options) _ option (last (only_positional g.positionals) _ option e))))))
  where
    by : (is_taken_if_given (is_number 1 100000) (value_of (codes "--runs") g.options) ≡ false) ⊎ ((is_taken_if_given (is_number 0 18446744073709551615) (value_of (codes "--seed") g.options) ≡ false)
        ⊎ ((is_taken_if_given (is_number 1 65536) (value_of (codes "--rate") g.options) ≡ false) ⊎ ((is_taken_if_given (is_number 0 100000000) (value_of (codes "--turns") g.options) ≡ false)
        ⊎ ((is_taken_if_given is_policy (value_of (codes "--policy") g.options) ≡ false) ⊎ ⊥)))) → study_of g ≡ None
    by (inl runs) = first_none _ _ (no_number 1 100000 (value_of (codes "--runs") g.options) runs)
    by (inr (inl seed)) = then_none (number_wanted 1 100000 (value_of (codes "--runs") g.options)) _ (λ runs. first_none _ _ (no_number 0 18446744073709551615 (value_of (codes "--seed") g.options) seed))
    by (inr (inr (inl rate))) = then_none (number_wanted 1 100000 (value_of (codes "--runs") g.options)) _ (λ runs. then_none (number_wanted 0 18446744073709551615 (value_of (codes "--seed") g.options)) _ (λ seed. first_none _ _ (no_number 1 65536 (value_of (codes "--rate") g.options) rate)))
    by (inr (inr (inr (inl turns)))) = then_none (number_wanted 1 100000 (value_of (codes "--runs") g.options)) _ (λ runs. then_none (number_wanted 0 18446744073709551615 (value_of (codes "--seed") g.options)) _ (λ seed. then_none (number_wanted 1 65536 (value_of (codes "--rate") g.options)) _ (λ rate. first_none _ _ (no_number 0 100000000 (value_of (codes "--turns") g.options) turns))))
    by (inr (inr (inr (inr (inl policy))))) =
        then_none (number_wanted 1 100000 (value_of (codes "--runs") g.options)) _ (λ runs. then_none (number_wanted 0 18446744073709551615 (value_of (codes "--seed") g.options)) _ (λ seed. then_none (number_wanted 1 65536 (value_of (codes "--rate") g.options)) _ (λ rate. then_none (number_wanted 0 100000000 (value_of (codes "--turns") g.options)) _ (λ turns. first_none _ _ (no_policy All (value_of (codes "--policy") g.options) policy)))))
    by (inr (inr (inr (inr (inr none))))) = absurd none

transform_none : (g : Given) (option : List ℕ) → bad_transform g ≡ Some option → transform_of g ≡ None
transform_none g option e = by (is_bad (record { name = codes "--mode"; takes = is_mode } ∷ record { name = codes "--schemes"; takes = is_schemes } ∷ record { name = codes "--part"; takes = is_share } ∷ []) g.options option (last (value_of (codes "--mode") g.options) _ option (last (only_positional g.positionals) _ option e)))
  where
    by : (is_taken_if_given is_mode (value_of (codes "--mode") g.options) ≡ false) ⊎ ((is_taken_if_given is_schemes (value_of (codes "--schemes") g.options) ≡ false) ⊎ ((is_taken_if_given is_share (value_of (codes "--part") g.options) ≡ false) ⊎ ⊥)) → transform_of g ≡ None
    by (inl mode) = first_none _ _ (no_mode (value_of (codes "--mode") g.options) mode)
    by (inr (inl schemes)) = then_none (mode_wanted (value_of (codes "--mode") g.options)) _ (λ mode. first_none _ _ (no_schemes all_schemes (value_of (codes "--schemes") g.options) schemes))
    by (inr (inr (inl part))) = then_none (mode_wanted (value_of (codes "--mode") g.options)) _ (λ mode. then_none (schemes_or all_schemes (value_of (codes "--schemes") g.options)) _ (λ schemes. first_none _ _ (no_share (value_of (codes "--part") g.options) part)))
    by (inr (inr (inr none))) = absurd none

session_none : (g : Given) (option : List ℕ) → bad_session g ≡ Some option → session_of g ≡ None
session_none g option e = by (is_bad (record { name = codes "--policy"; takes = is_policy } ∷ []) g.options option (last (value_of (codes "--program") g.options) _ option (last (only_positional g.positionals) _ option e)))
  where
    by : (is_taken_if_given is_policy (value_of (codes "--policy") g.options) ≡ false) ⊎ ⊥ → session_of g ≡ None
    by (inl policy) = then_none _ _ (λ program. first_none _ _ (no_policy All (value_of (codes "--policy") g.options) policy))
    by (inr none) = absurd none

widen_none : (g : Given) (option : List ℕ) → bad_widen g ≡ Some option → widen_of g ≡ None
widen_none g option e = by (is_bad (record { name = codes "--part"; takes = is_share } ∷ []) g.options option (last (value_of (codes "--part") g.options) _ option (last (value_of (codes "--whole") g.options) _ option (last (two_words g.positionals) _ option e))))
  where
    by : (is_taken_if_given is_share (value_of (codes "--part") g.options) ≡ false) ⊎ ⊥ → widen_of g ≡ None
    by (inl part) = then_none _ _ (λ whole. first_none _ _ (no_share_wanted (value_of (codes "--part") g.options) part))
    by (inr none) = absurd none

lines_none : (g : Given) (option : List ℕ) → bad_lines g ≡ Some option → lines_of g ≡ None
lines_none g option e = by (is_bad (record { name = codes "--most"; takes = is_number 1 1000 } ∷ record { name = codes "--apart"; takes = is_number 0 100 } ∷ []) g.options option (last (two_words g.positionals) _ option e))
  where
    by : (is_taken_if_given (is_number 1 1000) (value_of (codes "--most") g.options) ≡ false) ⊎ ((is_taken_if_given (is_number 0 100) (value_of (codes "--apart") g.options) ≡ false) ⊎ ⊥) → lines_of g ≡ None
    by (inl most) = first_none _ _ (no_number_or 10 1 1000 (value_of (codes "--most") g.options) most)
    by (inr (inl apart)) = then_none (number_or 10 1 1000 (value_of (codes "--most") g.options)) _ (λ most. first_none _ _ (no_number_or 3 0 100 (value_of (codes "--apart") g.options) apart))
    by (inr (inr none)) = absurd none

bugs_none : (g : Given) (option : List ℕ) → bad_bugs g ≡ Some option → bugs_of g ≡ None
bugs_none g option e = by (is_bad (record { name = codes "--most"; takes = is_number 1 1000 } ∷ record { name = codes "--also"; takes = is_number 1 100 } ∷ []) g.options option (last (two_words g.positionals) _ option e))
  where
    by : (is_taken_if_given (is_number 1 1000) (value_of (codes "--most") g.options) ≡ false) ⊎ ((is_taken_if_given (is_number 1 100) (value_of (codes "--also") g.options) ≡ false) ⊎ ⊥) → bugs_of g ≡ None
    by (inl most) = first_none _ _ (no_number_or 10 1 1000 (value_of (codes "--most") g.options) most)
    by (inr (inl also)) = then_none (number_or 10 1 1000 (value_of (codes "--most") g.options)) _ (λ most. first_none _ _ (no_number_or 3 1 100 (value_of (codes "--also") g.options) also))
    by (inr (inr none)) = absurd none

-- by the command's name
asked_none : (a : Option Given) (bad : Given → Option (List ℕ)) (f : Given → Option Command) (option : List ℕ) → ((g : Given) (option : List ℕ) → bad g ≡ Some option → f g ≡ None) →
    (a >>= bad) ≡ Some option → (a >>= f) ≡ None
asked_none None bad f option none e = refl
asked_none (Some g) bad f option none e = none g option e

by_name : (b : Bool) (x u : Option (List ℕ)) (y v : Option Command) (option : List ℕ) → (x ≡ Some option → y ≡ None) → (u ≡ Some option → v ≡ None) →
    (if b then x else u) ≡ Some option → (if b then y else v) ≡ None
by_name true x u y v option here there e = here e
by_name false x u y v option here there e = there e

listing_none : (name : List ℕ) (words : List (List ℕ)) (option : List ℕ) → listing_bad_in name words ≡ Some option → listing_command_in name words ≡ None
unfolding listing_bad_in listing_command_in
listing_none name words option e =
    by_name (is_word name (codes "lines")) _ _ _ _ option (asked_none (given_after lines_options words) bad_lines lines_of option lines_none)
    (by_name (is_word name (codes "bugs")) _ _ _ _ option (asked_none (given_after bugs_options words) bad_bugs bugs_of option bugs_none) (λ none. absurd cc)) e

later_none : (name : List ℕ) (words : List (List ℕ)) (option : List ℕ) → later_bad_in name words ≡ Some option → later_command_in name words ≡ None
unfolding later_bad_in later_command_in
later_none name words option e =
    by_name (is_word name (codes "session")) _ _ _ _ option (asked_none (given_after session_options words) bad_session session_of option session_none)
    (by_name (is_word name (codes "widen")) _ _ _ _ option (asked_none (given_after widen_options words) bad_widen widen_of option widen_none)
    (by_name (is_word name (codes "runs")) _ _ _ _ option (asked_none (given_after runs_options words) bad_runs listed_runs_of option runs_none)
    (by_name (is_word name (codes "cards")) _ _ _ _ option (λ none. absurd cc)
    (by_name (is_word name (codes "pairs")) _ _ _ _ option (λ none. absurd cc)
    (listing_none name words option))))) e

command_none : (name : List ℕ) (words : List (List ℕ)) (option : List ℕ) → bad_in name words ≡ Some option → command_in name words ≡ None
unfolding bad_in command_in
command_none name words option e =
    by_name (is_word name (codes "run")) _ _ _ _ option (asked_none (given_after run_options words) bad_run run_of option run_none)
    (by_name (is_word name (codes "bank")) _ _ _ _ option (asked_none (given_after bank_options words) bad_bank bank_of option bank_none)
    (by_name (is_word name (codes "collect")) _ _ _ _ option (λ none. absurd cc)
    (by_name (is_word name (codes "rank")) _ _ _ _ option (asked_none (given_after rank_options words) bad_rank rank_of option rank_none)
    (by_name (is_word name (codes "study")) _ _ _ _ option (asked_none (given_after study_options words) bad_study study_of option study_none)
    (by_name (is_word name (codes "transform")) _ _ _ _ option (asked_none (given_after transform_options words) bad_transform transform_of option transform_none)
    (later_none name words option)))))) e

pub no_command : BadValuesAreNoCommand
no_command [] option e = absurd cc
no_command (tool ∷ []) option e = refl
no_command (tool ∷ name ∷ words) option e = command_none name words option e
