-- What the rule on words says of a command line, in a user's terms.
use Rattle.std.specs.Prelude.{◌≡◌, ℕ, true, false, List, [], ◌∷◌, ◌++◌, Option, None, Some, ◌⊎◌, codes}
use Rattle.std.specs.Option.{option_map}
use Rattle.std.specs.List.{All}
use Rattle.cbi_options.specs.declared.given.Given.{Given}
use Rattle.cbi_options.specs.declared.given.Shape.TheVariants as shape
use Rattle.cbi_options.specs.Options.{value_of}
use Rattle.cbi_options.specs.WordRule.{given_by_words, has_value, is_value, shape_of}
use Rattle.cbi_words.specs.BadValue.{bad_value}
use Rattle.cbi_words.specs.Reading.{given_after, command_of_words}

-- a name of an option that has no value behind a `=`
abbrev pub IsOptionName : List ℕ → Type 0
IsOptionName name = (shape_of name ≡ shape.Option) × (has_value name ≡ false)

-- an option with its value, as one word with a `=`
abbrev pub joined_option : List ℕ → List ℕ → List ℕ
joined_option name value = name ++ 61 ∷ value

-- the words of an option with its value: `--name=value`, or `--name value` where the value doesn't begin with `-`, or is `-` alone
abbrev pub IsOption : List ℕ → List ℕ → List (List ℕ) → Type 0
IsOption name value words =
    IsOptionName name × ((words ≡ joined_option name value ∷ []) ⊎ ((words ≡ name ∷ value ∷ []) × (is_value value ≡ true)))

-- the word isn't `--`
abbrev pub GoesOn : List ℕ → Type 0
GoesOn word = shape_of word ≡ shape.End → ⊥

-- what is given first, and what behind it
abbrev pub given_together : Given → Given → Given
given_together first more = record { options = first.options ++ more.options; positionals = first.positionals ++ more.positionals }

-- words that give something by themselves, so that no option waits for its value, and that don't end the options
pub record AreWhole (words : List (List ℕ)) (given : Given) : Type 0 where
  pub goes_on : All GoesOn words
  pub gives : given_by_words None words ≡ Some given

abbrev pub ReadInOrder : Type 0
ReadInOrder =
    (before after : List (List ℕ)) (given : Given) → AreWhole before given
    → given_by_words None (before ++ after) ≡ option_map (given_together given) (given_by_words None after)

abbrev pub EndEndsOptions : Type 0
EndEndsOptions =
    (before after : List (List ℕ)) (given : Given) → AreWhole before given →
    given_by_words None (before ++ codes "--" ∷ after) ≡ Some (record given { positionals = given.positionals ++ after })

abbrev pub JoinedReadsAlike : Type 0
JoinedReadsAlike =
    (name value : List ℕ) (before after : List (List ℕ)) → IsOptionName name → is_value value ≡ true → All GoesOn before →
    given_by_words None (before ++ joined_option name value ∷ after) ≡ given_by_words None (before ++ name ∷ value ∷ after)

abbrev pub OptionsStandAnywhere : Type 0
OptionsStandAnywhere =
    (name value word : List ℕ) (option before after : List (List ℕ)) (given : Given) → IsOption name value option → shape_of word ≡ shape.Positional →
    AreWhole before given → given_by_words None (before ++ (option ++ word ∷ after)) ≡ given_by_words None (before ++ word ∷ (option ++ after))

-- both are refused, or both give the same positionals and the same value of each option
abbrev pub SaySame : Option Given → Option Given → Type 0
SaySame None None = Unit {0}
SaySame None (Some g) = ⊥
SaySame (Some g) None = ⊥
SaySame (Some g) (Some h) = (g.positionals ≡ h.positionals) × ((name : List ℕ) → value_of name g.options ≡ value_of name h.options)

abbrev pub OptionsChangePlaces : Type 0
OptionsChangePlaces =
    (names : List (List ℕ)) (name value other its : List ℕ) (one two before after : List (List ℕ)) (given : Given) →
    IsOption name value one → IsOption other its two → AreWhole before given →
    SaySame (given_after names (before ++ (one ++ (two ++ after)))) (given_after names (before ++ (two ++ (one ++ after))))

-- both are words of the same command, or of none, whatever the command's name
abbrev pub ReadAlike : List (List ℕ) → List (List ℕ) → Type 0
ReadAlike one two = (tool command : List ℕ) → command_of_words (tool ∷ command ∷ one) ≡ command_of_words (tool ∷ command ∷ two)

-- A command goes by its positionals and the values of its options: words that say the same of these read as the same command.
abbrev pub CommandsTakeWhatIsSaid : Type 0
CommandsTakeWhatIsSaid =
    (one two : List (List ℕ)) → ((names : List (List ℕ)) → SaySame (given_after names one) (given_after names two)) → ReadAlike one two

-- so the command stays where two options change places
abbrev pub CommandStays : Type 0
CommandStays =
    (name value other its : List ℕ) (one two before after : List (List ℕ)) (given : Given) → IsOption name value one → IsOption other its two →
    AreWhole before given → ReadAlike (before ++ (one ++ (two ++ after))) (before ++ (two ++ (one ++ after)))

-- where err is told of a bad value, the words read as no command
abbrev pub BadValuesAreNoCommand : Type 0
BadValuesAreNoCommand = (words : List (List ℕ)) (option : List ℕ) → bad_value words ≡ Some option → command_of_words words ≡ None
