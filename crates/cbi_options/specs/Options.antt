-- What the given options say: which may be given, and what they give.
use Rattle.std.specs.Prelude.{ℕ, Bool, true, ◌&&◌, not, if◌then◌else◌, nat_le, List, [], ◌∷◌, Option, None, Some, codes}
use Rattle.std.specs.Option.{option_map}
use Rattle.std.specs.List.{list_any, list_all, find}
use Rattle.cbi_base.specs.declared.policy.Policy.{Policy}
use Rattle.cbi_base.specs.declared.policy.Policy.TheVariants.{All, Failing, Relabel}
use Rattle.cbi_base.specs.Numbers.{is_word, number_of, ◌>>=◌}
use Rattle.cbi_options.specs.declared.given.Choice.{Choice}
use Rattle.cbi_options.specs.declared.given.Given.{Given}

-- the name is one of these
abbrev pub is_one_of : List (List ℕ) → List ℕ → Bool
is_one_of names name = list_any (λ known. is_word known name) names

-- one of the options has this name
abbrev pub has_name : List ℕ → List Choice → Bool
has_name name options = list_any (λ option. is_word option.name name) options

-- no option comes twice
abbrev pub are_single : List Choice → Bool
are_single [] = true
are_single (option ∷ more) = not (has_name option.name more) && are_single more

-- each option is one of these, and none comes twice
abbrev pub are_asked : List (List ℕ) → Given → Bool
are_asked names given = list_all (λ option. is_one_of names option.name) given.options && are_single given.options

-- the value of the option with this name
abbrev pub value_of : List ℕ → List Choice → Option (List ℕ)
value_of name options = option_map (λ option. option.value) (find (λ option. is_word option.name name) options)

-- the number that a value spells, where it lies in these bounds
abbrev pub number_within : ℕ → ℕ → List ℕ → Option ℕ
number_within least most value = number_of most value >>= λ n. if nat_le least n then Some n else None

-- the number that an option gives, or another one where it isn't given
abbrev pub number_or : ℕ → ℕ → ℕ → Option (List ℕ) → Option ℕ
number_or default least most None = Some default
number_or default least most (Some value) = number_within least most value

-- the number of an option that must be given
abbrev pub number_wanted : ℕ → ℕ → Option (List ℕ) → Option ℕ
number_wanted least most given = given >>= number_within least most

-- the policy that a value names
abbrev pub policy_of : List ℕ → Option Policy
policy_of value =
    if is_word value (codes "all") then Some All
    else (if is_word value (codes "failing") then Some Failing
    else (if is_word value (codes "relabel") then Some Relabel else None))

-- the policy that an option gives, or another one where it isn't given
abbrev pub policy_or : Policy → Option (List ℕ) → Option Policy
policy_or default None = Some default
policy_or default (Some value) = policy_of value
