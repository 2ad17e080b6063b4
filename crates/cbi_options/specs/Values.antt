-- Which values an option takes.
use Rattle.std.specs.Prelude.{ℕ, Bool, true, List, Option, None, Some, is_some}
use Rattle.cbi_options.specs.Options.{number_within, policy_of}
use Rattle.cbi_options.specs.Schemes.{mode_of, schemes_in}

-- a number in these bounds
abbrev pub is_number : ℕ → ℕ → List ℕ → Bool
is_number least most value = is_some (number_within least most value)

-- the name of a policy
abbrev pub is_policy : List ℕ → Bool
is_policy value = is_some (policy_of value)

-- the name of a mode, and a list of schemes
abbrev pub is_mode : List ℕ → Bool
is_mode value = is_some (mode_of value)

abbrev pub is_schemes : List ℕ → Bool
is_schemes value = is_some (schemes_in value)

-- what is given is taken; so is an option that isn't given
abbrev pub is_taken_if_given : (List ℕ → Bool) → Option (List ℕ) → Bool
is_taken_if_given takes None = true
is_taken_if_given takes (Some value) = takes value
