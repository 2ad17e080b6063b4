-- What the values of `--mode` and `--schemes` say.
use Rattle.std.specs.Prelude.{ℕ, Bool, true, false, ◌&&◌, ◌==◌, not, if◌then◌else◌, List, [], ◌∷◌, Option, None, Some, codes}
use Rattle.std.specs.List.{slice_split}
use Rattle.cbi_base.specs.Numbers.{is_word, ◌>>=◌}
use Rattle.cbi_options.specs.declared.schemes.Mode.{Mode}
use Rattle.cbi_options.specs.declared.schemes.Mode.TheVariants.{Plain, Full, Sampled}
use Rattle.flow.specs.declared.choice.Schemes.{Schemes}

-- the mode that a value names
abbrev pub mode_of : List ℕ → Option Mode
mode_of value =
    if is_word value (codes "plain") then Some Plain
    else (if is_word value (codes "full") then Some Full
    else (if is_word value (codes "sampled") then Some Sampled else None))

abbrev pub mode_wanted : Option (List ℕ) → Option Mode
mode_wanted given = given >>= mode_of

abbrev pub no_schemes : Schemes
no_schemes = record { branches = false; returns = false; pairs = false }

abbrev pub all_schemes : Schemes
all_schemes = record { branches = true; returns = true; pairs = true }

-- one more scheme, by its name; none where no scheme has the name, or it is there already
abbrev pub with_scheme : List ℕ → Schemes → Option Schemes
with_scheme name s =
    if is_word name (codes "branches") && not s.branches then Some (record s { branches = true })
    else (if is_word name (codes "returns") && not s.returns then Some (record s { returns = true })
    else (if is_word name (codes "pairs") && not s.pairs then Some (record s { pairs = true }) else None))

abbrev pub with_schemes : List (List ℕ) → Schemes → Option Schemes
with_schemes [] s = Some s
with_schemes (name ∷ more) s = with_scheme name s >>= with_schemes more

-- the names of a list, with commas between them
abbrev pub is_comma : ℕ → Bool
is_comma b = b == 44

abbrev pub names_in : List ℕ → List (List ℕ)
names_in value = slice_split is_comma value

-- the schemes that a value lists, each at most once
abbrev pub schemes_in : List ℕ → Option Schemes
schemes_in value = with_schemes (names_in value) no_schemes

-- the schemes that an option lists, or others where it isn't given
abbrev pub schemes_or : Schemes → Option (List ℕ) → Option Schemes
schemes_or default None = Some default
schemes_or default (Some value) = schemes_in value
