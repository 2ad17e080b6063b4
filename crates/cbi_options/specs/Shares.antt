-- What the value of `--part` says: a part of so many, `I/N`.
use Rattle.std.specs.Prelude.{ℕ, Bool, ◌==◌, if◌then◌else◌, nat_lt, List, Option, None, Some, is_some}
use Rattle.std.specs.List.{list_any, before_first, after_first}
use Rattle.cbi_base.specs.Numbers.{number_of, ◌>>=◌}
use Rattle.flow.specs.declared.choice.Part.{Part}

abbrev pub is_slash : ℕ → Bool
is_slash b = b == 47

abbrev pub has_slash : List ℕ → Bool
has_slash value = list_any is_slash value

abbrev pub share_with : ℕ → ℕ → Option Part
share_with index count = if nat_lt index count then Some (record { index = index; count = count }) else None

-- the share that a value spells: two decimals with a slash between them, the first less than the second
abbrev pub share_of : List ℕ → Option Part
share_of value =
    if has_slash value
    then (number_of 65535 (before_first is_slash value) >>= λ index. number_of 65536 (after_first is_slash value) >>= share_with index)
    else None

abbrev pub is_share : List ℕ → Bool
is_share value = is_some (share_of value)

-- the share that an option gives, where it is given
abbrev pub share_or : Option (List ℕ) → Option (Option Part)
share_or None = Some None
share_or (Some value) = share_of value >>= λ share. Some (Some share)

-- the share of an option that must be given
abbrev pub share_wanted : Option (List ℕ) → Option Part
share_wanted given = given >>= share_of
