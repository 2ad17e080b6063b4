-- Which function a call is of: the definition with its name, by its number in the order of the definitions (C99 6.5.2.2).
use Rattle.std.specs.Prelude.{ℕ, ◌+◌, if◌then◌else◌, List, [], ◌∷◌, Option, Some, None}
use Rattle.std.specs.Str.{bytes_eq}
use Rattle.c_types_faults.specs.Events.{Construct, Calls}

-- the number of the name, of which the first has this one
abbrev pub name_number : List ℕ → ℕ → List (List ℕ) → Option ℕ
name_number name number [] = None
name_number name number (other ∷ rest) = if bytes_eq other name then Some number else name_number name (number + 1) rest

-- the number of the function that is called, where these are defined and the expression calls one of them
abbrev pub number_called : List (List ℕ) → Option Construct → Option ℕ
number_called names (Some (Calls name)) = name_number name 0 names
number_called names construct = None
