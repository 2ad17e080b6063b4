-- The places of suspects: a function and a line of it.
use Rattle.std.specs.Prelude.{ℕ, Bool, ◌&&◌, nat_eq, if◌then◌else◌, List, [], ◌∷◌, ◌++◌, length}
use Rattle.std.specs.List.{list_any}
use Rattle.association.specs.declared.suspect.Suspect.{Suspect}

abbrev pub place_of : Suspect → ℕ × ℕ
place_of s = (s.function, s.line)

abbrev pub is_same_place : ℕ × ℕ → ℕ × ℕ → Bool
is_same_place p q = nat_eq p.0 q.0 && nat_eq p.1 q.1

-- the places of these that don't stand before, each where it stands first
abbrev pub new_places : List (ℕ × ℕ) → List Suspect → List (ℕ × ℕ)
new_places before [] = []
new_places before (s ∷ more) =
    if list_any (is_same_place (place_of s)) before then new_places before more else place_of s ∷ new_places (before ++ place_of s ∷ []) more

-- how many places they stand at
abbrev pub place_count : List Suspect → ℕ
place_count suspects = length (new_places [] suspects)
