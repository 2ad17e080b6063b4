-- What a store holds. A store needn't tell it: then each fact on it is true. A store that told it before the call tells it after.
use Rattle.std.specs.Prelude.{◌≡◌, ◌≢◌, ℕ, ◌+◌, List, Option, Some, None, IsSome, ◌⊎◌, take}
use Rattle.std.specs.Option.{option_map}
use Rattle.std.specs.Ordering.{nat_cmp}
use Rattle.std.specs.Cmp.Lexicographic.{slice_cmp}
use Rattle.std.specs.FinMap.{FinMap, get, insert}

-- a finite map from names to bytes
abbrev pub Held : Type 0
Held = FinMap (slice_cmp nat_cmp) (List ℕ)

-- what a read of a name gives: all its bytes where they are at most max, and else the first max + 1; none where the name isn't held
abbrev pub read_of : Held → List ℕ → ℕ → Option (List ℕ)
read_of held name max = option_map (take (max + 1)) (get held name)

-- the name is held
abbrev pub IsHeld : Option Held → List ℕ → Type 0
IsHeld None name = Unit {0}
IsHeld (Some held) name = IsSome (get held name)

-- the bytes are those that a read of the name gives
abbrev pub IsReadOf : Option Held → List ℕ → ℕ → List ℕ → Type 0
IsReadOf None name max bytes = Unit {0}
IsReadOf (Some held) name max bytes = read_of held name max ≡ Some bytes

-- the name holds the bytes now, and all else is as before
abbrev pub Replaces : Option Held → Option Held → List ℕ → List ℕ → Type 0
Replaces None now name bytes = Unit {0}
Replaces (Some before) now name bytes = now ≡ Some (insert before name bytes)

-- the name holds now what it held before, or a prefix of the bytes
pub record IsKeptOrCut (before now : Held) (name bytes : List ℕ) : Type 0 where
  pub holds : (get now name ≡ get before name) ⊎ ((cut : ℕ) × (get now name ≡ Some (take cut bytes)))

abbrev pub MayReplace : Option Held → Option Held → List ℕ → List ℕ → Type 0
MayReplace None now name bytes = Unit {0}
MayReplace (Some before) None name bytes = ⊥
MayReplace (Some before) (Some now) name bytes = IsKeptOrCut before now name bytes

-- all names but this one hold what they held
pub record IsSameBut (before now : Held) (name : List ℕ) : Type 0 where
  pub others : (other : List ℕ) → other ≢ name → get now other ≡ get before other

abbrev pub OthersStay : Option Held → Option Held → List ℕ → Type 0
OthersStay None now name = Unit {0}
OthersStay (Some before) None name = ⊥
OthersStay (Some before) (Some now) name = IsSameBut before now name
