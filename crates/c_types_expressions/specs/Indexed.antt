-- The names in scope, as they are looked up: each name has its declarations, and each of those the number of scopes around it.
use Rattle.std.specs.Prelude.{◌≡◌, ℕ, ◌+◌, ◌-◌, Bool, if◌then◌else◌, List, [], ◌∷◌, ◌++◌, length, take, slice_get, Vec, Option, Some, None}
use Rattle.std.specs.Global.{Global}
use Rattle.std.specs.Map.{lookup}
use Rattle.std.specs.Str.{bytes_eq}
use Rattle.c_types_expressions.specs.declared.index.Index.{Index}
use Rattle.c_types_expressions.specs.declared.index.ScopedMeaning.{ScopedMeaning}
use Rattle.c_types_expressions.specs.declared.names.ScopeEntry.{ScopeEntry}
use Rattle.c_types_expressions.specs.declared.names.ScopeEntry.TheVariants.{Opens, Declares}

-- how many scopes were opened
abbrev pub depth_of : List ScopeEntry → ℕ
depth_of [] = 0
depth_of (Opens ∷ rest) = depth_of rest + 1
depth_of (Declares name m ∷ rest) = depth_of rest

-- the declarations of a name, the latest last
abbrev pub declarations : List ℕ → List ScopeEntry → List ScopedMeaning
declarations name [] = []
declarations name (Opens ∷ rest) = declarations name rest
declarations name (Declares other m ∷ rest) =
    if bytes_eq other name then declarations name rest ++ record { depth = depth_of rest; meaning = m } ∷ [] else declarations name rest

abbrev pub Stacks : Type 0
Stacks = List (Vec ℕ Global × Vec ScopedMeaning Global)

abbrev pub is_key : List ℕ → Vec ℕ Global → Bool
is_key name key = bytes_eq name key.items

abbrev pub stack_in : Option (Vec ScopedMeaning Global) → List ScopedMeaning
stack_in None = []
stack_in (Some stack) = stack.items

-- what is kept of a name
abbrev pub stack_of : Stacks → List ℕ → List ScopedMeaning
stack_of stacks name = stack_in (lookup (is_key name) stacks)

abbrev pub last_of : List ScopedMeaning → Option ScopedMeaning
last_of ms = slice_get ms (length ms - 1)

abbrev pub but_last : List ScopedMeaning → List ScopedMeaning
but_last ms = take (length ms - 1) ms

abbrev pub IsPushed : List ℕ → ScopedMeaning → Stacks → Stacks → Type 0
IsPushed name m old new = (other : List ℕ) → stack_of new other ≡ (if bytes_eq name other then stack_of old other ++ m ∷ [] else stack_of old other)

abbrev pub IsPopped : List ℕ → Stacks → Stacks → Type 0
IsPopped name old new = (other : List ℕ) → stack_of new other ≡ (if bytes_eq name other then but_last (stack_of old other) else stack_of old other)

abbrev pub IsSame : Stacks → Stacks → Type 0
IsSame old new = (name : List ℕ) → stack_of new name ≡ stack_of old name

-- each name has its declarations, and the scopes are counted
pub record IsIndex (entries : List ScopeEntry) (index : Index) : Type 0 where
  pub numbered : index.depth ≡ depth_of entries
  pub stacked : (name : List ℕ) → stack_of index.stacks.entries name ≡ declarations name entries
