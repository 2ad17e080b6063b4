-- The declarations that stand before a point of a text and whose scopes hold there (C99 6.2.1).
use Rattle.std.specs.Prelude.{◌≡◌, ◌⊎◌, ℕ, ◌+◌, Bool, if◌then◌else◌, IsSome, List, [], ◌∷◌, Option, Some, None, option_map}
use Rattle.std.specs.Str.{bytes_eq}
use Rattle.c_types_rules.specs.declared.layout.StructType.{StructType}
use Rattle.c_types_rules.specs.Library.{library_named}
use Rattle.c_types_faults.specs.Known.{Entity, Standard, Known}

pub record Declared : Type 0 where
  pub name : List ℕ
  pub entity : Entity

pub record Tagged : Type 0 where
  pub tag : List ℕ
  pub number : ℕ

-- The declarations of the innermost scope, the latest first, those of the scopes around it, from within, and the tags. Beside them: the structs that
-- are complete, how many cells the globals so far have together, and the names of the functions that were defined.
pub record Context : Type 0 where
  pub scope : List Declared
  pub outer : List (List Declared)
  pub tags : List Tagged
  pub structs : List StructType
  pub cells : ℕ
  pub defined : List (List ℕ)

-- before a text
abbrev pub empty_context : Context
empty_context = record { scope = []; outer = []; tags = []; structs = []; cells = 0; defined = [] }

abbrev pub or_else : {A : Type 0} → Option A → Option A → Option A
or_else None other = other
or_else (Some x) other = Some x

abbrev pub declared_in : List ℕ → List Declared → Option Entity
declared_in name [] = None
declared_in name (d ∷ ds) = if bytes_eq d.name name then Some d.entity else declared_in name ds

-- An inner scope hides the outer ones (6.2.1p4). The functions of the library stand around the text.
abbrev pub denoted_entity : List ℕ → List (List Declared) → Option Entity
denoted_entity name [] = option_map Standard (library_named name)
denoted_entity name (scope ∷ outer) = or_else (declared_in name scope) (denoted_entity name outer)

abbrev pub tag_in : List ℕ → List Tagged → Option ℕ
tag_in tag [] = None
tag_in tag (d ∷ ds) = if bytes_eq d.tag tag then Some d.number else tag_in tag ds

abbrev pub known_identifiers : Context → Known
known_identifiers c = record { ordinary = λ name. denoted_entity name (c.scope ∷ c.outer); tags = λ tag. tag_in tag c.tags; structs = c.structs }

-- behind a declarator (6.2.1p7)
abbrev pub name_declared : List ℕ → Entity → Context → Context
name_declared name x c = record c { scope = record { name = name; entity = x } ∷ c.scope }

-- a scope begins
abbrev pub inner_context : Context → Context
inner_context c = record c { scope = []; outer = c.scope ∷ c.outer }

-- so many cells of a global more
abbrev pub global_cells_added : Bool → ℕ → Context → Context
global_cells_added global cells c = if global then record c { cells = c.cells + cells } else c

abbrev pub HasName : List ℕ → List Declared → Type 0
HasName name [] = ⊥
HasName name (d ∷ ds) = (d.name ≡ name) ⊎ HasName name ds

abbrev pub IsReserved : List ℕ → Type 0
IsReserved name = IsSome (library_named name)

-- a name of the library (7.1.3), or one that the innermost scope declares (6.7p3)
abbrev pub IsTaken : List ℕ → Context → Type 0
IsTaken name c = IsReserved name ⊎ HasName name c.scope
