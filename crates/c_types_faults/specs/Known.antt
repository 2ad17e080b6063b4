-- What the identifiers of a text denote at a point of it (C99 6.2.1p1, 6.2.3).
use Rattle.std.specs.Prelude.{ℕ, List, Option}
use Rattle.c_types_rules.specs.declared.function.FunctionType.{FunctionType}
use Rattle.c_types_rules.specs.declared.layout.StructType.{StructType}
use Rattle.c_types_rules.specs.declared.library.Library.{Library}
use Rattle.c_types_rules.specs.TypeTree.{TypeTree}

-- an object, a function of the text, or one of the library
pub data Entity : Type 0 where
  Object : (of : TypeTree) → Entity
  Function : (of : FunctionType) → Entity
  Standard : (function : Library) → Entity

-- An ordinary identifier denotes an entity, or isn't declared in any scope that holds there; a tag denotes a struct, by its number in the order of
-- their definitions. The structs are those that are complete there.
pub record Known : Type 0 where
  pub ordinary : List ℕ → Option Entity
  pub tags : List ℕ → Option ℕ
  pub structs : List StructType
