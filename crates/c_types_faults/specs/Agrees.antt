-- What the walk knows at a point, in the terms of C: which entity the meaning of a name is.
use Rattle.std.specs.Prelude.{◌≡◌, ℕ, List, Option, Some, None, slice_get}
use Rattle.c_types_rules.specs.declared.layout.StructType.{StructType}
use Rattle.c_types_rules.specs.TypeTree.{TypeTree}
use Rattle.c_types_expressions.specs.declared.names.Meaning.{Meaning}
use Rattle.c_types_expressions.specs.declared.names.Meaning.TheVariants as meaning
use Rattle.c_types_expressions.specs.declared.names.ScopeEntry.{ScopeEntry}
use Rattle.c_types_expressions.specs.declared.walk.FunctionEntry.{FunctionEntry}
use Rattle.c_types_expressions.specs.declared.walk.Walk.{Walk}
use Rattle.c_types_expressions.specs.Names.{declared_meaning, meaning_of}
use Rattle.c_types_faults.specs.Known.{Entity, Object, Function, Standard, Known}

abbrev pub IsType : Option FunctionEntry → (FunctionEntry → Type 0) → Type 0
IsType None P = ⊥
IsType (Some f) P = P f

-- of variables of these types and these functions
abbrev pub Means : List TypeTree → List FunctionEntry → Meaning → Entity → Type 0
Means types functions (meaning.Variable index) (Object of) = slice_get types index ≡ Some of
Means types functions (meaning.Function index) (Function f) = IsType (slice_get functions index) (λ g. g.ctype ≡ f)
Means types functions (meaning.Library function) (Standard other) = function ≡ other
Means types functions m x = ⊥

abbrev pub Denotes : List TypeTree → List FunctionEntry → Option Meaning → Option Entity → Type 0
Denotes types functions None None = Unit {0}
Denotes types functions (Some m) (Some x) = Means types functions m x
Denotes types functions m x = ⊥

abbrev pub IsTag : Option Meaning → Option ℕ → Type 0
IsTag None None = Unit {0}
IsTag (Some (meaning.Struct index)) (Some number) = index ≡ number
IsTag m number = ⊥

pub record AgreesOn (k : Known) (names tags : List ScopeEntry) (types : List TypeTree) (functions : List FunctionEntry) (structs : List StructType)
    : Type 0 where
  pub ordinary : (name : List ℕ) → Denotes types functions (meaning_of name names) (k.ordinary name)
  pub tagged : (tag : List ℕ) → IsTag (declared_meaning tag tags) (k.tags tag)
  pub complete : k.structs ≡ structs

-- identifiers denote what the walk knows of them
abbrev pub Agrees : Known → Walk → Type 0
Agrees k w = AgreesOn k w.names w.tags w.declared_types w.functions w.structs
