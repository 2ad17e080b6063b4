-- The declarations of one scope.
use Rattle.std.specs.Prelude.{ℕ, List}
use Rattle.c_types_expressions.specs.declared.names.Meaning.{Meaning}
use Rattle.c_types_expressions.specs.declared.names.ScopeEntry.{ScopeEntry}
use Rattle.c_types_expressions.specs.declared.names.ScopeEntry.TheVariants.{Declares}

-- an entry that declares the name with this meaning
abbrev pub declaration_of : List ℕ × Meaning → ScopeEntry
declaration_of d = Declares d.0 d.1
