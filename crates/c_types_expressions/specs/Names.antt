-- The names in scope, the latest first, with a mark where each scope begins (C99 6.2.1).
use Rattle.std.specs.Prelude.{ℕ, Bool, false, ◌||◌, if◌then◌else◌, List, [], ◌∷◌, Option, Some, None, option_map, is_some}
use Rattle.std.specs.Str.{bytes_eq}
use Rattle.c_types_rules.specs.Library.{library_named}
use Rattle.c_types_expressions.specs.declared.names.ScopeEntry.{ScopeEntry}
use Rattle.c_types_expressions.specs.declared.names.ScopeEntry.TheVariants.{Opens, Declares}
use Rattle.c_types_expressions.specs.declared.names.Meaning.{Meaning}
use Rattle.c_types_expressions.specs.declared.names.Meaning.TheVariants as meaning

abbrev pub declared_as : List ℕ → ScopeEntry → Option Meaning
declared_as name Opens = None
declared_as name (Declares other m) = if bytes_eq other name then Some m else None

abbrev pub or_before : Option Meaning → Option Meaning → Option Meaning
or_before None before = before
or_before (Some m) before = Some m

-- What a name was declared as: its latest declaration that is in scope. An inner scope hides an outer one.
abbrev pub declared_meaning : List ℕ → List ScopeEntry → Option Meaning
declared_meaning name [] = None
declared_meaning name (entry ∷ rest) = or_before (declared_as name entry) (declared_meaning name rest)

-- what a name means: what it was declared as, else a function of the library
abbrev pub meaning_of : List ℕ → List ScopeEntry → Option Meaning
meaning_of name entries = or_before (declared_meaning name entries) (option_map meaning.Library (library_named name))

-- whether the name is declared in the latest scope
abbrev pub is_here : List ℕ → List ScopeEntry → Bool
is_here name [] = false
is_here name (Opens ∷ rest) = false
is_here name (Declares other m ∷ rest) = bytes_eq other name || is_here name rest

-- No name of the library can be declared as a variable, parameter or function.
abbrev pub is_reserved : List ℕ → Bool
is_reserved name = is_some (library_named name)

abbrev pub is_name_taken : List ℕ → List ScopeEntry → Bool
is_name_taken name entries = is_reserved name || is_here name entries

-- the names that are left when the latest scope ends
abbrev pub names_after_scope : List ScopeEntry → List ScopeEntry
names_after_scope [] = []
names_after_scope (Opens ∷ rest) = rest
names_after_scope (Declares name m ∷ rest) = names_after_scope rest
