-- Names hide those before them, and scopes end.
use Rattle.std.proofs.Common.{◌≡◌, ℕ, true, nat_eq, List, [], ◌∷◌, ◌++◌, map, Some, None, if◌then◌else◌, refl, ap}
use Rattle.std.specs.Str.{bytes_eq}
use Rattle.std.proofs.lemmas.Bool.{and_from, eq-eqb}
use Rattle.c_types.specs.Hiding.{declaration_of}
use Rattle.c_types_expressions.specs.Names.{names_after_scope, declared_meaning, or_before}
use Rattle.c_types_expressions.specs.declared.names.Meaning.{Meaning}
use Rattle.c_types_expressions.specs.declared.names.ScopeEntry.{ScopeEntry}
use Rattle.c_types_expressions.specs.declared.names.ScopeEntry.TheVariants.{Opens, Declares}

same_bytes : (xs : List ℕ) → bytes_eq xs xs ≡ true
same_bytes [] = refl
same_bytes (x ∷ xs) = and_from (nat_eq x x) (bytes_eq xs xs) (eq-eqb x x refl) (same_bytes xs)

pub hides : (name : List ℕ) (m : Meaning) (outer : List ScopeEntry) → declared_meaning name (Declares name m ∷ outer) ≡ Some m
hides name m outer = ap (λ same. or_before (if same then Some m else None) (declared_meaning name outer)) (same_bytes name)

pub back : (inner : List (List ℕ × Meaning)) (outer : List ScopeEntry) → names_after_scope (map declaration_of inner ++ Opens ∷ outer) ≡ outer
back [] outer = refl
back (d ∷ inner) outer = back inner outer
