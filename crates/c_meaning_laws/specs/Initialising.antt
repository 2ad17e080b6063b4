-- An initialiser is an assignment (C99 6.7.8p11), and a declaration of several variables is one of each (C99 6.7p6).
use Rattle.std.specs.Prelude.{◌≡◌, ℕ, List, [], ◌∷◌, ◌++◌, Some, None}
use Rattle.c_syntax.specs.declared.token.Sign.TheVariants as sign
use Rattle.c_syntax.specs.ExprTree as e
use Rattle.c_syntax.specs.Words.{ExprTree, DeclarationTree, EntryList, StartTree, StatementTree}
use Rattle.c_syntax.specs.StatementTree as tree
use Rattle.c_meaning.specs.declared.value_type.ValueType.{ValueType}
use Rattle.c_meaning.specs.Words.{Setting, equals_token, exec_all, World}
use Rattle.c_meaning_laws.specs.Rules.{IsScalar}

-- a declaration of these alone
abbrev pub declaration_of_starts : DeclarationTree → List StartTree → DeclarationTree
declaration_of_starts d starts = record d { starts = starts }

-- a declared name without an initialiser, and with this one
abbrev pub without_initialiser : StartTree → StartTree
without_initialiser x = record x { initial = None }

abbrev pub with_value : StartTree → ExprTree → StartTree
with_value x value = record x { initial = Some (tree.Value value) }

-- `name = value;`
abbrev pub set_to : ℕ → ℕ → ℕ → List ℕ → ExprTree → StatementTree
set_to statement equals at name value = tree.Expr statement (e.Assign equals sign.Equal (e.Name at name) value)

-- The token names the variable that the other one declares, as one of the type that is declared, and the `=` has the sites of the declared variable's.
pub record NamesDeclared (s : Setting) (declared at equals : ℕ) : Type 0 where
  pub slot : s.facts.slot_at at ≡ s.facts.slot_at declared
  pub typed : s.facts.type_at at ≡ s.facts.declared_at declared
  pub sites : s.sites.pairs_at equals ≡ s.sites.pairs_at (equals_token declared)

-- `int x = value;` does what `int x; x = value;` does, for a variable x of a scalar type, whatever stands behind it.
abbrev pub InitialiserIsAssignment : Type 0
InitialiserIsAssignment =
    (s : Setting) (n : ℕ) (result : ValueType) (d : DeclarationTree) (x : StartTree) (value : ExprTree) (statement equals at : ℕ) (name : List ℕ)
    (rest : EntryList) (w : World) → NamesDeclared s x.declarator.name_token at equals → IsScalar (s.facts.declared_at x.declarator.name_token) →
    exec_all s n result (tree.declared (declaration_of_starts d (with_value x value ∷ [])) rest) w
    ≡ exec_all s n result (tree.declared (declaration_of_starts d (without_initialiser x ∷ [])) (tree.stated (set_to statement equals at name value) rest)) w

-- `int x = a, y = b;` does what `int x = a; int y = b;` does.
abbrev pub DeclarationIsOneOfEach : Type 0
DeclarationIsOneOfEach =
    (s : Setting) (n : ℕ) (result : ValueType) (d : DeclarationTree) (before after : List StartTree) (rest : EntryList) (w : World) →
    exec_all s n result (tree.declared (declaration_of_starts d (before ++ after)) rest) w
    ≡ exec_all s n result (tree.declared (declaration_of_starts d before) (tree.declared (declaration_of_starts d after) rest)) w
