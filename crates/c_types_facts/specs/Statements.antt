-- What is noted of declarations and statements: of their expressions the types, and of the variables that they declare, in their order, the tokens of
-- their names and their types.
use Rattle.std.specs.Prelude.{◌≡◌, ℕ, Bool, false, List, [], ◌∷◌, ◌++◌, Option, Some, None}
use Rattle.c_syntax.specs.Words.{ExprTree, InitialTree, StartTree, DeclarationTree, ForStartTree, StatementTree, EntryList}
use Rattle.c_syntax.specs.StatementTree as s
use Rattle.c_types_rules.specs.TypeTree.{TypeTree}
use Rattle.c_types_expressions.specs.declared.walk.Walk.{Walk}
use Rattle.c_types_faults.specs.Known.{Known, Object}
use Rattle.c_types_faults.specs.Context.{Context, name_declared, declared_in, inner_context, known_identifiers}
use Rattle.c_types_faults.specs.Declarators.{DeclaresAs}
use Rattle.c_types_faults.specs.Declarations.{VariableGives}
use Rattle.c_types_faults.specs.Types.{IsBase}
use Rattle.c_types_facts.specs.Exprs.{ExprTyped, ExprsTyped, WholeTyped}

-- a variable: the token of its name, and its type, an array as such
pub record Typed : Type 0 where
  pub token : ℕ
  pub of : TypeTree

module _ (w : Walk) where
  abbrev pub PartTyped : Known → Option ExprTree → Type 0
  PartTyped k None = Unit {0}
  PartTyped k (Some x) = ExprTyped w k x

  abbrev pub InitialTyped : Known → Option InitialTree → Type 0
  InitialTyped k None = Unit {0}
  InitialTyped k (Some (s.Value value)) = ExprTyped w k value
  InitialTyped k (Some (s.Braced token items comma)) = ExprsTyped w k items

  -- The variable has the type that its name denotes behind the declaration. Its initialiser stands in the scope of the name, which has there the type
  -- of the declarator (6.2.1p7).
  abbrev pub VariableTyped : Bool → TypeTree → Context → StartTree → Context → TypeTree → Type 0
  VariableTyped global base c x after of = VariableGives global base c x after × ((declared_in x.declarator.name after.scope ≡ Some (Object of))
      × ((t : TypeTree) × (DeclaresAs x.declarator base t × InitialTyped (known_identifiers (name_declared x.declarator.name (Object t) c)) x.initial)))

  -- from one context to the next, with these variables
  abbrev pub VariablesTyped : Bool → TypeTree → Context → List StartTree → Context → List Typed → Type 0
  VariablesTyped global base c [] after own = (after ≡ c) × (own ≡ [])
  VariablesTyped global base c (x ∷ xs) after own = (next : Context) × ((of : TypeTree) × ((rest : List Typed) × (VariableTyped global base c x next of
      × (VariablesTyped global base next xs after rest × (own ≡ record { token = x.declarator.name_token; of = of } ∷ rest)))))

  abbrev pub DeclarationTyped : Bool → Context → DeclarationTree → Context → List Typed → Type 0
  DeclarationTyped global c d after own = (base : TypeTree) × (IsBase (known_identifiers c) d.base base × VariablesTyped global base c d.starts after own)

  abbrev pub StartTyped : Context → ForStartTree → Context → List Typed → Type 0
  StartTyped c (s.Declares d) after own = DeclarationTyped false c d after own
  StartTyped c (s.Computes x) after own = PartTyped (known_identifiers c) x × ((after ≡ c) × (own ≡ []))

  abbrev mutual
    pub StatementTyped : Context → StatementTree → List Typed → Type 0
    StatementTyped c (s.Block token entries) own = EntriesTyped (inner_context c) entries own
    StatementTyped c (s.Empty token) own = own ≡ []
    StatementTyped c (s.Expr token x) own = WholeTyped w (known_identifiers c) x × (own ≡ [])
    StatementTyped c (s.If token condition first) own = ExprTyped w (known_identifiers c) condition × StatementTyped c first own
    StatementTyped c (s.IfElse token condition first second) own = ExprTyped w (known_identifiers c) condition × ((a : List Typed) × ((b : List Typed)
        × (StatementTyped c first a × (StatementTyped c second b × (own ≡ a ++ b)))))
    StatementTyped c (s.While token condition body) own = ExprTyped w (known_identifiers c) condition × StatementTyped c body own
    StatementTyped c (s.Do token body condition) own = StatementTyped c body own × ExprTyped w (known_identifiers c) condition
    -- a `for` is a scope (6.8.5p5)
    StatementTyped c (s.For token start condition step body) own = (d : Context) × ((a : List Typed) × ((b : List Typed)
        × (StartTyped (inner_context c) start d a × (PartTyped (known_identifiers d) condition × (PartTyped (known_identifiers d) step
        × (StatementTyped d body b × (own ≡ a ++ b)))))))
    StatementTyped c (s.Return token value) own = PartTyped (known_identifiers c) value × (own ≡ [])
    StatementTyped c (s.Break token) own = own ≡ []
    StatementTyped c (s.Continue token) own = own ≡ []

    pub EntriesTyped : Context → EntryList → List Typed → Type 0
    EntriesTyped c s.no_entries own = own ≡ []
    EntriesTyped c (s.declared declaration rest) own = (next : Context) × ((a : List Typed) × ((b : List Typed)
        × (DeclarationTyped false c declaration next a × (EntriesTyped next rest b × (own ≡ a ++ b)))))
    EntriesTyped c (s.stated statement rest) own = (a : List Typed) × ((b : List Typed)
        × (StatementTyped c statement a × (EntriesTyped c rest b × (own ≡ a ++ b))))
