-- Declarations of variables (C99 6.7): what is declared behind one, and which rule one breaks first.
use Rattle.std.specs.Prelude.{◌≡◌, ◌⊎◌, ℕ, ◌+◌, ◌≤◌, Bool, true, false, List, [], ◌∷◌, Option, Some}
use Rattle.c_syntax.specs.StatementTree.{DeclarationTree, InitialTree, StartTree}
use Rattle.c_types_rules.specs.declared.fault.FaultKind.{FaultKind}
use Rattle.c_types_rules.specs.declared.fault.FaultKind.TheVariants as fault
use Rattle.c_types_rules.specs.declared.layout.StructType.{StructType}
use Rattle.c_types_rules.specs.Words.{TypeTree, Array, cells_of, is_complete, most_cells}
use Rattle.c_types_faults.specs.Known.{Object}
use Rattle.c_types_faults.specs.Least.{IsLeast}
use Rattle.c_types_faults.specs.Context.{Context, IsTaken, global_cells_added, name_declared, known_identifiers}
use Rattle.c_types_faults.specs.Types.{BaseBreaks, IsBase}
use Rattle.c_types_faults.specs.Declarators.{DeclaresAs}
use Rattle.c_types_faults.specs.Initialisers.{Completes, InitialBreaks}

-- a complete type (6.7p7), of no more cells than an object may have
abbrev pub IsObject : List StructType → TypeTree → Type 0
IsObject structs t = (is_complete structs t ≡ true) × (cells_of structs t ≤ most_cells)

-- all globals together have no more cells than that either
abbrev pub GlobalsHaveRoom : Bool → Context → TypeTree → Type 0
GlobalsHaveRoom true c t = c.cells + cells_of c.structs t ≤ most_cells
GlobalsHaveRoom false c t = Unit {0}

-- an array whose length its initialiser gives (6.7.8p22)
abbrev pub IsOpen : TypeTree → Option InitialTree → Type 0
IsOpen (Array element size) (Some initial) = size ≡ 0
IsOpen t initial = ⊥

-- The elements of an array are objects (6.7.5.2p1).
abbrev pub ElementBreaks : List StructType → TypeTree → Type 0
ElementBreaks structs (Array element size) = IsObject structs element → ⊥
ElementBreaks structs t = ⊥

module _ (global : Bool) (base : TypeTree) where
  -- the initialiser stands in the scope of the name, behind its declarator (6.2.1p7)
  abbrev pub Finishes : Context → StartTree → TypeTree → TypeTree → Type 0
  Finishes c x t u = Completes (known_identifiers (name_declared x.declarator.name (Object t) c)) global t x.initial u

  -- A variable keeps the rules, and this is declared behind it: its name is new, and its type, completed by its initialiser, is an object's.
  abbrev pub VariableGives : Context → StartTree → Context → Type 0
  VariableGives c x after = (IsTaken x.declarator.name c → ⊥) × ((t : TypeTree) × ((u : TypeTree) × (DeclaresAs x.declarator base t × Finishes c x t u
      × IsObject c.structs u × GlobalsHaveRoom global c u
      × (after ≡ name_declared x.declarator.name (Object u) (global_cells_added global (cells_of c.structs u) c)))))

  -- the type is no object's, or the globals would have too many cells with it
  abbrev pub SizeBreaks : Context → TypeTree → Type 0
  SizeBreaks c t = (IsObject c.structs t → ⊥) ⊎ (GlobalsHaveRoom global c t → ⊥)

  -- before its initialiser: where that gives the length, the elements alone decide
  abbrev pub BeginningBreaks : Context → StartTree → TypeTree → Type 0
  BeginningBreaks c x t = ((IsOpen t x.initial → ⊥) × SizeBreaks c t) ⊎ (IsOpen t x.initial × ElementBreaks c.structs t)

  -- The name of a declarator is taken, or it gives no type that the variable may have.
  abbrev pub DeclaratorRule : Context → StartTree → FaultKind → Type 0
  DeclaratorRule c x kind = ((kind ≡ fault.Redeclared) × IsTaken x.declarator.name c)
      ⊎ ((kind ≡ fault.Object) × ((t : TypeTree) → DeclaresAs x.declarator base t → BeginningBreaks c x t))

  -- one that keeps these rules
  abbrev pub DeclaratorFits : Context → StartTree → TypeTree → Type 0
  DeclaratorFits c x t = (IsTaken x.declarator.name c → ⊥) × DeclaresAs x.declarator base t × (BeginningBreaks c x t → ⊥)

  -- The declarator breaks a rule, then the initialiser, and then the type that this completed. The first and the last stand where the declarator begins.
  abbrev pub VariableBreaks : Context → StartTree → FaultKind → ℕ → Type 0
  VariableBreaks c x kind at = ((at ≡ x.token) × IsLeast (DeclaratorRule c x) kind)
      ⊎ ((t : TypeTree) × (DeclaratorFits c x t × (InitialBreaks (known_identifiers (name_declared x.declarator.name (Object t) c)) global t x.initial kind at
      ⊎ ((u : TypeTree) × (Finishes c x t u × ((at ≡ x.token) × (kind ≡ fault.Object) × SizeBreaks c u))))))

  abbrev pub VariablesGive : Context → List StartTree → Context → Type 0
  VariablesGive c [] after = after ≡ c
  VariablesGive c (x ∷ xs) after = (next : Context) × (VariableGives c x next × VariablesGive next xs after)

  abbrev pub VariablesBreak : Context → List StartTree → FaultKind → ℕ → Type 0
  VariablesBreak c [] kind at = ⊥
  VariablesBreak c (x ∷ xs) kind at = VariableBreaks c x kind at ⊎ ((next : Context) × (VariableGives c x next × VariablesBreak next xs kind at))

abbrev pub DeclarationGives : Bool → Context → DeclarationTree → Context → Type 0
DeclarationGives global c d after = (base : TypeTree) × (IsBase (known_identifiers c) d.base base × VariablesGive global base c d.starts after)

abbrev pub DeclarationBreaks : Bool → Context → DeclarationTree → FaultKind → ℕ → Type 0
DeclarationBreaks global c d kind at = BaseBreaks (known_identifiers c) d.base kind at
    ⊎ ((base : TypeTree) × (IsBase (known_identifiers c) d.base base × VariablesBreak global base c d.starts kind at))
