-- What may initialise an object, and the type as that completes it (C99 6.7.8).
use Rattle.std.specs.Prelude.{◌≡◌, ◌⊎◌, ℕ, ◌+◌, ◌≤◌, Bool, true, false, List, [], ◌∷◌, length, Option, Some, None}
use Rattle.c_syntax.specs.declared.expr.PrefixOperator.TheVariants as prefix
use Rattle.c_syntax.specs.ExprTree as e
use Rattle.c_syntax.specs.Words.{ExprTree, ExprList, first_token, InitialTree}
use Rattle.c_syntax.specs.StatementTree as s
use Rattle.c_types_rules.specs.declared.fault.FaultKind.{FaultKind}
use Rattle.c_types_rules.specs.declared.fault.FaultKind.TheVariants as fault
use Rattle.c_types_rules.specs.declared.operand.Operand.{Operand}
use Rattle.c_types_rules.specs.Words.{TypeTree, Char, Array, is_scalar}
use Rattle.c_types_expressions.specs.ExprWalk.{string_cells}
use Rattle.c_types_laws.specs.Operands.{Accepts}
use Rattle.c_types_faults.specs.Known.{Known}
use Rattle.c_types_faults.specs.Exprs.{AreOperands, IsOperand}
use Rattle.c_types_faults.specs.ExprBreaks.{Breaks, ListBreaks}

abbrev pub IsNumberTree : ExprTree → Type 0
IsNumberTree (e.Constant token kind value) = Unit {0}
IsNumberTree x = ⊥

-- what initialises an object with static storage duration (6.7.8p4, 6.6, narrower): a constant, a `-` before one, a string, NULL
abbrev pub IsConstant : ExprTree → Type 0
IsConstant (e.Constant token kind value) = Unit {0}
IsConstant (e.Prefix token prefix.Minus operand) = IsNumberTree operand
IsConstant (e.Strings token parts) = Unit {0}
IsConstant (e.Null token) = Unit {0}
IsConstant x = ⊥

abbrev pub IsConstantIfGlobal : Bool → ExprTree → Type 0
IsConstantIfGlobal true x = IsConstant x
IsConstantIfGlobal false x = Unit {0}

-- a scalar begins with a value that may be assigned to it (6.7.8p11)
abbrev pub Initialises : Bool → TypeTree → ExprTree → Operand → Type 0
Initialises global of value x = (is_scalar of ≡ true) × Accepts of x × IsConstantIfGlobal global value

abbrev pub AllInitialise : Bool → TypeTree → ExprList → List Operand → Type 0
AllInitialise global of e.no_exprs xs = Unit {0}
AllInitialise global of (e.more_exprs value rest) [] = ⊥
AllInitialise global of (e.more_exprs value rest) (x ∷ xs) = Initialises global of value x × AllInitialise global of rest xs

-- An array of a known length takes no more items than that (6.7.8p2), and keeps it; else it has as many elements as there are items (6.7.8p22).
abbrev pub Measures : ℕ → ℕ → ℕ → Type 0
Measures known given size = ((known ≡ 0) × (size ≡ given)) ⊎ ((known ≡ 0 → ⊥) × (given ≤ known) × (size ≡ known))

-- a list in braces, of an array of scalars (6.7.8p16, narrower)
abbrev pub Lists : Bool → TypeTree → ExprList → List Operand → TypeTree → Type 0
Lists global (Array element known) items xs t = (is_scalar element ≡ true) × AllInitialise global element items xs
    × ((size : ℕ) × (Measures known (length xs) size × (t ≡ Array element size)))
Lists global of items xs t = ⊥

-- a string, of an array of `char`: its closing zero may be left out where the length is known (6.7.8p14, p22)
abbrev pub SpellsIn : ℕ → TypeTree → TypeTree → Type 0
SpellsIn cells (Array Char known) t = ((known ≡ 0) × (t ≡ Array Char cells)) ⊎ ((known ≡ 0 → ⊥) × (cells ≤ known + 1) × (t ≡ Array Char known))
SpellsIn cells of t = ⊥

abbrev pub Spells : ExprTree → TypeTree → TypeTree → Type 0
Spells (e.Strings token parts) of t = SpellsIn (string_cells parts) of t
Spells x of t = ⊥

abbrev pub ObjectBegins : Bool → TypeTree → ExprTree → Operand → TypeTree → Type 0
ObjectBegins global of value x t = Spells value of t ⊎ (Initialises global of value x × (t ≡ of))

module _ (k : Known) (global : Bool) where
  -- of an object of this type, which it completes so
  abbrev pub Completes : TypeTree → Option InitialTree → TypeTree → Type 0
  Completes of None t = t ≡ of
  Completes of (Some (s.Value value)) t = (x : Operand) × (IsOperand k value x × ObjectBegins global of value x t)
  Completes of (Some (s.Braced token items comma)) t = (xs : List Operand) × (AreOperands k items xs × Lists global of items xs t)

  -- An expression in it breaks a rule first; or none does, and it may not initialise such an object, at its first token.
  abbrev pub InitialBreaks : TypeTree → Option InitialTree → FaultKind → ℕ → Type 0
  InitialBreaks of None kind at = ⊥
  InitialBreaks of (Some (s.Value value)) kind at = Breaks k value kind at ⊎ ((x : Operand) × (IsOperand k value x
      × ((at ≡ first_token value) × (kind ≡ fault.Initialiser) × ((t : TypeTree) → ObjectBegins global of value x t → ⊥))))
  InitialBreaks of (Some (s.Braced token items comma)) kind at = ListBreaks k items kind at ⊎ ((xs : List Operand)
      × (AreOperands k items xs × ((at ≡ token) × (kind ≡ fault.Initialiser) × ((t : TypeTree) → Lists global of items xs t → ⊥))))
