-- The whole expression of a statement, which may be a call of `printf` (C99 7.19.6.1).
use Rattle.std.specs.Prelude.{◌≡◌, ◌⊎◌, ℕ, true, List, ◌∷◌, Option, Some}
use Rattle.c_syntax.specs.ExprTree as e
use Rattle.c_syntax.specs.ExprTree.{ExprTree, ExprList}
use Rattle.c_types_rules.specs.declared.fault.FaultKind.{FaultKind}
use Rattle.c_types_rules.specs.declared.fault.FaultKind.TheVariants as fault
use Rattle.c_types_rules.specs.declared.library.Library.TheVariants as library
use Rattle.c_types_rules.specs.declared.operand.Operand.{Operand}
use Rattle.c_types_rules.specs.Words.{Int, value_of, fits_format}
use Rattle.c_types_expressions.specs.ExprWalk.{concatenated_strings}
use Rattle.c_types_faults.specs.Known.{Entity, Standard, Known}
use Rattle.c_types_faults.specs.Exprs.{AreOperands, IsOperand}
use Rattle.c_types_faults.specs.ExprRules.{CallBreaks}
use Rattle.c_types_faults.specs.ExprBreaks.{Breaks, ListBreaks}

-- a string, and behind it one argument for each of its conversions, of a type that it takes
abbrev pub IsFormatted : ExprList → List Operand → Type 0
IsFormatted (e.more_exprs (e.Strings token parts) rest) (x ∷ xs) = fits_format (concatenated_strings parts) xs ≡ true
IsFormatted arguments xs = ⊥

abbrev pub WholeCallBreaks : Option Entity → ExprList → List Operand → FaultKind → Type 0
WholeCallBreaks (Some (Standard library.Printf)) arguments xs kind = (kind ≡ fault.Arguments) × (IsFormatted arguments xs → ⊥)
WholeCallBreaks entity arguments xs kind = CallBreaks entity xs kind

module _ (k : Known) where
  abbrev pub Prints : List ℕ → ExprList → Operand → Type 0
  Prints name arguments d = (k.ordinary name ≡ Some (Standard library.Printf))
      × ((xs : List Operand) × (AreOperands k arguments xs × IsFormatted arguments xs)) × (d ≡ value_of Int)

  abbrev pub IsWhole : ExprTree → Operand → Type 0
  IsWhole (e.Call token name arguments) d = IsOperand k (e.Call token name arguments) d ⊎ Prints name arguments d
  IsWhole x d = IsOperand k x d

  abbrev pub WholeBreaks : ExprTree → FaultKind → ℕ → Type 0
  WholeBreaks (e.Call token name arguments) kind at = ListBreaks k arguments kind at
      ⊎ ((xs : List Operand) × (AreOperands k arguments xs × ((at ≡ token) × WholeCallBreaks (k.ordinary name) arguments xs kind)))
  WholeBreaks x kind at = Breaks k x kind at
