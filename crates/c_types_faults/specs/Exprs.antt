-- Which operand an expression is: its type, whether it is an lvalue, and whether it is a null pointer constant (C99 6.3.2, 6.5). The types come from
-- the declarations; what each operator takes and gives is what the accepted texts keep.
use Rattle.std.specs.Prelude.{◌≡◌, true, List, [], ◌∷◌, Some}
use Rattle.c_syntax.specs.ExprTree as e
use Rattle.c_syntax.specs.ExprTree.{ExprTree, ExprList, LinkList, PostfixList}
use Rattle.c_types_rules.specs.declared.operand.Operand.{Operand}
use Rattle.c_types_rules.specs.Words.{TypeTree, Void, Int, Unsigned, constant_of, parenthesized_operand, null_of, place_of, string_of, value_of, value_type}
use Rattle.c_types_rules.specs.Words.{is_complete}
use Rattle.c_types_expressions.specs.ExprWalk.{binary_of, compound_of, string_cells, with_stars}
use Rattle.c_types_laws.specs.Operands.{Assigns, Casts, Chooses, Indexes, Joins, Selects, SelectsBehind, Steps}
use Rattle.c_types_faults.specs.Known.{Known, Object}
use Rattle.c_types_faults.specs.Types.{IsBase}
use Rattle.c_types_faults.specs.Calls.{Calls}
use Rattle.c_types_faults.specs.Operands.{AsPlace, AsPrefixed, AsSelected, AsValue, Sequence}

module _ (k : Known) where
  abbrev mutual
    pub IsOperand : ExprTree → Operand → Type 0
    IsOperand (e.Comma token operands) d = (xs : List Operand) × (AreOperands operands xs × AsValue (Sequence Void xs) d)
    IsOperand (e.Assign token s target value) d = (x : Operand) × ((y : Operand)
        × (IsOperand target x × IsOperand value y × AsValue (Assigns k.structs (compound_of s) x y) d))
    IsOperand (e.Conditional token condition first second) d = (c : Operand) × ((x : Operand) × ((y : Operand)
        × (IsOperand condition c × IsOperand first x × IsOperand second y × AsValue (Chooses c x y) d)))
    IsOperand (e.Chain level first links) d = (x : Operand) × (IsOperand first x × LinksGive x links d)
    IsOperand (e.Cast token b stars operand) d = (of : TypeTree) × ((x : Operand)
        × (IsBase k b of × IsOperand operand x × AsValue (Casts (with_stars stars of) x) d))
    IsOperand (e.Prefix token o operand) d = (x : Operand) × (IsOperand operand x × AsPrefixed k.structs o x d)
    IsOperand (e.SizeOfType token b stars) d = (of : TypeTree)
        × (IsBase k b of × AsValue (λ t. (is_complete k.structs (with_stars stars of) ≡ true) × (t ≡ Unsigned)) d)
    IsOperand (e.Postfix primary operators) d = (x : Operand) × (IsOperand primary x × PostfixGives x operators d)
    IsOperand (e.Name token name) d = (of : TypeTree) × ((k.ordinary name ≡ Some (Object of)) × (d ≡ place_of of))
    IsOperand (e.Call token name arguments) d = (xs : List Operand) × (AreOperands arguments xs × AsValue (Calls (k.ordinary name) xs) d)
    IsOperand (e.Constant token kind value) d = d ≡ constant_of kind value
    IsOperand (e.Strings token parts) d = d ≡ string_of (string_cells parts)
    IsOperand (e.Paren token inner) d = (x : Operand) × (IsOperand inner x × (d ≡ parenthesized_operand x))
    IsOperand (e.Null token) d = d ≡ null_of
    IsOperand (e.EndOfFile token) d = d ≡ value_of Int

    pub AreOperands : ExprList → List Operand → Type 0
    AreOperands e.no_exprs [] = Unit {0}
    AreOperands e.no_exprs (x ∷ xs) = ⊥
    AreOperands (e.more_exprs x rest) [] = ⊥
    AreOperands (e.more_exprs x rest) (y ∷ ys) = IsOperand x y × AreOperands rest ys

    -- the operators of a chain, behind this left operand
    pub LinksGive : Operand → LinkList → Operand → Type 0
    LinksGive left e.no_links d = d ≡ left
    LinksGive left (e.more_links token s operand rest) d = (y : Operand) × ((m : Operand)
        × (IsOperand operand y × AsValue (Joins k.structs (binary_of s) left y) m × LinksGive m rest d))

    -- the operators behind this operand
    pub PostfixGives : Operand → PostfixList → Operand → Type 0
    PostfixGives left e.no_postfix d = d ≡ left
    PostfixGives left (e.index token x rest) d = (y : Operand) × ((m : Operand)
        × (IsOperand x y × AsPlace (Indexes k.structs left y) m × PostfixGives m rest d))
    PostfixGives left (e.member token name rest) d = (m : Operand)
        × (AsSelected left.place (Selects k.structs name left.ctype) m × PostfixGives m rest d)
    PostfixGives left (e.arrow token name rest) d = (m : Operand)
        × (AsSelected true (SelectsBehind k.structs name (value_type left)) m × PostfixGives m rest d)
    PostfixGives left (e.increment token rest) d = (m : Operand) × (AsValue (Steps k.structs left) m × PostfixGives m rest d)
    PostfixGives left (e.decrement token rest) d = (m : Operand) × (AsValue (Steps k.structs left) m × PostfixGives m rest d)
