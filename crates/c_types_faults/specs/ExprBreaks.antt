-- The first rule that an expression breaks, of a kind at a token: from left to right a part of it does, where those before it are operands; or all of them
-- are, the token is its own, and no relation of types that the accepted texts keep holds of them.
use Rattle.std.specs.Prelude.{◌≡◌, ◌⊎◌, ℕ, true, List}
use Rattle.c_syntax.specs.ExprTree as e
use Rattle.c_syntax.specs.ExprTree.{ExprTree, ExprList, LinkList, PostfixList}
use Rattle.c_types_rules.specs.declared.fault.FaultKind.{FaultKind}
use Rattle.c_types_rules.specs.declared.fault.FaultKind.TheVariants as fault
use Rattle.c_types_rules.specs.declared.operand.Operand.{Operand}
use Rattle.c_types_rules.specs.Words.{TypeTree, value_type, is_complete}
use Rattle.c_types_expressions.specs.ExprWalk.{binary_of, compound_of, with_stars}
use Rattle.c_types_laws.specs.Operands.{Casts, Chooses, Indexes, Joins, Selects, SelectsBehind, Steps}
use Rattle.c_types_faults.specs.Known.{Known}
use Rattle.c_types_faults.specs.Types.{BaseBreaks, IsBase}
use Rattle.c_types_faults.specs.Operands.{AsPlace, AsSelected, AsValue}
use Rattle.c_types_faults.specs.Exprs.{AreOperands, IsOperand}
use Rattle.c_types_faults.specs.ExprRules.{ArrowBreaks, AssignBreaks, CallBreaks, HasStruct, MemberBreaks, Misfits, NameBreaks, PrefixBreaks, StepBreaks}

module _ (k : Known) where
  abbrev mutual
    pub Breaks : ExprTree → FaultKind → ℕ → Type 0
    Breaks (e.Comma token operands) kind at = ListBreaks operands kind at
        ⊎ ((xs : List Operand) × (AreOperands k operands xs × ((at ≡ token) × (kind ≡ fault.Operands) × HasStruct xs)))
    Breaks (e.Assign token s target value) kind at = Breaks target kind at ⊎ ((x : Operand) × (IsOperand k target x × (Breaks value kind at
        ⊎ ((y : Operand) × (IsOperand k value y × ((at ≡ token) × AssignBreaks k.structs (compound_of s) x y kind))))))
    Breaks (e.Conditional token condition first second) kind at = Breaks condition kind at
        ⊎ ((c : Operand) × (IsOperand k condition c × (Breaks first kind at
        ⊎ ((x : Operand) × (IsOperand k first x × (Breaks second kind at
        ⊎ ((y : Operand) × (IsOperand k second y × ((at ≡ token) × Misfits (Chooses c x y) kind)))))))))
    Breaks (e.Chain level first links) kind at = Breaks first kind at ⊎ ((x : Operand) × (IsOperand k first x × LinksBreak x links kind at))
    Breaks (e.Cast token b stars operand) kind at = BaseBreaks k b kind at ⊎ ((of : TypeTree) × (IsBase k b of × (Breaks operand kind at
        ⊎ ((x : Operand) × (IsOperand k operand x × ((at ≡ token) × Misfits (Casts (with_stars stars of) x) kind))))))
    Breaks (e.Prefix token o operand) kind at = Breaks operand kind at
        ⊎ ((x : Operand) × (IsOperand k operand x × ((at ≡ token) × PrefixBreaks k.structs o x kind)))
    -- `sizeof` takes a complete type (6.5.3.4p1)
    Breaks (e.SizeOfType token b stars) kind at = BaseBreaks k b kind at
        ⊎ ((of : TypeTree) × (IsBase k b of × ((at ≡ token) × (kind ≡ fault.Operands) × (is_complete k.structs (with_stars stars of) ≡ true → ⊥))))
    Breaks (e.Postfix primary operators) kind at = Breaks primary kind at
        ⊎ ((x : Operand) × (IsOperand k primary x × PostfixBreaks x operators kind at))
    Breaks (e.Name token name) kind at = (at ≡ token) × NameBreaks (k.ordinary name) kind
    Breaks (e.Call token name arguments) kind at = ListBreaks arguments kind at
        ⊎ ((xs : List Operand) × (AreOperands k arguments xs × ((at ≡ token) × CallBreaks (k.ordinary name) xs kind)))
    Breaks (e.Constant token of value) kind at = ⊥
    Breaks (e.Strings token parts) kind at = ⊥
    Breaks (e.Paren token inner) kind at = Breaks inner kind at
    Breaks (e.Null token) kind at = ⊥
    Breaks (e.EndOfFile token) kind at = ⊥

    pub ListBreaks : ExprList → FaultKind → ℕ → Type 0
    ListBreaks e.no_exprs kind at = ⊥
    ListBreaks (e.more_exprs x rest) kind at = Breaks x kind at ⊎ ((y : Operand) × (IsOperand k x y × ListBreaks rest kind at))

    -- the operators of a chain, behind this left operand
    pub LinksBreak : Operand → LinkList → FaultKind → ℕ → Type 0
    LinksBreak left e.no_links kind at = ⊥
    LinksBreak left (e.more_links token s operand rest) kind at = Breaks operand kind at ⊎ ((y : Operand) × (IsOperand k operand y
        × (((at ≡ token) × Misfits (Joins k.structs (binary_of s) left y) kind)
        ⊎ ((m : Operand) × (AsValue (Joins k.structs (binary_of s) left y) m × LinksBreak m rest kind at)))))

    -- the operators behind this operand
    pub PostfixBreaks : Operand → PostfixList → FaultKind → ℕ → Type 0
    PostfixBreaks left e.no_postfix kind at = ⊥
    PostfixBreaks left (e.index token x rest) kind at = Breaks x kind at ⊎ ((y : Operand) × (IsOperand k x y
        × (((at ≡ token) × Misfits (Indexes k.structs left y) kind)
        ⊎ ((m : Operand) × (AsPlace (Indexes k.structs left y) m × PostfixBreaks m rest kind at)))))
    PostfixBreaks left (e.member token name rest) kind at = ((at ≡ token) × MemberBreaks k.structs name left.ctype kind)
        ⊎ ((m : Operand) × (AsSelected left.place (Selects k.structs name left.ctype) m × PostfixBreaks m rest kind at))
    PostfixBreaks left (e.arrow token name rest) kind at = ((at ≡ token) × ArrowBreaks k.structs name (value_type left) kind)
        ⊎ ((m : Operand) × (AsSelected true (SelectsBehind k.structs name (value_type left)) m × PostfixBreaks m rest kind at))
    PostfixBreaks left (e.increment token rest) kind at = ((at ≡ token) × StepBreaks k.structs left kind)
        ⊎ ((m : Operand) × (AsValue (Steps k.structs left) m × PostfixBreaks m rest kind at))
    PostfixBreaks left (e.decrement token rest) kind at = ((at ≡ token) × StepBreaks k.structs left kind)
        ⊎ ((m : Operand) × (AsValue (Steps k.structs left) m × PostfixBreaks m rest kind at))
