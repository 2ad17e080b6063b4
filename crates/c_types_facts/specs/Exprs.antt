-- The types that are noted of expressions: at its own token each has the type of the operand that it is by the declarations that hold there (C99 6.5).
use Rattle.std.specs.Prelude.{◌≡◌, ℕ, Some}
use Rattle.c_syntax.specs.ExprTree as e
use Rattle.c_syntax.specs.ExprTree.{ExprTree, ExprList, LinkList, PostfixList}
use Rattle.c_types_rules.specs.declared.operand.Operand.{Operand}
use Rattle.c_meaning.specs.Trees.{token_of}
use Rattle.c_types.specs.Answers.{type_at}
use Rattle.c_types_expressions.specs.declared.walk.Walk.{Walk}
use Rattle.c_types_faults.specs.Known.{Known}
use Rattle.c_types_faults.specs.Exprs.{IsOperand, LinksGive, PostfixGives}
use Rattle.c_types_faults.specs.Wholes.{IsWhole}

-- the type of the operand is noted at the token
abbrev pub HasType : Walk → ℕ → Operand → Type 0
HasType w token d = type_at w token ≡ Some d.ctype

-- by what is noted, and by what the identifiers denote there
module _ (w : Walk) (k : Known) where
  abbrev pub IsTyped : ExprTree → Type 0
  IsTyped x = (d : Operand) × (IsOperand k x d × HasType w (token_of x) d)

  -- so it is of the expression, and of each one in it
  abbrev mutual
    pub ExprTyped : ExprTree → Type 0
    ExprTyped (e.Comma token operands) = ExprsTyped operands × IsTyped (e.Comma token operands)
    ExprTyped (e.Assign token s target value) = ExprTyped target × (ExprTyped value × IsTyped (e.Assign token s target value))
    ExprTyped (e.Conditional token condition first second) =
        ExprTyped condition × (ExprTyped first × (ExprTyped second × IsTyped (e.Conditional token condition first second)))
    ExprTyped (e.Chain level first links) = ExprTyped first × ((x : Operand) × (IsOperand k first x × LinksTyped x links))
    ExprTyped (e.Cast token b stars operand) = ExprTyped operand × IsTyped (e.Cast token b stars operand)
    ExprTyped (e.Prefix token o operand) = ExprTyped operand × IsTyped (e.Prefix token o operand)
    ExprTyped (e.SizeOfType token b stars) = IsTyped (e.SizeOfType token b stars)
    ExprTyped (e.Postfix primary operators) = ExprTyped primary × ((x : Operand) × (IsOperand k primary x × PostfixTyped x operators))
    ExprTyped (e.Name token name) = IsTyped (e.Name token name)
    ExprTyped (e.Call token name arguments) = ExprsTyped arguments × IsTyped (e.Call token name arguments)
    ExprTyped (e.Constant token kind value) = IsTyped (e.Constant token kind value)
    ExprTyped (e.Strings token parts) = IsTyped (e.Strings token parts)
    ExprTyped (e.Paren token inner) = ExprTyped inner × IsTyped (e.Paren token inner)
    ExprTyped (e.Null token) = IsTyped (e.Null token)
    ExprTyped (e.EndOfFile token) = IsTyped (e.EndOfFile token)

    pub ExprsTyped : ExprList → Type 0
    ExprsTyped e.no_exprs = Unit {0}
    ExprsTyped (e.more_exprs x rest) = ExprTyped x × ExprsTyped rest

    -- each operator of a chain has what it gives, behind this left operand
    pub LinksTyped : Operand → LinkList → Type 0
    LinksTyped left e.no_links = Unit {0}
    LinksTyped left (e.more_links token s operand rest) = ExprTyped operand × ((m : Operand)
        × (LinksGive k left (e.more_links token s operand e.no_links) m × (HasType w token m × LinksTyped m rest)))

    -- each operator behind this operand has what it gives
    pub PostfixTyped : Operand → PostfixList → Type 0
    PostfixTyped left e.no_postfix = Unit {0}
    PostfixTyped left (e.index token x rest) = ExprTyped x × ((m : Operand)
        × (PostfixGives k left (e.index token x e.no_postfix) m × (HasType w token m × PostfixTyped m rest)))
    PostfixTyped left (e.member token name rest) = (m : Operand)
        × (PostfixGives k left (e.member token name e.no_postfix) m × (HasType w token m × PostfixTyped m rest))
    PostfixTyped left (e.arrow token name rest) = (m : Operand)
        × (PostfixGives k left (e.arrow token name e.no_postfix) m × (HasType w token m × PostfixTyped m rest))
    PostfixTyped left (e.increment token rest) = (m : Operand)
        × (PostfixGives k left (e.increment token e.no_postfix) m × (HasType w token m × PostfixTyped m rest))
    PostfixTyped left (e.decrement token rest) = (m : Operand)
        × (PostfixGives k left (e.decrement token e.no_postfix) m × (HasType w token m × PostfixTyped m rest))

  -- of the whole expression of a statement, which may be a call of `printf` (7.19.6.3)
  abbrev pub WholeTyped : ExprTree → Type 0
  WholeTyped (e.Call token name arguments) = ExprsTyped arguments
      × ((d : Operand) × (IsWhole k (e.Call token name arguments) d × HasType w token d))
  WholeTyped x = ExprTyped x
