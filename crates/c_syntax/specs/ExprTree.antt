-- Expressions as trees, apart from how memory holds them: two are equal where their parts are.
use Rattle.std.specs.Prelude.{ℕ, ℤ, List}
use Rattle.cbi_base.specs.declared.scalar.Kind.{Kind}
use Rattle.c_syntax.specs.declared.token.Sign.{Sign}
use Rattle.c_syntax.specs.declared.parts.Base.{Base}
use Rattle.c_syntax.specs.declared.expr.PrefixOperator.{PrefixOperator}

mutual
  pub data ExprTree : Type 0 where
    Comma : (token : ℕ) (operands : ExprList) → ExprTree
    Assign : (token : ℕ) (sign : Sign) (target value : ExprTree) → ExprTree
    Conditional : (token : ℕ) (condition first second : ExprTree) → ExprTree
    Chain : (level : ℕ) (first : ExprTree) (links : LinkList) → ExprTree
    Cast : (token : ℕ) (base : Base) (stars : ℕ) (operand : ExprTree) → ExprTree
    Prefix : (token : ℕ) (operator : PrefixOperator) (operand : ExprTree) → ExprTree
    SizeOfType : (token : ℕ) (base : Base) (stars : ℕ) → ExprTree
    Postfix : (primary : ExprTree) (operators : PostfixList) → ExprTree
    Name : (token : ℕ) (name : List ℕ) → ExprTree
    Call : (token : ℕ) (name : List ℕ) (arguments : ExprList) → ExprTree
    Constant : (token : ℕ) (kind : Kind) (value : ℤ) → ExprTree
    Strings : (token : ℕ) (parts : List (List ℕ)) → ExprTree
    Paren : (token : ℕ) (inner : ExprTree) → ExprTree
    Null : (token : ℕ) → ExprTree
    EndOfFile : (token : ℕ) → ExprTree

  pub data ExprList : Type 0 where
    no_exprs : ExprList
    more_exprs : (e : ExprTree) (rest : ExprList) → ExprList

  -- the operators of a chain, each with the operand after it
  pub data LinkList : Type 0 where
    no_links : LinkList
    more_links : (token : ℕ) (sign : Sign) (operand : ExprTree) (rest : LinkList) → LinkList

  pub data PostfixList : Type 0 where
    no_postfix : PostfixList
    index : (token : ℕ) (e : ExprTree) (rest : PostfixList) → PostfixList
    member : (token : ℕ) (name : List ℕ) (rest : PostfixList) → PostfixList
    arrow : (token : ℕ) (name : List ℕ) (rest : PostfixList) → PostfixList
    increment : (token : ℕ) (rest : PostfixList) → PostfixList
    decrement : (token : ℕ) (rest : PostfixList) → PostfixList
