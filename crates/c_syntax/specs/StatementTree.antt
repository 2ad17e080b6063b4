-- Declarations and statements as trees, apart from how memory holds them.
use Rattle.std.specs.Prelude.{ℕ, Bool, Option, List}
use Rattle.c_syntax.specs.declared.parts.Base.{Base}
use Rattle.c_syntax.specs.declared.parts.Declarator.{Declarator}
use Rattle.c_syntax.specs.ExprTree.{ExprTree, ExprList}

pub data InitialTree : Type 0 where
  Value : (value : ExprTree) → InitialTree
  Braced : (token : ℕ) (items : ExprList) (comma : Bool) → InitialTree

pub record StartTree : Type 0 where
  pub token : ℕ
  pub declarator : Declarator
  pub initial : Option InitialTree

pub record DeclarationTree : Type 0 where
  pub token : ℕ
  pub base : Base
  pub starts : List StartTree

pub data ForStartTree : Type 0 where
  Declares : (declaration : DeclarationTree) → ForStartTree
  Computes : (e : Option ExprTree) → ForStartTree

mutual
  pub data StatementTree : Type 0 where
    Block : (token : ℕ) (entries : EntryList) → StatementTree
    Empty : (token : ℕ) → StatementTree
    Expr : (token : ℕ) (e : ExprTree) → StatementTree
    If : (token : ℕ) (condition : ExprTree) (first : StatementTree) → StatementTree
    IfElse : (token : ℕ) (condition : ExprTree) (first second : StatementTree) → StatementTree
    While : (token : ℕ) (condition : ExprTree) (body : StatementTree) → StatementTree
    Do : (token : ℕ) (body : StatementTree) (condition : ExprTree) → StatementTree
    For : (token : ℕ) (start : ForStartTree) (condition step : Option ExprTree) (body : StatementTree) → StatementTree
    Return : (token : ℕ) (value : Option ExprTree) → StatementTree
    Break : (token : ℕ) → StatementTree
    Continue : (token : ℕ) → StatementTree

  pub data EntryList : Type 0 where
    no_entries : EntryList
    declared : (declaration : DeclarationTree) (rest : EntryList) → EntryList
    stated : (statement : StatementTree) (rest : EntryList) → EntryList
