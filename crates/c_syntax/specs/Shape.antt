-- Which trees the grammar makes: what its rules want beyond the kinds of their parts (C99 6.5 to 6.9, as restated).
use Rattle.std.specs.Prelude.{◌≡◌, ℕ, ◌+◌, ◌≤◌, Bool, true, false, IsTrue, List, [], ◌∷◌, IfSome}
use Rattle.std.specs.List.{AllByRecursion}
use Rattle.c_syntax.specs.declared.token.Sign.{Sign}
use Rattle.c_syntax.specs.declared.token.Sign.TheVariants as sign
use Rattle.c_syntax.specs.declared.parts.Base.{Base}
use Rattle.c_syntax.specs.declared.parts.Base.TheVariants as base
use Rattle.c_syntax.specs.declared.parts.Members.{Members}
use Rattle.c_syntax.specs.declared.parts.Param.{Param}
use Rattle.c_syntax.specs.declared.parts.Params.{Params}
use Rattle.c_syntax.specs.declared.parts.Params.TheVariants as params
use Rattle.c_syntax.specs.declared.expr.PrefixOperator.{PrefixOperator}
use Rattle.c_syntax.specs.declared.expr.PrefixOperator.TheVariants as prefix
use Rattle.c_syntax.specs.ExprTree as e
use Rattle.c_syntax.specs.ExprTree.{ExprTree, ExprList, LinkList, PostfixList}
use Rattle.c_syntax.specs.StatementTree as s
use Rattle.c_syntax.specs.StatementTree.{InitialTree, StartTree, DeclarationTree, ForStartTree, StatementTree, EntryList}
use Rattle.c_syntax.specs.ItemTree as i
use Rattle.c_syntax.specs.ItemTree.{ItemTree}

-- which operators each level of a chain has: 1 for `||` up to 10 for `* / %`, and 0 for what is none
abbrev pub level_of : Sign → ℕ
level_of sign.OrOr = 1
level_of sign.AndAnd = 2
level_of sign.Bar = 3
level_of sign.Caret = 4
level_of sign.Ampersand = 5
level_of sign.EqualEqual = 6
level_of sign.NotEqual = 6
level_of sign.Less = 7
level_of sign.Greater = 7
level_of sign.LessEqual = 7
level_of sign.GreaterEqual = 7
level_of sign.ShiftLeft = 8
level_of sign.ShiftRight = 8
level_of sign.Plus = 9
level_of sign.Minus = 9
level_of sign.Star = 10
level_of sign.Slash = 10
level_of sign.Percent = 10
level_of _ = 0

abbrev pub is_assignment : Sign → Bool
is_assignment sign.Equal = true
is_assignment sign.StarEqual = true
is_assignment sign.SlashEqual = true
is_assignment sign.PercentEqual = true
is_assignment sign.PlusEqual = true
is_assignment sign.MinusEqual = true
is_assignment sign.ShiftLeftEqual = true
is_assignment sign.ShiftRightEqual = true
is_assignment sign.AndEqual = true
is_assignment sign.XorEqual = true
is_assignment sign.OrEqual = true
is_assignment _ = false

-- The rules of expressions from the outermost in: a place for one rule takes the rules after it too.
abbrev pub expression_rank : ExprTree → ℕ
expression_rank (e.Comma token operands) = 0
expression_rank (e.Assign token x target value) = 1
expression_rank (e.Conditional token condition first second) = 2
expression_rank (e.Chain level first links) = level + 2
expression_rank (e.Cast token b stars operand) = 13
expression_rank (e.Prefix token operator operand) = 14
expression_rank (e.SizeOfType token b stars) = 14
expression_rank (e.Postfix primary operators) = 15
expression_rank _ = 16

-- the rank that a prefix operator's operand has at least: a unary expression, or a cast
abbrev pub operand_rank : PrefixOperator → ℕ
operand_rank prefix.Increment = 14
operand_rank prefix.Decrement = 14
operand_rank prefix.SizeOf = 14
operand_rank _ = 13

abbrev pub HasOne : {A : Type 0} → List A → Type 0
HasOne [] = ⊥
HasOne (x ∷ xs) = Unit {0}

abbrev pub HasExpr : ExprList → Type 0
HasExpr e.no_exprs = ⊥
HasExpr (e.more_exprs x rest) = Unit {0}

abbrev pub HasTwo : ExprList → Type 0
HasTwo e.no_exprs = ⊥
HasTwo (e.more_exprs x rest) = HasExpr rest

abbrev pub HasLink : LinkList → Type 0
HasLink e.no_links = ⊥
HasLink (e.more_links token x operand rest) = Unit {0}

abbrev pub HasPostfix : PostfixList → Type 0
HasPostfix e.no_postfix = ⊥
HasPostfix _ = Unit {0}

abbrev mutual
  pub ShapedExpr : ExprTree → Type 0
  ShapedExpr (e.Comma token operands) = HasTwo operands × ShapedExprs operands
  ShapedExpr (e.Assign token x target value) =
      IsTrue (is_assignment x) × (14 ≤ expression_rank target) × ShapedExpr target × (1 ≤ expression_rank value) × ShapedExpr value
  ShapedExpr (e.Conditional token condition first second) =
      (3 ≤ expression_rank condition) × ShapedExpr condition × ShapedExpr first × (2 ≤ expression_rank second) × ShapedExpr second
  ShapedExpr (e.Chain level first links) =
      (1 ≤ level) × (level ≤ 10) × (level + 3 ≤ expression_rank first) × ShapedExpr first × HasLink links × ShapedLinks level links
  ShapedExpr (e.Cast token b stars operand) = (13 ≤ expression_rank operand) × ShapedExpr operand
  ShapedExpr (e.Prefix token operator operand) = (operand_rank operator ≤ expression_rank operand) × ShapedExpr operand
  ShapedExpr (e.SizeOfType token b stars) = Unit {0}
  ShapedExpr (e.Postfix primary operators) = (16 ≤ expression_rank primary) × ShapedExpr primary × HasPostfix operators × ShapedPostfix operators
  ShapedExpr (e.Name token name) = Unit {0}
  ShapedExpr (e.Call token name arguments) = ShapedExprs arguments
  ShapedExpr (e.Constant token kind value) = Unit {0}
  ShapedExpr (e.Strings token parts) = HasOne parts
  ShapedExpr (e.Paren token inner) = ShapedExpr inner
  ShapedExpr (e.Null token) = Unit {0}
  ShapedExpr (e.EndOfFile token) = Unit {0}

  -- operands of a comma expression, arguments and items of a braced list: none of them is a comma expression itself
  pub ShapedExprs : ExprList → Type 0
  ShapedExprs e.no_exprs = Unit {0}
  ShapedExprs (e.more_exprs x rest) = (1 ≤ expression_rank x) × ShapedExpr x × ShapedExprs rest

  -- operators of this level, with operands of the next one
  pub ShapedLinks : ℕ → LinkList → Type 0
  ShapedLinks level e.no_links = Unit {0}
  ShapedLinks level (e.more_links token x operand rest) =
      (level_of x ≡ level) × (level + 3 ≤ expression_rank operand) × ShapedExpr operand × ShapedLinks level rest

  pub ShapedPostfix : PostfixList → Type 0
  ShapedPostfix e.no_postfix = Unit {0}
  ShapedPostfix (e.index token x rest) = ShapedExpr x × ShapedPostfix rest
  ShapedPostfix (e.member token name rest) = ShapedPostfix rest
  ShapedPostfix (e.arrow token name rest) = ShapedPostfix rest
  ShapedPostfix (e.increment token rest) = ShapedPostfix rest
  ShapedPostfix (e.decrement token rest) = ShapedPostfix rest

abbrev pub ShapedInitial : InitialTree → Type 0
ShapedInitial (s.Value value) = (1 ≤ expression_rank value) × ShapedExpr value
ShapedInitial (s.Braced token items comma) = HasExpr items × ShapedExprs items

abbrev pub ShapedStart : StartTree → Type 0
ShapedStart x = IfSome x.initial ShapedInitial

abbrev pub ShapedDeclaration : DeclarationTree → Type 0
ShapedDeclaration d = HasOne d.starts × AllByRecursion ShapedStart d.starts

abbrev pub ShapedForStart : ForStartTree → Type 0
ShapedForStart (s.Declares declaration) = ShapedDeclaration declaration
ShapedForStart (s.Computes x) = IfSome x ShapedExpr

-- Whether the statement ends in an `if` that could take an `else` after it.
abbrev pub ends_open : StatementTree → Bool
ends_open (s.If token condition first) = true
ends_open (s.IfElse token condition first second) = ends_open second
ends_open (s.While token condition body) = ends_open body
ends_open (s.For token start condition step body) = ends_open body
ends_open _ = false

abbrev mutual
  -- An `else` belongs to the nearest `if` that can take it, so none stands behind a statement that ends in one.
  pub ShapedStatement : StatementTree → Type 0
  ShapedStatement (s.Block token entries) = ShapedEntries entries
  ShapedStatement (s.Empty token) = Unit {0}
  ShapedStatement (s.Expr token x) = ShapedExpr x
  ShapedStatement (s.If token condition first) = ShapedExpr condition × ShapedStatement first
  ShapedStatement (s.IfElse token condition first second) = ShapedExpr condition × ShapedStatement first × (ends_open first ≡ false) × ShapedStatement second
  ShapedStatement (s.While token condition body) = ShapedExpr condition × ShapedStatement body
  ShapedStatement (s.Do token body condition) = ShapedStatement body × ShapedExpr condition
  ShapedStatement (s.For token start condition step body) = ShapedForStart start × IfSome condition ShapedExpr × IfSome step ShapedExpr × ShapedStatement body
  ShapedStatement (s.Return token value) = IfSome value ShapedExpr
  ShapedStatement (s.Break token) = Unit {0}
  ShapedStatement (s.Continue token) = Unit {0}

  pub ShapedEntries : EntryList → Type 0
  ShapedEntries s.no_entries = Unit {0}
  ShapedEntries (s.declared declaration rest) = ShapedDeclaration declaration × ShapedEntries rest
  ShapedEntries (s.stated statement rest) = ShapedStatement statement × ShapedEntries rest

-- A parameter of base `void` has a star.
abbrev pub ShapedParamOf : Base → ℕ → Type 0
ShapedParamOf (base.Void token) stars = 1 ≤ stars
ShapedParamOf _ stars = Unit {0}

abbrev pub ShapedParam : Param → Type 0
ShapedParam p = ShapedParamOf p.base p.stars

abbrev pub ShapedParams : Params → Type 0
ShapedParams params.Empty = Unit {0}
ShapedParams params.Void = Unit {0}
ShapedParams (params.List list) = HasOne list × AllByRecursion ShapedParam list

abbrev pub ShapedMembers : Members → Type 0
ShapedMembers m = HasOne m.declarators

abbrev pub ShapedItem : ItemTree → Type 0
ShapedItem (i.Struct token tag members) = HasOne members × AllByRecursion ShapedMembers members
ShapedItem (i.Function token b stars name ps body) = ShapedParams ps × IfSome body ShapedEntries
ShapedItem (i.Declaration declaration) = ShapedDeclaration declaration
