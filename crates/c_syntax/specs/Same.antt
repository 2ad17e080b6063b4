-- Two Rust values that are the same but for where in memory they lie: the same variant with the same fields, and parts with equal
-- trees, in a box by what is in it and in a vector by its items.
use Rattle.std.specs.Prelude.{◌≡◌, List, map, Option, option_map}
use Rattle.c_syntax.specs.declared.expr.Expr.{Expr}
use Rattle.c_syntax.specs.declared.expr.Expr.TheOpen.{Expr-F, PostfixOperator-F}
use Rattle.c_syntax.specs.declared.expr.Expr.TheOpen as layer
use Rattle.c_syntax.specs.declared.expr.Expr.TheViews.{out-Expr, out-PostfixOperator}
use Rattle.c_syntax.specs.declared.expr.Link.{Link}
use Rattle.c_syntax.specs.declared.expr.PostfixOperator.{PostfixOperator}
use Rattle.c_syntax.specs.declared.statement.Entry.{Entry}
use Rattle.c_syntax.specs.declared.statement.Entry.TheOpen.{Entry-F, Statement-F}
use Rattle.c_syntax.specs.declared.statement.Entry.TheOpen as part
use Rattle.c_syntax.specs.declared.statement.Entry.TheViews.{out-Entry, out-Statement}
use Rattle.c_syntax.specs.declared.statement.Statement.{Statement}
use Rattle.c_syntax.specs.ExprTree as e
use Rattle.c_syntax.specs.StatementTree as s
use Rattle.c_syntax.specs.Plain.{plain_expr, plain_link, plain_postfix, plain_declaration, plain_for_start, plain_entry, plain_second, plain_statement}

-- equal trees
abbrev pub ExprsAlike : Expr → Expr → Type 0
ExprsAlike x y = plain_expr x ≡ plain_expr y

abbrev pub ExprListsAlike : List Expr → List Expr → Type 0
ExprListsAlike xs ys = map plain_expr xs ≡ map plain_expr ys

abbrev pub OptionsAlike : Option Expr → Option Expr → Type 0
OptionsAlike x y = option_map plain_expr x ≡ option_map plain_expr y

-- a link, an operator and an entry by the tree of a list that has it alone
abbrev pub LinksAlike : List Link → List Link → Type 0
LinksAlike xs ys = map (λ l. plain_link l e.no_links) xs ≡ map (λ l. plain_link l e.no_links) ys

abbrev pub OperatorsAlike : List PostfixOperator → List PostfixOperator → Type 0
OperatorsAlike xs ys = map (λ o. plain_postfix o e.no_postfix) xs ≡ map (λ o. plain_postfix o e.no_postfix) ys

abbrev pub EntriesAlike : List Entry → List Entry → Type 0
EntriesAlike xs ys = map (λ x. plain_entry x s.no_entries) xs ≡ map (λ x. plain_entry x s.no_entries) ys

abbrev pub StatementsAlike : Statement → Statement → Type 0
StatementsAlike x y = plain_statement x ≡ plain_statement y

abbrev pub SameExprLayer : Expr-F Expr PostfixOperator Link → Expr-F Expr PostfixOperator Link → Type 0
SameExprLayer (layer.Comma t xs) (layer.Comma u ys) = (t ≡ u) × ExprListsAlike xs.items ys.items
SameExprLayer (layer.Assign t p a b) (layer.Assign u q c d) = (t ≡ u) × (p ≡ q) × ExprsAlike a.value c.value × ExprsAlike b.value d.value
SameExprLayer (layer.Conditional t a b c) (layer.Conditional u d f g) =
    (t ≡ u) × ExprsAlike a.value d.value × ExprsAlike b.value f.value × ExprsAlike c.value g.value
SameExprLayer (layer.Chain m a xs) (layer.Chain n b ys) = (m ≡ n) × ExprsAlike a.value b.value × LinksAlike xs.items ys.items
SameExprLayer (layer.Cast t b m x) (layer.Cast u c n y) = (t ≡ u) × (b ≡ c) × (m ≡ n) × ExprsAlike x.value y.value
SameExprLayer (layer.Prefix t o x) (layer.Prefix u p y) = (t ≡ u) × (o ≡ p) × ExprsAlike x.value y.value
SameExprLayer (layer.SizeOfType t b m) (layer.SizeOfType u c n) = (t ≡ u) × (b ≡ c) × (m ≡ n)
SameExprLayer (layer.Postfix x xs) (layer.Postfix y ys) = ExprsAlike x.value y.value × OperatorsAlike xs.items ys.items
SameExprLayer (layer.Name t n) (layer.Name u m) = (t ≡ u) × (n ≡ m)
SameExprLayer (layer.Call t n xs) (layer.Call u m ys) = (t ≡ u) × (n ≡ m) × ExprListsAlike xs.items ys.items
SameExprLayer (layer.Constant t k v) (layer.Constant u l w) = (t ≡ u) × (k ≡ l) × (v ≡ w)
SameExprLayer (layer.Strings t xs) (layer.Strings u ys) = (t ≡ u) × (xs ≡ ys)
SameExprLayer (layer.Paren t x) (layer.Paren u y) = (t ≡ u) × ExprsAlike x.value y.value
SameExprLayer (layer.Null t) (layer.Null u) = t ≡ u
SameExprLayer (layer.EndOfFile t) (layer.EndOfFile u) = t ≡ u
SameExprLayer _ _ = ⊥

abbrev pub SameExpr : Expr → Expr → Type 0
SameExpr x y = SameExprLayer (out-Expr x) (out-Expr y)

abbrev pub SameLink : Link → Link → Type 0
SameLink x y = (x.token ≡ y.token) × (x.sign ≡ y.sign) × ExprsAlike x.operand y.operand

abbrev pub SamePostfixLayer : PostfixOperator-F Expr PostfixOperator Link → PostfixOperator-F Expr PostfixOperator Link → Type 0
SamePostfixLayer (layer.Index t x) (layer.Index u y) = (t ≡ u) × ExprsAlike x y
SamePostfixLayer (layer.Member t n) (layer.Member u m) = (t ≡ u) × (n ≡ m)
SamePostfixLayer (layer.Arrow t n) (layer.Arrow u m) = (t ≡ u) × (n ≡ m)
SamePostfixLayer (layer.Increment t) (layer.Increment u) = t ≡ u
SamePostfixLayer (layer.Decrement t) (layer.Decrement u) = t ≡ u
SamePostfixLayer _ _ = ⊥

abbrev pub SamePostfix : PostfixOperator → PostfixOperator → Type 0
SamePostfix x y = SamePostfixLayer (out-PostfixOperator x) (out-PostfixOperator y)

abbrev pub SameStatementLayer : Statement-F Entry Statement → Statement-F Entry Statement → Type 0
SameStatementLayer (part.Block t xs) (part.Block u ys) = (t ≡ u) × EntriesAlike xs.items ys.items
SameStatementLayer (part.Empty t) (part.Empty u) = t ≡ u
SameStatementLayer (part.Expr t x) (part.Expr u y) = (t ≡ u) × ExprsAlike x y
SameStatementLayer (part.If t c x o) (part.If u d y p) = (t ≡ u) × ExprsAlike c d × StatementsAlike x.value y.value × (plain_second o ≡ plain_second p)
SameStatementLayer (part.While t c x) (part.While u d y) = (t ≡ u) × ExprsAlike c d × StatementsAlike x.value y.value
SameStatementLayer (part.Do t x c) (part.Do u y d) = (t ≡ u) × StatementsAlike x.value y.value × ExprsAlike c d
SameStatementLayer (part.For t f c g x) (part.For u h d j y) =
    (t ≡ u) × (plain_for_start f ≡ plain_for_start h) × OptionsAlike c d × OptionsAlike g j × StatementsAlike x.value y.value
SameStatementLayer (part.Return t x) (part.Return u y) = (t ≡ u) × OptionsAlike x y
SameStatementLayer (part.Break t) (part.Break u) = t ≡ u
SameStatementLayer (part.Continue t) (part.Continue u) = t ≡ u
SameStatementLayer _ _ = ⊥

abbrev pub SameStatement : Statement → Statement → Type 0
SameStatement x y = SameStatementLayer (out-Statement x) (out-Statement y)

abbrev pub SameEntryLayer : Entry-F Entry Statement → Entry-F Entry Statement → Type 0
SameEntryLayer (part.Declaration x) (part.Declaration y) = plain_declaration x ≡ plain_declaration y
SameEntryLayer (part.Statement x) (part.Statement y) = StatementsAlike x y
SameEntryLayer _ _ = ⊥

abbrev pub SameEntry : Entry → Entry → Type 0
SameEntry x y = SameEntryLayer (out-Entry x) (out-Entry y)
