-- The tree that a Rust value holds: its parts, without where in memory they lie.
use Rattle.std.specs.Prelude.{ℕ, List, [], ◌∷◌, map, option_map, Option, Some, None, Box}
use Rattle.std.specs.Global.{Global}
use Rattle.c_syntax.specs.declared.expr.Expr.{Expr}
use Rattle.c_syntax.specs.declared.expr.Expr.TheFolds.{fold-Expr, fold-Link, fold-PostfixOperator}
use Rattle.c_syntax.specs.declared.expr.Expr.TheOpen.{Expr-F, Link-F, PostfixOperator-F}
use Rattle.c_syntax.specs.declared.expr.Expr.TheOpen as layer
use Rattle.c_syntax.specs.declared.expr.Link.{Link}
use Rattle.c_syntax.specs.declared.expr.PostfixOperator.{PostfixOperator}
use Rattle.c_syntax.specs.declared.statement.Declaration.{Declaration}
use Rattle.c_syntax.specs.declared.statement.Start.{Start}
use Rattle.c_syntax.specs.declared.statement.Initial.{Initial}
use Rattle.c_syntax.specs.declared.statement.Initial.TheVariants as initial
use Rattle.c_syntax.specs.declared.statement.ForStart.{ForStart}
use Rattle.c_syntax.specs.declared.statement.ForStart.TheVariants as for_start
use Rattle.c_syntax.specs.declared.statement.Entry.{Entry}
use Rattle.c_syntax.specs.declared.statement.Statement.{Statement}
use Rattle.c_syntax.specs.declared.statement.Entry.TheFolds.{fold-Entry, fold-Statement}
use Rattle.c_syntax.specs.declared.statement.Entry.TheOpen.{Entry-F, Statement-F}
use Rattle.c_syntax.specs.declared.statement.Entry.TheOpen as part
use Rattle.c_syntax.specs.declared.tree.Item.{Item}
use Rattle.c_syntax.specs.declared.tree.Item.TheVariants as item
use Rattle.c_syntax.specs.declared.tree.Tree.{Tree}
use Rattle.c_syntax.specs.ExprTree as e
use Rattle.c_syntax.specs.ExprTree.{ExprTree, ExprList, LinkList, PostfixList}
use Rattle.c_syntax.specs.StatementTree as s
use Rattle.c_syntax.specs.StatementTree.{InitialTree, StartTree, DeclarationTree, ForStartTree, StatementTree, EntryList}
use Rattle.c_syntax.specs.ItemTree as i
use Rattle.c_syntax.specs.ItemTree.{ItemTree, SourceTree}

abbrev pub expr_list : List ExprTree → ExprList
expr_list [] = e.no_exprs
expr_list (x ∷ xs) = e.more_exprs x (expr_list xs)

-- Operators are seen as what they put before the operators after them.
abbrev pub link_list : List (LinkList → LinkList) → LinkList
link_list [] = e.no_links
link_list (before ∷ rest) = before (link_list rest)

abbrev pub postfix_list : List (PostfixList → PostfixList) → PostfixList
postfix_list [] = e.no_postfix
postfix_list (before ∷ rest) = before (postfix_list rest)

-- One level of an expression, with the tree of each inner one in its place.
abbrev pub expr_level : Expr-F ExprTree (PostfixList → PostfixList) (LinkList → LinkList) → ExprTree
expr_level (layer.Comma token operands) = e.Comma token (expr_list operands.items)
expr_level (layer.Assign token sign target value) = e.Assign token sign target.value value.value
expr_level (layer.Conditional token condition first second) = e.Conditional token condition.value first.value second.value
expr_level (layer.Chain level first links) = e.Chain level first.value (link_list links.items)
expr_level (layer.Cast token base stars operand) = e.Cast token base stars operand.value
expr_level (layer.Prefix token operator operand) = e.Prefix token operator operand.value
expr_level (layer.SizeOfType token base stars) = e.SizeOfType token base stars
expr_level (layer.Postfix primary operators) = e.Postfix primary.value (postfix_list operators.items)
expr_level (layer.Name token name) = e.Name token name
expr_level (layer.Call token name arguments) = e.Call token name (expr_list arguments.items)
expr_level (layer.Constant token kind value) = e.Constant token kind value
expr_level (layer.Strings token parts) = e.Strings token parts
expr_level (layer.Paren token inner) = e.Paren token inner.value
expr_level (layer.Null token) = e.Null token
expr_level (layer.EndOfFile token) = e.EndOfFile token

abbrev pub postfix_level : PostfixOperator-F ExprTree (PostfixList → PostfixList) (LinkList → LinkList) → PostfixList → PostfixList
postfix_level (layer.Index token index) = e.index token index
postfix_level (layer.Member token name) = e.member token name
postfix_level (layer.Arrow token name) = e.arrow token name
postfix_level (layer.Increment token) = e.increment token
postfix_level (layer.Decrement token) = e.decrement token

abbrev pub link_level : Link-F ExprTree (PostfixList → PostfixList) (LinkList → LinkList) → LinkList → LinkList
link_level l = e.more_links l.token l.sign l.operand

abbrev pub plain_expr : Expr → ExprTree
plain_expr = fold-Expr ExprTree (PostfixList → PostfixList) (LinkList → LinkList) expr_level postfix_level link_level

abbrev pub plain_postfix : PostfixOperator → PostfixList → PostfixList
plain_postfix = fold-PostfixOperator ExprTree (PostfixList → PostfixList) (LinkList → LinkList) expr_level postfix_level link_level

abbrev pub plain_link : Link → LinkList → LinkList
plain_link = fold-Link ExprTree (PostfixList → PostfixList) (LinkList → LinkList) expr_level postfix_level link_level

abbrev pub plain_exprs : List Expr → ExprList
plain_exprs xs = expr_list (map plain_expr xs)

abbrev pub plain_links : List Link → LinkList
plain_links xs = link_list (map plain_link xs)

abbrev pub plain_operators : List PostfixOperator → PostfixList
plain_operators xs = postfix_list (map plain_postfix xs)

abbrev pub plain_initial : Initial → InitialTree
plain_initial (initial.Value value) = s.Value (plain_expr value)
plain_initial (initial.Braced token items comma) = s.Braced token (plain_exprs items) comma

abbrev pub plain_start : Start → StartTree
plain_start x = record { token = x.token; declarator = x.declarator; initial = option_map plain_initial x.initial }

abbrev pub plain_declaration : Declaration → DeclarationTree
plain_declaration d = record { token = d.token; base = d.base; starts = map plain_start d.starts }

abbrev pub plain_for_start : ForStart → ForStartTree
plain_for_start (for_start.Declares declaration) = s.Declares (plain_declaration declaration)
plain_for_start (for_start.Computes expr) = s.Computes (option_map plain_expr expr)

-- An entry is seen as what it puts before the entries after it.
abbrev pub entry_list : List (EntryList → EntryList) → EntryList
entry_list [] = s.no_entries
entry_list (before ∷ rest) = before (entry_list rest)

abbrev pub entry_level : Entry-F (EntryList → EntryList) StatementTree → EntryList → EntryList
entry_level (part.Declaration declaration) = s.declared (plain_declaration declaration)
entry_level (part.Statement statement) = s.stated statement

abbrev pub if_tree : ℕ → ExprTree → StatementTree → Option StatementTree → StatementTree
if_tree token condition first None = s.If token condition first
if_tree token condition first (Some second) = s.IfElse token condition first second

-- One level of a statement, with the tree of each inner one in its place.
abbrev pub statement_level : Statement-F (EntryList → EntryList) StatementTree → StatementTree
statement_level (part.Block token entries) = s.Block token (entry_list entries.items)
statement_level (part.Empty token) = s.Empty token
statement_level (part.Expr token expr) = s.Expr token (plain_expr expr)
statement_level (part.If token condition first second) = if_tree token (plain_expr condition) first.value (option_map (λ b. b.value) second)
statement_level (part.While token condition body) = s.While token (plain_expr condition) body.value
statement_level (part.Do token body condition) = s.Do token body.value (plain_expr condition)
statement_level (part.For token start condition step body) =
    s.For token (plain_for_start start) (option_map plain_expr condition) (option_map plain_expr step) body.value
statement_level (part.Return token value) = s.Return token (option_map plain_expr value)
statement_level (part.Break token) = s.Break token
statement_level (part.Continue token) = s.Continue token

abbrev pub plain_entry : Entry → EntryList → EntryList
plain_entry = fold-Entry (EntryList → EntryList) StatementTree entry_level statement_level

abbrev pub plain_statement : Statement → StatementTree
plain_statement = fold-Statement (EntryList → EntryList) StatementTree entry_level statement_level

abbrev pub plain_second : Option (Box Statement Global) → Option StatementTree
plain_second o = option_map (λ b. plain_statement b.value) o

abbrev pub plain_entries : List Entry → EntryList
plain_entries xs = entry_list (map plain_entry xs)

abbrev pub plain_item : Item → ItemTree
plain_item (item.Struct token tag members) = i.Struct token tag members
plain_item (item.Function token base stars name params body) = i.Function token base stars name params (option_map plain_entries body)
plain_item (item.Declaration declaration) = i.Declaration (plain_declaration declaration)

abbrev pub plain_tree : Tree → SourceTree
plain_tree t = record { items = map plain_item t.items; lines = t.lines }
