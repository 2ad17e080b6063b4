-- The most nodes that each part of a text is emitted as: a few for each construct, and one for each visit of a site.
use Rattle.std.specs.Prelude.{ℕ, zero, suc, ◌+◌, length, Option, Some, None}
use Rattle.std.specs.List.{sum_by}
use Rattle.c_syntax.specs.ExprTree as e
use Rattle.c_syntax.specs.Words.{ExprTree, ExprList, LinkList, PostfixList, InitialTree, StartTree, DeclarationTree, ForStartTree, StatementTree, EntryList}
use Rattle.c_syntax.specs.StatementTree as s
use Rattle.c_meaning.specs.Words.{Sites, equals_token, site_list}

module _ (sites : Sites) where
  -- how many sites a condition, a returned value and an assignment at the token visit
  abbrev pub branch_visits : ℕ → ℕ
  branch_visits token = length (site_list (sites.branch_at token))

  abbrev pub return_visits : ℕ → ℕ
  return_visits token = length (site_list (sites.return_at token))

  abbrev pub pair_visits : ℕ → ℕ
  pair_visits token = length (sites.pairs_at token)

  abbrev mutual
    pub expr_room : ExprTree → ℕ
    expr_room (e.Comma token operands) = 3 + exprs_room 0 operands
    expr_room (e.Assign token sign target value) = 14 + pair_visits token + expr_room target + expr_room value
    expr_room (e.Conditional token condition first second) = 9 + branch_visits token + expr_room condition + expr_room first + expr_room second
    expr_room (e.Chain level first links) = 2 + expr_room first + links_room links
    expr_room (e.Cast token base stars operand) = 4 + expr_room operand
    expr_room (e.Prefix token operator operand) = 14 + pair_visits token + expr_room operand
    expr_room (e.SizeOfType token base stars) = 3
    expr_room (e.Postfix primary operators) = 3 + expr_room primary + postfix_room operators
    expr_room (e.Name token name) = 5
    expr_room (e.Call token name arguments) = 5 + return_visits token + exprs_room 3 arguments
    expr_room (e.Constant token kind value) = 2
    expr_room (e.Strings token parts) = 3
    expr_room (e.Paren token inner) = expr_room inner
    expr_room (e.Null token) = 2
    expr_room (e.EndOfFile token) = 2

    -- several expressions, with so many nodes more for each
    pub exprs_room : ℕ → ExprList → ℕ
    exprs_room more e.no_exprs = 0
    exprs_room more (e.more_exprs x rest) = more + expr_room x + exprs_room more rest

    pub links_room : LinkList → ℕ
    links_room e.no_links = 0
    links_room (e.more_links token sign operand rest) = 7 + branch_visits token + expr_room operand + links_room rest

    pub postfix_room : PostfixList → ℕ
    postfix_room e.no_postfix = 0
    postfix_room (e.index token i rest) = 8 + expr_room i + postfix_room rest
    postfix_room (e.member token name rest) = 2 + postfix_room rest
    postfix_room (e.arrow token name rest) = 4 + postfix_room rest
    postfix_room (e.increment token rest) = 16 + pair_visits token + postfix_room rest
    postfix_room (e.decrement token rest) = 16 + pair_visits token + postfix_room rest

  -- an expression that may be missing
  abbrev pub part_room : Option ExprTree → ℕ
  part_room None = 0
  part_room (Some x) = expr_room x

  -- an initialiser of the variable whose name is at the token
  abbrev pub initial_room : ℕ → Option InitialTree → ℕ
  initial_room token None = 0
  initial_room token (Some (s.Value x)) = 6 + pair_visits (equals_token token) + expr_room x
  initial_room token (Some (s.Braced at items comma)) = 2 + exprs_room 8 items

  abbrev pub start_room : StartTree → ℕ
  start_room x = 2 + initial_room x.declarator.name_token x.initial

  abbrev pub declaration_room : DeclarationTree → ℕ
  declaration_room d = sum_by start_room d.starts

  abbrev pub for_start_room : ForStartTree → ℕ
  for_start_room (s.Declares d) = declaration_room d
  for_start_room (s.Computes x) = part_room x

  abbrev mutual
    pub statement_room : StatementTree → ℕ
    statement_room (s.Block token entries) = entries_room entries
    statement_room (s.Empty token) = 0
    statement_room (s.Expr token x) = expr_room x
    statement_room (s.If token condition first) = 1 + branch_visits token + expr_room condition + statement_room first
    statement_room (s.IfElse token condition first second) =
        1 + branch_visits token + expr_room condition + statement_room first + statement_room second
    statement_room (s.While token condition body) = 2 + branch_visits token + expr_room condition + statement_room body
    statement_room (s.Do token body condition) = 2 + branch_visits token + expr_room condition + statement_room body
    statement_room (s.For token start condition step body) =
        2 + branch_visits token + for_start_room start + part_room condition + part_room step + statement_room body
    statement_room (s.Return token value) = 2 + part_room value
    statement_room (s.Break token) = 0
    statement_room (s.Continue token) = 0

    pub entries_room : EntryList → ℕ
    entries_room s.no_entries = 0
    entries_room (s.declared declaration rest) = declaration_room declaration + entries_room rest
    entries_room (s.stated statement rest) = statement_room statement + entries_room rest

  -- what stands behind `else`, where there is one
  abbrev pub second_room : Option StatementTree → ℕ
  second_room None = 0
  second_room (Some x) = statement_room x

  -- the body of a function
  abbrev pub body_room : Option EntryList → ℕ
  body_room None = 2
  body_room (Some entries) = entries_room entries

  -- a function with this body, with where it begins and how it is left
  abbrev pub function_room : Option EntryList → ℕ
  function_room body = 7 + body_room body

  -- so many functions, whose bodies have these numbers
  abbrev pub functions_room : (ℕ → Option EntryList) → ℕ → ℕ
  functions_room body zero = 0
  functions_room body (suc n) = functions_room body n + function_room (body n)
