-- How many things each part of a text needs room for, and how many bytes its strings have.
use Rattle.std.specs.Prelude.{ℕ, ◌+◌, List, [], ◌∷◌, length, Option, Some, None}
use Rattle.c_syntax.specs.Words.{ExprTree, InitialTree, StartTree, DeclarationTree, ForStartTree, StatementTree, EntryList, ItemTree}
use Rattle.c_syntax.specs.StatementTree as s
use Rattle.c_syntax.specs.ItemTree as i
use Rattle.c_types_expressions.specs.Room.{expr_text, exprs_text, items_in}
use Rattle.c_types_walk.specs.ItemWalk.{listed_params}

-- an initialiser: its items, which may give an array its length
abbrev pub initial_needs : Option InitialTree → ℕ
initial_needs None = 0
initial_needs (Some (s.Value value)) = 0
initial_needs (Some (s.Braced token items comma)) = items_in items

-- a variable, with its initialiser
abbrev pub start_needs : StartTree → ℕ
start_needs x = 1 + initial_needs x.initial

abbrev pub starts_need : List StartTree → ℕ
starts_need [] = 0
starts_need (x ∷ xs) = start_needs x + starts_need xs

abbrev pub declaration_needs : DeclarationTree → ℕ
declaration_needs d = starts_need d.starts

abbrev pub for_start_needs : ForStartTree → ℕ
for_start_needs (s.Declares declaration) = declaration_needs declaration
for_start_needs (s.Computes x) = 0

abbrev mutual
  pub statement_needs : StatementTree → ℕ
  statement_needs (s.Block token entries) = entries_need entries
  statement_needs (s.Empty token) = 0
  statement_needs (s.Expr token x) = 0
  statement_needs (s.If token condition first) = statement_needs first
  statement_needs (s.IfElse token condition first second) = statement_needs first + statement_needs second
  statement_needs (s.While token condition body) = statement_needs body
  statement_needs (s.Do token body condition) = statement_needs body
  statement_needs (s.For token start condition step body) = for_start_needs start + statement_needs body
  statement_needs (s.Return token value) = 0
  statement_needs (s.Break token) = 0
  statement_needs (s.Continue token) = 0

  pub entries_need : EntryList → ℕ
  entries_need s.no_entries = 0
  entries_need (s.declared declaration rest) = declaration_needs declaration + entries_need rest
  entries_need (s.stated statement rest) = statement_needs statement + entries_need rest

abbrev pub body_needs : Option EntryList → ℕ
body_needs None = 0
body_needs (Some entries) = entries_need entries

-- a function with so many parameters: the function and its definition, the parameters, and what its body declares
abbrev pub function_needs : ℕ → Option EntryList → ℕ
function_needs parameters body = 2 + parameters + body_needs body

abbrev pub item_needs : ItemTree → ℕ
item_needs (i.Struct token tag members) = 1
item_needs (i.Function token base stars name ps body) = function_needs (length (listed_params ps)) body
item_needs (i.Declaration declaration) = declaration_needs declaration

abbrev pub items_need : List ItemTree → ℕ
items_need [] = 0
items_need (x ∷ xs) = item_needs x + items_need xs

-- the strings of each part

abbrev pub part_text : Option ExprTree → ℕ
part_text None = 0
part_text (Some x) = expr_text x

abbrev pub initial_text : Option InitialTree → ℕ
initial_text None = 0
initial_text (Some (s.Value value)) = expr_text value
initial_text (Some (s.Braced token items comma)) = exprs_text items

abbrev pub start_text : StartTree → ℕ
start_text x = initial_text x.initial

abbrev pub starts_text : List StartTree → ℕ
starts_text [] = 0
starts_text (x ∷ xs) = start_text x + starts_text xs

abbrev pub declaration_text : DeclarationTree → ℕ
declaration_text d = starts_text d.starts

abbrev pub for_start_text : ForStartTree → ℕ
for_start_text (s.Declares declaration) = declaration_text declaration
for_start_text (s.Computes x) = part_text x

abbrev mutual
  pub statement_text : StatementTree → ℕ
  statement_text (s.Block token entries) = entries_text entries
  statement_text (s.Empty token) = 0
  statement_text (s.Expr token x) = expr_text x
  statement_text (s.If token condition first) = expr_text condition + statement_text first
  statement_text (s.IfElse token condition first second) = expr_text condition + statement_text first + statement_text second
  statement_text (s.While token condition body) = expr_text condition + statement_text body
  statement_text (s.Do token body condition) = statement_text body + expr_text condition
  statement_text (s.For token start condition step body) = for_start_text start + part_text condition + part_text step + statement_text body
  statement_text (s.Return token value) = part_text value
  statement_text (s.Break token) = 0
  statement_text (s.Continue token) = 0

  pub entries_text : EntryList → ℕ
  entries_text s.no_entries = 0
  entries_text (s.declared declaration rest) = declaration_text declaration + entries_text rest
  entries_text (s.stated statement rest) = statement_text statement + entries_text rest

abbrev pub body_text : Option EntryList → ℕ
body_text None = 0
body_text (Some entries) = entries_text entries

abbrev pub item_text : ItemTree → ℕ
item_text (i.Struct token tag members) = 0
item_text (i.Function token base stars name ps body) = body_text body
item_text (i.Declaration declaration) = declaration_text declaration

abbrev pub items_text : List ItemTree → ℕ
items_text [] = 0
items_text (x ∷ xs) = item_text x + items_text xs
