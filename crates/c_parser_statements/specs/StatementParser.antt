-- The parser of statements as a function on lists.
use Rattle.std.specs.Prelude.{ℕ, zero, suc, ◌-◌, ◌==◌, if◌then◌else◌, Option, Some, None, Ok, Err}
use Rattle.c_syntax.specs.declared.token.Sign.{Sign}
use Rattle.c_syntax.specs.declared.token.Sign.TheVariants as sign
use Rattle.c_syntax.specs.declared.token.Word.TheVariants as word
use Rattle.c_syntax.specs.declared.token.TokenKind.{TokenKind}
use Rattle.c_syntax.specs.declared.token.TokenKind.TheVariants as kind
use Rattle.c_syntax.specs.Words.{ExprTree, ForStartTree, StatementTree, EntryList, entry_list, if_tree}
use Rattle.c_syntax.specs.StatementTree as s
use Rattle.c_parser_expressions.specs.Reading.{Cursor, Read, first_kind, next_cursor}
use Rattle.c_parser_expressions.specs.Marks.{begins_with_sign, begins_with_word}
use Rattle.c_parser_expressions.specs.Steps.{◌>>=◌, Step, all_of, the_sign, the_word}
use Rattle.c_parser_expressions.specs.ExpressionParser.{begins_type, closed_by, whole_by, deeper_than}
use Rattle.c_parser_declarations.specs.DeclarationParser.{declaration_by}

-- an expression or none, and the sign behind it
unfoldable pub optional_by : (depth : ℕ) → Sign → Cursor → Read (Option ExprTree)
optional_by depth end c = if begins_with_sign end c.rest then Ok (None, next_cursor c) else (do
  x ← closed_by (whole_by depth (deeper_than depth)) end c
  Ok (Some x.0, x.1))

-- an expression in parentheses, which add nothing to its nesting
unfoldable pub condition_by : (depth : ℕ) → Cursor → Read ExprTree
condition_by depth c = do
  y ← the_sign sign.LeftParen c
  closed_by (whole_by depth (deeper_than depth)) sign.RightParen y.1

unfoldable pub expression_by : (depth : ℕ) → Cursor → Read StatementTree
expression_by depth c = do
  x ← closed_by (whole_by depth (deeper_than depth)) sign.Semicolon c
  Ok (s.Expr c.at x.0, x.1)

-- the second branch, where one begins
unfoldable pub otherwise_by : (Cursor → Read StatementTree) → Cursor → Read (Option StatementTree)
otherwise_by deeper c = if begins_with_word word.Else c.rest then (do
  x ← deeper (next_cursor c)
  Ok (Some x.0, x.1))
    else Ok (None, c)

unfoldable pub if_by : (depth : ℕ) → (Cursor → Read StatementTree) → Cursor → Read StatementTree
if_by depth deeper c = if depth == 0 then Err c.at else (do
  x ← condition_by depth (next_cursor c)
  y ← deeper x.1
  z ← otherwise_by deeper y.1
  Ok (if_tree c.at x.0 y.0 z.0, z.1))

unfoldable pub while_by : (depth : ℕ) → (Cursor → Read StatementTree) → Cursor → Read StatementTree
while_by depth deeper c = if depth == 0 then Err c.at else (do
  x ← condition_by depth (next_cursor c)
  y ← deeper x.1
  Ok (s.While c.at x.0 y.0, y.1))

-- what stands behind the body of a `do`
unfoldable pub until_by : (depth : ℕ) → Cursor → Read ExprTree
until_by depth c = do
  w ← the_word word.While c
  x ← condition_by depth w.1
  y ← the_sign sign.Semicolon x.1
  Ok (x.0, y.1)

unfoldable pub do_by : (depth : ℕ) → (Cursor → Read StatementTree) → Cursor → Read StatementTree
do_by depth deeper c = if depth == 0 then Err c.at else (do
  x ← deeper (next_cursor c)
  y ← until_by depth x.1
  Ok (s.Do c.at x.0 y.0, y.1))

unfoldable pub for_start_by : (depth : ℕ) → Cursor → Read ForStartTree
for_start_by depth c = if begins_type c.rest then (do
  x ← declaration_by 0 (depth - 1) c
  Ok (s.Declares x.0, x.1))
    else (do
      x ← optional_by depth sign.Semicolon c
      Ok (s.Computes x.0, x.1))

-- what stands in the parentheses of a `for`
pub record Header : Type 0 where
  pub start : ForStartTree
  pub condition : Option ExprTree
  pub step : Option ExprTree

unfoldable pub header_by : (depth : ℕ) → Cursor → Read Header
header_by depth c = do
  y ← the_sign sign.LeftParen c
  start ← for_start_by depth y.1
  condition ← optional_by depth sign.Semicolon start.1
  step ← optional_by depth sign.RightParen condition.1
  Ok (record { start = start.0; condition = condition.0; step = step.0 }, step.1)

unfoldable pub for_by : (depth : ℕ) → (Cursor → Read StatementTree) → Cursor → Read StatementTree
for_by depth deeper c = if depth == 0 then Err c.at else (do
  h ← header_by depth (next_cursor c)
  x ← deeper h.1
  Ok (s.For c.at h.0.start h.0.condition h.0.step x.0, x.1))

unfoldable pub return_by : (depth : ℕ) → Cursor → Read StatementTree
return_by depth c = do
  x ← optional_by depth sign.Semicolon (next_cursor c)
  Ok (s.Return c.at x.0, x.1)

-- `break` or `continue`
unfoldable pub jump_by : (ℕ → StatementTree) → Cursor → Read StatementTree
jump_by jump c = do
  y ← the_sign sign.Semicolon (next_cursor c)
  Ok (jump c.at, y.1)

-- an entry, as what it puts before those after it
unfoldable pub entry_by : (depth : ℕ) → (Cursor → Read StatementTree) → Cursor → Read (EntryList → EntryList)
entry_by depth deeper c = if depth == 0 then Err c.at else (if begins_type c.rest then (do
  x ← declaration_by 0 (depth - 1) c
  Ok (s.declared x.0, x.1))
    else (do
      x ← deeper c
      Ok (s.stated x.0, x.1)))

unfoldable pub entry_step : (depth : ℕ) → (Cursor → Read StatementTree) → Cursor → Step (EntryList → EntryList)
entry_step depth deeper c = if begins_with_sign sign.RightBrace c.rest then None else Some (entry_by depth deeper c)

-- entries up to a brace
unfoldable pub entries_by : (depth : ℕ) → (Cursor → Read StatementTree) → Cursor → Read EntryList
entries_by depth deeper c = do
  xs ← all_of (entry_step depth deeper) c
  y ← the_sign sign.RightBrace xs.1
  Ok (entry_list xs.0, y.1)

unfoldable pub block_by : (depth : ℕ) → (Cursor → Read StatementTree) → Cursor → Read StatementTree
block_by depth deeper c = do
  x ← entries_by depth deeper (next_cursor c)
  Ok (s.Block c.at x.0, x.1)

abbrev pub statement_of : (depth : ℕ) → (Cursor → Read StatementTree) → Cursor → Option TokenKind → Read StatementTree
statement_of depth deeper c (Some (kind.Punctuator sign.LeftBrace)) = block_by depth deeper c
statement_of depth deeper c (Some (kind.Punctuator sign.Semicolon)) = Ok (s.Empty c.at, next_cursor c)
statement_of depth deeper c (Some (kind.Word word.If)) = if_by depth deeper c
statement_of depth deeper c (Some (kind.Word word.While)) = while_by depth deeper c
statement_of depth deeper c (Some (kind.Word word.Do)) = do_by depth deeper c
statement_of depth deeper c (Some (kind.Word word.For)) = for_by depth deeper c
statement_of depth deeper c (Some (kind.Word word.Return)) = return_by depth c
statement_of depth deeper c (Some (kind.Word word.Break)) = jump_by s.Break c
statement_of depth deeper c (Some (kind.Word word.Continue)) = jump_by s.Continue c
statement_of depth deeper c _ = expression_by depth c

unfoldable pub statement_by : (depth : ℕ) → (Cursor → Read StatementTree) → Cursor → Read StatementTree
statement_by depth deeper c = statement_of depth deeper c (first_kind c.rest)

-- a statement that may still nest so deep
unfoldable pub statement_at_depth : (depth : ℕ) → Cursor → Read StatementTree
statement_at_depth zero c = statement_by 0 (λ d. Err d.at) c
statement_at_depth (suc n) c = statement_by (suc n) (statement_at_depth n) c

-- what lies deeper
unfoldable pub statements_below : (depth : ℕ) → Cursor → Read StatementTree
statements_below zero c = Err c.at
statements_below (suc n) c = statement_at_depth n c
