-- The parser of expressions as a function on lists.
use Rattle.std.specs.Prelude.{ℕ, zero, suc, ◌+◌, ◌-◌, ◌==◌, nat_lt, if◌then◌else◌, Bool, true, false, List, [], ◌∷◌}
use Rattle.std.specs.Prelude.{Option, Some, None, Ok, Err}
use Rattle.c_syntax.specs.declared.token.Sign.{Sign}
use Rattle.c_syntax.specs.declared.token.Sign.TheVariants as sign
use Rattle.c_syntax.specs.declared.token.Word.{Word}
use Rattle.c_syntax.specs.declared.token.Word.TheVariants as word
use Rattle.c_syntax.specs.declared.token.TokenKind.{TokenKind}
use Rattle.c_syntax.specs.declared.token.TokenKind.TheVariants as kind
use Rattle.c_syntax.specs.declared.parts.Base.{Base}
use Rattle.c_syntax.specs.declared.parts.Base.TheVariants as base
use Rattle.c_syntax.specs.declared.expr.PrefixOperator.{PrefixOperator}
use Rattle.c_syntax.specs.declared.expr.PrefixOperator.TheVariants as prefix
use Rattle.c_syntax.specs.ExprTree as e
use Rattle.c_syntax.specs.Words.{ExprTree, LinkList, PostfixList, Kinds, prefix_of, expr_list, link_list, postfix_list, level_of, is_assignment}
use Rattle.c_syntax.specs.Words.{expression_rank}
use Rattle.c_parser_expressions.specs.Reading.{Cursor, Read, first_kind, kinds_behind_first, next_cursor, sign_at, word_at, text_at, kind_word}
use Rattle.c_parser_expressions.specs.Marks.{begins_with_sign, begins_with_word}
use Rattle.c_parser_expressions.specs.Steps.{◌>>=◌, Step, with_front, all_of, the_sign, the_name}

-- whether a base of a type begins there
abbrev pub is_base_word : Option Word → Bool
is_base_word (Some word.Void) = true
is_base_word (Some word.Char) = true
is_base_word (Some word.Int) = true
is_base_word (Some word.Unsigned) = true
is_base_word (Some word.Struct) = true
is_base_word _ = false

abbrev pub is_base_kind : Option TokenKind → Bool
is_base_kind None = false
is_base_kind (Some t) = is_base_word (kind_word t)

abbrev pub begins_type : Kinds → Bool
begins_type k = is_base_word (word_at k)

-- whether a parenthesis with a type in it begins there
abbrev pub opens_type : Kinds → Bool
opens_type k = if begins_with_sign sign.LeftParen k then begins_type (kinds_behind_first k) else false

-- `unsigned`, and `int` where it follows
unfoldable pub the_unsigned : ℕ → Cursor → Read Base
the_unsigned token c = if begins_with_word word.Int c.rest then Ok (base.Unsigned token true, next_cursor c) else Ok (base.Unsigned token false, c)

unfoldable pub the_struct : ℕ → Cursor → Read Base
the_struct token c = do
  tag ← the_name c
  Ok (base.Struct token tag.0, tag.1)

abbrev pub base_of : Cursor → Option Word → Read Base
base_of c (Some word.Void) = Ok (base.Void c.at, next_cursor c)
base_of c (Some word.Char) = Ok (base.Char c.at, next_cursor c)
base_of c (Some word.Int) = Ok (base.Int c.at, next_cursor c)
base_of c (Some word.Unsigned) = the_unsigned c.at (next_cursor c)
base_of c (Some word.Struct) = the_struct c.at (next_cursor c)
base_of c _ = Err c.at

unfoldable pub the_base : Cursor → Read Base
the_base c = base_of c (word_at c.rest)

-- stars for as long as one stands there, and at most so many
unfoldable pub the_stars : (most : ℕ) → Cursor → ℕ × Cursor
the_stars zero c = (0, c)
the_stars (suc n) c = if begins_with_sign sign.Star c.rest then (let more = the_stars n (next_cursor c) in (more.0 + 1, more.1)) else (0, c)

unfoldable pub the_type : (depth : ℕ) → Cursor → Read (Base × ℕ)
the_type depth c = do
  b ← the_base c
  Ok ((b.0, (the_stars depth b.1).0), (the_stars depth b.1).1)

-- a type's name and the parenthesis behind it
unfoldable pub closed_type : (depth : ℕ) → Cursor → Read (Base × ℕ)
closed_type depth c = do
  t ← the_type depth c
  y ← the_sign sign.RightParen t.1
  Ok (t.0, y.1)

-- what reads the expressions that lie one deeper: any, those that are no comma expressions, those that are no assignments either, operands of a cast, and
-- unary ones
pub record Parsers : Type 0 where
  pub whole : Cursor → Read ExprTree
  pub assignment : Cursor → Read ExprTree
  pub conditional : Cursor → Read ExprTree
  pub cast : Cursor → Read ExprTree
  pub unary : Cursor → Read ExprTree

-- an expression and the sign behind it
unfoldable pub closed_by : (Cursor → Read ExprTree) → Sign → Cursor → Read ExprTree
closed_by deeper s c = do
  x ← deeper c
  y ← the_sign s x.1
  Ok (x.0, y.1)

unfoldable pub paren_by : ℕ → Parsers → Cursor → Read ExprTree
paren_by depth deeper c = if depth == 0 then Err c.at else (do
  x ← closed_by deeper.whole sign.RightParen (next_cursor c)
  Ok (e.Paren c.at x.0, x.1))

-- a part with a comma before it
unfoldable pub comma_step : (Cursor → Read ExprTree) → Cursor → Step ExprTree
comma_step item c = if begins_with_sign sign.Comma c.rest then Some (item (next_cursor c)) else None

-- what follows the first of several parts, with it
unfoldable pub more_by : (Cursor → Read ExprTree) → ExprTree → Cursor → Read (List ExprTree)
more_by item x c = with_front (x ∷ []) (all_of (comma_step item) c)

-- expressions with commas between them
unfoldable pub list_by : (Cursor → Read ExprTree) → Cursor → Read (List ExprTree)
list_by item c = do
  x ← item c
  more_by item x.0 x.1

unfoldable pub closed_list : (Cursor → Read ExprTree) → Cursor → Read (List ExprTree)
closed_list item c = do
  xs ← list_by item c
  y ← the_sign sign.RightParen xs.1
  Ok (xs.0, y.1)

-- behind a call's parenthesis
unfoldable pub arguments_by : Parsers → Cursor → Read (List ExprTree)
arguments_by deeper c = if begins_with_sign sign.RightParen c.rest then Ok ([], next_cursor c) else closed_list deeper.assignment c

unfoldable pub call_by : Parsers → ℕ → List ℕ → Cursor → Read ExprTree
call_by deeper token name c = do
  xs ← arguments_by deeper (next_cursor c)
  Ok (e.Call token name (expr_list xs.0), xs.1)

-- behind a name: it is one, or a call
unfoldable pub named_at : Parsers → ℕ → List ℕ → Cursor → Read ExprTree
named_at deeper token name c = if begins_with_sign sign.LeftParen c.rest then call_by deeper token name c else Ok (e.Name token name, c)

unfoldable pub named_by : Parsers → Cursor → Read ExprTree
named_by deeper c = do
  name ← the_name c
  named_at deeper c.at name.0 name.1

abbrev pub text_read : Cursor → Option (List ℕ) → Step (List ℕ)
text_read c (Some bytes) = Some (Ok (bytes, next_cursor c))
text_read c None = None

unfoldable pub text_step : Cursor → Step (List ℕ)
text_step c = text_read c (text_at c.rest)

unfoldable pub strings_by : Cursor → Read ExprTree
strings_by c = do
  xs ← all_of text_step c
  Ok (e.Strings c.at xs.0, xs.1)

abbrev pub primary_of : ℕ → Parsers → Cursor → Option TokenKind → Read ExprTree
primary_of depth deeper c (Some (kind.Word word.Null)) = Ok (e.Null c.at, next_cursor c)
primary_of depth deeper c (Some (kind.Word word.EndOfFile)) = Ok (e.EndOfFile c.at, next_cursor c)
primary_of depth deeper c (Some (kind.Name name)) = named_by deeper c
primary_of depth deeper c (Some (kind.Constant k value)) = Ok (e.Constant c.at k value, next_cursor c)
primary_of depth deeper c (Some (kind.Text bytes)) = strings_by c
primary_of depth deeper c (Some (kind.Punctuator sign.LeftParen)) = paren_by depth deeper c
primary_of depth deeper c _ = Err c.at

unfoldable pub primary_by : ℕ → Parsers → Cursor → Read ExprTree
primary_by depth deeper c = primary_of depth deeper c (first_kind c.rest)

-- the sign of a postfix operator; an index is one deeper
abbrev pub postfix_sign_of : ℕ → Option Sign → Option Sign
postfix_sign_of depth (Some sign.LeftBracket) = if depth == 0 then None else Some sign.LeftBracket
postfix_sign_of depth (Some sign.Dot) = Some sign.Dot
postfix_sign_of depth (Some sign.Arrow) = Some sign.Arrow
postfix_sign_of depth (Some sign.PlusPlus) = Some sign.PlusPlus
postfix_sign_of depth (Some sign.MinusMinus) = Some sign.MinusMinus
postfix_sign_of depth _ = None

unfoldable pub postfix_sign : ℕ → Kinds → Option Sign
postfix_sign depth k = postfix_sign_of depth (sign_at k)

unfoldable pub index_by : Parsers → Cursor → Read (PostfixList → PostfixList)
index_by deeper c = do
  x ← closed_by deeper.whole sign.RightBracket (next_cursor c)
  Ok (e.index c.at x.0, x.1)

unfoldable pub member_by : (ℕ → List ℕ → PostfixList → PostfixList) → Cursor → Read (PostfixList → PostfixList)
member_by operator c = do
  name ← the_name (next_cursor c)
  Ok (operator c.at name.0, name.1)

abbrev pub operator_of : Parsers → Cursor → Sign → Read (PostfixList → PostfixList)
operator_of deeper c sign.LeftBracket = index_by deeper c
operator_of deeper c sign.Dot = member_by e.member c
operator_of deeper c sign.Arrow = member_by e.arrow c
operator_of deeper c sign.PlusPlus = Ok (e.increment c.at, next_cursor c)
operator_of deeper c _ = Ok (e.decrement c.at, next_cursor c)

unfoldable pub operator_by : Parsers → Sign → Cursor → Read (PostfixList → PostfixList)
operator_by deeper s c = operator_of deeper c s

abbrev pub step_of : {A : Type 0} → (Sign → Read A) → Option Sign → Step A
step_of read None = None
step_of read (Some s) = Some (read s)

unfoldable pub postfix_step : ℕ → Parsers → Cursor → Step (PostfixList → PostfixList)
postfix_step depth deeper c = step_of (λ s. operator_by deeper s c) (postfix_sign depth c.rest)

unfoldable pub operators_by : ℕ → Parsers → ExprTree → Cursor → Read ExprTree
operators_by depth deeper x c = do
  fs ← all_of (postfix_step depth deeper) c
  Ok (e.Postfix x (postfix_list fs.0), fs.1)

abbrev pub if_some : {A : Type 0} → Option Sign → Read A → Read A → Read A
if_some None none some = none
if_some (Some s) none some = some

-- an operand with what follows it, or alone
unfoldable pub operated_by : ℕ → Parsers → ExprTree → Cursor → Read ExprTree
operated_by depth deeper x c = if_some (postfix_sign depth c.rest) (Ok (x, c)) (operators_by depth deeper x c)

unfoldable pub postfix_by : ℕ → Parsers → Cursor → Read ExprTree
postfix_by depth deeper c = do
  x ← primary_by depth deeper c
  operated_by depth deeper x.0 x.1

unfoldable pub size_of_operand : Parsers → Cursor → Read ExprTree
size_of_operand deeper c = do
  x ← deeper.unary (next_cursor c)
  Ok (e.Prefix c.at prefix.SizeOf x.0, x.1)

unfoldable pub size_of_type : ℕ → Cursor → Read ExprTree
size_of_type depth c = do
  t ← closed_type depth (next_cursor (next_cursor c))
  Ok (e.SizeOfType c.at t.0.0 t.0.1, t.1)

-- An expression in parentheses lies two deeper, a type doesn't.
unfoldable pub size_of_paren : ℕ → Parsers → Cursor → Read ExprTree
size_of_paren depth deeper c = if nat_lt depth 2 then Err (c.at + 1 + 1) else size_of_operand deeper c

unfoldable pub size_of_by : ℕ → Parsers → Cursor → Read ExprTree
size_of_by depth deeper c =
    if opens_type (kinds_behind_first c.rest) then size_of_type depth c
    else (if begins_with_sign sign.LeftParen (kinds_behind_first c.rest) then size_of_paren depth deeper c else size_of_operand deeper c)

-- an operator before its operand
unfoldable pub prefix_by : ℕ → PrefixOperator → (Cursor → Read ExprTree) → Cursor → Read ExprTree
prefix_by depth operator deeper c = if depth == 0 then Err c.at else (do
  x ← deeper (next_cursor c)
  Ok (e.Prefix c.at operator x.0, x.1))

abbrev pub prefix_at : Kinds → Option PrefixOperator
prefix_at [] = None
prefix_at (x ∷ xs) = prefix_of x

-- what the operator stands before: `++` and `--` before a unary expression, the others before a cast
abbrev pub operand_of : Parsers → PrefixOperator → Cursor → Read ExprTree
operand_of deeper prefix.Increment c = deeper.unary c
operand_of deeper prefix.Decrement c = deeper.unary c
operand_of deeper _ c = deeper.cast c

unfoldable pub operand_by : Parsers → PrefixOperator → Cursor → Read ExprTree
operand_by deeper operator c = operand_of deeper operator c

abbrev pub unary_of : ℕ → Parsers → Cursor → Option PrefixOperator → Read ExprTree
unary_of depth deeper c None = postfix_by depth deeper c
unary_of depth deeper c (Some prefix.SizeOf) = size_of_by depth deeper c
unary_of depth deeper c (Some operator) = prefix_by depth operator (operand_by deeper operator) c

unfoldable pub unary_by : ℕ → Parsers → Cursor → Read ExprTree
unary_by depth deeper c = unary_of depth deeper c (prefix_at c.rest)

-- behind a cast's first parenthesis
unfoldable pub casting_by : ℕ → Parsers → Cursor → Read ExprTree
casting_by depth deeper c = do
  t ← closed_type depth (next_cursor c)
  x ← deeper.cast t.1
  Ok (e.Cast c.at t.0.0 t.0.1 x.0, x.1)

unfoldable pub cast_by : ℕ → Parsers → Cursor → Read ExprTree
cast_by depth deeper c =
    if opens_type c.rest then (if depth == 0 then Err c.at else casting_by depth deeper c) else unary_by depth deeper c

-- the sign where it is an operator of the level
abbrev pub level_sign_of : ℕ → Option Sign → Option Sign
level_sign_of level None = None
level_sign_of level (Some s) = if level_of s == level then Some s else None

unfoldable pub level_sign : ℕ → Kinds → Option Sign
level_sign level k = level_sign_of level (sign_at k)

-- an operator with its operand
unfoldable pub link_by : (Cursor → Read ExprTree) → Sign → Cursor → Read (LinkList → LinkList)
link_by operand s c = do
  x ← operand (next_cursor c)
  Ok (e.more_links c.at s x.0, x.1)

unfoldable pub link_step : (Cursor → Read ExprTree) → ℕ → Cursor → Step (LinkList → LinkList)
link_step operand level c = step_of (λ s. link_by operand s c) (level_sign level c.rest)

unfoldable pub links_by : (Cursor → Read ExprTree) → ℕ → ExprTree → Cursor → Read ExprTree
links_by operand level x c = do
  fs ← all_of (link_step operand level) c
  Ok (e.Chain level x (link_list fs.0), fs.1)

unfoldable pub linked_by : (Cursor → Read ExprTree) → ℕ → ExprTree → Cursor → Read ExprTree
linked_by operand level x c = if_some (level_sign level c.rest) (Ok (x, c)) (links_by operand level x c)

unfoldable pub level_by : (Cursor → Read ExprTree) → ℕ → Cursor → Read ExprTree
level_by operand level c = do
  x ← operand c
  linked_by operand level x.0 x.1

-- a chain of so many levels, the first of them 10, 9 and so on; that of none is an operand of level 10
unfoldable pub chain_by : (levels : ℕ) → (Cursor → Read ExprTree) → Cursor → Read ExprTree
chain_by zero operand c = operand c
chain_by (suc n) operand c = level_by (chain_by n operand) (10 - n) c

-- the second and the third operand, behind `?`
unfoldable pub choices_by : Parsers → Cursor → Read (ExprTree × ExprTree)
choices_by deeper c = do
  x ← closed_by deeper.whole sign.Colon c
  y ← deeper.conditional x.1
  Ok ((x.0, y.0), y.1)

unfoldable pub choosing_by : Parsers → ExprTree → Cursor → Read ExprTree
choosing_by deeper condition c = do
  p ← choices_by deeper (next_cursor c)
  Ok (e.Conditional c.at condition p.0.0 p.0.1, p.1)

-- whether `?` stands there, and its operands may be one deeper
abbrev pub begins_choices : ℕ → Kinds → Bool
begins_choices depth k = if depth == 0 then false else begins_with_sign sign.Question k

unfoldable pub chosen_by : ℕ → Parsers → ExprTree → Cursor → Read ExprTree
chosen_by depth deeper condition c = if begins_choices depth c.rest then choosing_by deeper condition c else Ok (condition, c)

unfoldable pub conditional_by : ℕ → Parsers → Cursor → Read ExprTree
conditional_by depth deeper c = do
  x ← chain_by 10 (cast_by depth deeper) c
  chosen_by depth deeper x.0 x.1

-- the sign where it is one of an assignment
abbrev pub assignment_sign_of : Option Sign → Option Sign
assignment_sign_of None = None
assignment_sign_of (Some s) = if is_assignment s then Some s else None

-- the sign of an assignment to what was read, where that can stand on the left and the right side may be one deeper
unfoldable pub assignment_sign : ℕ → ExprTree → Kinds → Option Sign
assignment_sign depth target k = if depth == 0 then None else (if nat_lt (expression_rank target) 14 then None else assignment_sign_of (sign_at k))

unfoldable pub assigning_by : Parsers → ExprTree → Sign → Cursor → Read ExprTree
assigning_by deeper target s c = do
  x ← deeper.assignment (next_cursor c)
  Ok (e.Assign c.at s target x.0, x.1)

abbrev pub assigned_of : (Sign → Read ExprTree) → Read ExprTree → Option Sign → Read ExprTree
assigned_of assigning alone None = alone
assigned_of assigning alone (Some s) = assigning s

unfoldable pub assigned_by : ℕ → Parsers → ExprTree → Cursor → Read ExprTree
assigned_by depth deeper target c = assigned_of (λ s. assigning_by deeper target s c) (Ok (target, c)) (assignment_sign depth target c.rest)

unfoldable pub assignment_by : ℕ → Parsers → Cursor → Read ExprTree
assignment_by depth deeper c = do
  x ← conditional_by depth deeper c
  assigned_by depth deeper x.0 x.1

unfoldable pub commas_by : (Cursor → Read ExprTree) → ExprTree → Cursor → Read ExprTree
commas_by item x c = do
  xs ← more_by item x c
  Ok (e.Comma c.at (expr_list xs.0), xs.1)

-- several expressions are a comma expression, one is itself
unfoldable pub listed_by : (Cursor → Read ExprTree) → ExprTree → Cursor → Read ExprTree
listed_by item x c = if begins_with_sign sign.Comma c.rest then commas_by item x c else Ok (x, c)

unfoldable pub whole_by : ℕ → Parsers → Cursor → Read ExprTree
whole_by depth deeper c = do
  x ← assignment_by depth deeper c
  listed_by (assignment_by depth deeper) x.0 x.1

unfoldable pub parser_layer : ℕ → Parsers → Parsers
parser_layer depth deeper = record {
  whole = whole_by depth deeper;
  assignment = assignment_by depth deeper;
  conditional = conditional_by depth deeper;
  cast = cast_by depth deeper;
  unary = unary_by depth deeper;
}

-- nothing lies deeper
unfoldable pub no_parsers : Parsers
no_parsers = record { whole = λ c. Err c.at; assignment = λ c. Err c.at; conditional = λ c. Err c.at; cast = λ c. Err c.at; unary = λ c. Err c.at }

-- what may still nest so deep
unfoldable pub parsers : (depth : ℕ) → Parsers
parsers zero = parser_layer 0 no_parsers
parsers (suc n) = parser_layer (suc n) (parsers n)

-- what lies deeper
unfoldable pub deeper_than : (depth : ℕ) → Parsers
deeper_than zero = no_parsers
deeper_than (suc n) = parsers n
