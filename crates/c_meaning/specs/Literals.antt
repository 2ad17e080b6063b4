-- The strings of a text, in the order of their tokens (C99 6.4.5): each is an object of its own, also where only its size is wanted.
use Rattle.std.specs.Prelude.{ℕ, suc, ◌==◌, List, [], ◌∷◌, ◌++◌, map, if◌then◌else◌, Option, Some, None}
use Rattle.std.specs.List.{flat_map}
use Rattle.c_syntax.specs.ExprTree as e
use Rattle.c_syntax.specs.Words.{ExprTree, ExprList, LinkList, PostfixList, InitialTree, DeclarationTree, ForStartTree, StatementTree, EntryList}
use Rattle.c_syntax.specs.Words.{ItemTree, SourceTree}
use Rattle.c_syntax.specs.StatementTree as tree
use Rattle.c_syntax.specs.ItemTree as item
use Rattle.flow.specs.declared.program.Text.{Text}

-- a string: its first token, and its bytes, of all its parts
pub record Literal : Type 0 where
  pub token : ℕ
  pub bytes : List ℕ

abbrev mutual
  pub strings_in : ExprTree → List Literal
  strings_in (e.Comma token operands) = strings_of_all operands
  strings_in (e.Assign token sign target value) = strings_in target ++ strings_in value
  strings_in (e.Conditional token condition first second) = strings_in condition ++ strings_in first ++ strings_in second
  strings_in (e.Chain level first links) = strings_in first ++ strings_of_links links
  strings_in (e.Cast token base stars operand) = strings_in operand
  strings_in (e.Prefix token operator operand) = strings_in operand
  strings_in (e.SizeOfType token base stars) = []
  strings_in (e.Postfix primary operators) = strings_in primary ++ strings_behind operators
  strings_in (e.Name token name) = []
  strings_in (e.Call token name arguments) = strings_of_all arguments
  strings_in (e.Constant token kind value) = []
  strings_in (e.Strings token parts) = record { token = token; bytes = flat_map (λ bytes. bytes) parts } ∷ []
  strings_in (e.Paren token inner) = strings_in inner
  strings_in (e.Null token) = []
  strings_in (e.EndOfFile token) = []

  pub strings_of_all : ExprList → List Literal
  strings_of_all e.no_exprs = []
  strings_of_all (e.more_exprs x rest) = strings_in x ++ strings_of_all rest

  pub strings_of_links : LinkList → List Literal
  strings_of_links e.no_links = []
  strings_of_links (e.more_links token sign operand rest) = strings_in operand ++ strings_of_links rest

  pub strings_behind : PostfixList → List Literal
  strings_behind e.no_postfix = []
  strings_behind (e.index token i rest) = strings_in i ++ strings_behind rest
  strings_behind (e.member token name rest) = strings_behind rest
  strings_behind (e.arrow token name rest) = strings_behind rest
  strings_behind (e.increment token rest) = strings_behind rest
  strings_behind (e.decrement token rest) = strings_behind rest

abbrev pub strings_if : Option ExprTree → List Literal
strings_if None = []
strings_if (Some x) = strings_in x

abbrev pub strings_initial : Option InitialTree → List Literal
strings_initial None = []
strings_initial (Some (tree.Value value)) = strings_in value
strings_initial (Some (tree.Braced token items comma)) = strings_of_all items

abbrev pub strings_declared : DeclarationTree → List Literal
strings_declared d = flat_map (λ x. strings_initial x.initial) d.starts

abbrev pub strings_begun : ForStartTree → List Literal
strings_begun (tree.Declares d) = strings_declared d
strings_begun (tree.Computes x) = strings_if x

abbrev mutual
  pub strings_stated : StatementTree → List Literal
  strings_stated (tree.Block token entries) = strings_entered entries
  strings_stated (tree.Empty token) = []
  strings_stated (tree.Expr token x) = strings_in x
  strings_stated (tree.If token condition first) = strings_in condition ++ strings_stated first
  strings_stated (tree.IfElse token condition first second) = strings_in condition ++ strings_stated first ++ strings_stated second
  strings_stated (tree.While token condition body) = strings_in condition ++ strings_stated body
  strings_stated (tree.Do token body condition) = strings_stated body ++ strings_in condition
  strings_stated (tree.For token start condition step body) = strings_begun start ++ strings_if condition ++ strings_if step ++ strings_stated body
  strings_stated (tree.Return token value) = strings_if value
  strings_stated (tree.Break token) = []
  strings_stated (tree.Continue token) = []

  pub strings_entered : EntryList → List Literal
  strings_entered tree.no_entries = []
  strings_entered (tree.declared declaration rest) = strings_declared declaration ++ strings_entered rest
  strings_entered (tree.stated statement rest) = strings_stated statement ++ strings_entered rest

abbrev pub strings_of_body : Option EntryList → List Literal
strings_of_body None = []
strings_of_body (Some entries) = strings_entered entries

abbrev pub strings_of_item : ItemTree → List Literal
strings_of_item (item.Struct token tag members) = []
strings_of_item (item.Function token base stars name params body) = strings_of_body body
strings_of_item (item.Declaration declaration) = strings_declared declaration

-- all strings of a text
abbrev pub string_literals : SourceTree → List Literal
string_literals t = flat_map strings_of_item t.items

abbrev pub texts_of : List Literal → List Text
texts_of strings = map (λ s. record { bytes = s.bytes }) strings

-- the number of the string at the token, where they are counted from this number on
abbrev pub number_from : ℕ → ℕ → List Literal → Option ℕ
number_from number token [] = None
number_from number token (s ∷ strings) = if s.token == token then Some number else number_from (suc number) token strings
