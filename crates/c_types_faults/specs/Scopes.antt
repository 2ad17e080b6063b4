-- The scopes of variables, by the spans of the parts that declare them: a block, a `for`, a function, or the whole text (C99 6.2.1p4). A scope
-- begins behind the declarator (6.2.1p7).
use Rattle.std.specs.Prelude.{ℕ, ◌+◌, ◌-◌, nat_le, Bool, false, ◌&&◌, List, [], ◌∷◌, ◌++◌, length, Option, Some, None}
use Rattle.c_syntax.specs.declared.parts.Param.{Param}
use Rattle.c_syntax.specs.declared.parts.ParamName.{ParamName}
use Rattle.c_syntax.specs.StatementTree as s
use Rattle.c_syntax.specs.Words.{StartTree, DeclarationTree, ForStartTree, StatementTree, EntryList, ItemTree, SourceTree, Kinds, declarator_kinds, item_kinds}
use Rattle.c_syntax.specs.Words.{param_name_kinds, statement_kinds}
use Rattle.c_syntax.specs.ItemTree as i
use Rattle.c_types_expressions.specs.declared.walk.VariableEntry.{VariableEntry}
use Rattle.c_types_walk.specs.ItemWalk.{listed_params}

-- the scope of a variable: the token of its name, the first token behind its declarator, and the last one of the part that declares it
pub record Scope : Type 0 where
  pub name : ℕ
  pub first : ℕ
  pub last : ℕ

-- the last token of a part of these tokens, which begins here
abbrev pub last_token : ℕ → Kinds → ℕ
last_token first kinds = first + length kinds - 1

-- the variables of a declaration, in a part that ends here
abbrev pub starts_scopes : ℕ → List StartTree → List Scope
starts_scopes last [] = []
starts_scopes last (x ∷ xs) = record {
  name = x.declarator.name_token;
  first = x.declarator.token + length (declarator_kinds x.declarator);
  last = last;
} ∷ starts_scopes last xs

abbrev pub declaration_scopes : ℕ → DeclarationTree → List Scope
declaration_scopes last d = starts_scopes last d.starts

abbrev pub for_start_scopes : ℕ → ForStartTree → List Scope
for_start_scopes last (s.Declares declaration) = declaration_scopes last declaration
for_start_scopes last (s.Computes x) = []

abbrev mutual
  pub statement_scopes : StatementTree → List Scope
  statement_scopes (s.Block token entries) = entries_scopes (last_token token (statement_kinds (s.Block token entries))) entries
  statement_scopes (s.If token condition first) = statement_scopes first
  statement_scopes (s.IfElse token condition first second) = statement_scopes first ++ statement_scopes second
  statement_scopes (s.While token condition body) = statement_scopes body
  statement_scopes (s.Do token body condition) = statement_scopes body
  statement_scopes (s.For token start condition step body) =
      for_start_scopes (last_token token (statement_kinds (s.For token start condition step body))) start ++ statement_scopes body
  statement_scopes x = []

  -- in a block or a body that ends here
  pub entries_scopes : ℕ → EntryList → List Scope
  entries_scopes last s.no_entries = []
  entries_scopes last (s.declared declaration rest) = declaration_scopes last declaration ++ entries_scopes last rest
  entries_scopes last (s.stated statement rest) = statement_scopes statement ++ entries_scopes last rest

abbrev pub named_scopes : ℕ → Option ParamName → List Scope
named_scopes last None = []
named_scopes last (Some n) = record { name = n.token; first = n.token + length (param_name_kinds n); last = last } ∷ []

abbrev pub params_scopes : ℕ → List Param → List Scope
params_scopes last [] = []
params_scopes last (p ∷ ps) = named_scopes last p.name ++ params_scopes last ps

-- the parameters of a function have the scope of its body
abbrev pub function_scopes : ℕ → List Param → EntryList → List Scope
function_scopes last ps body = params_scopes last ps ++ entries_scopes last body

-- in a text that ends here
abbrev pub item_scopes : ℕ → ItemTree → List Scope
item_scopes end (i.Function token b stars name ps (Some body)) =
    function_scopes (last_token token (item_kinds (i.Function token b stars name ps (Some body)))) (listed_params ps) body
item_scopes end (i.Declaration declaration) = declaration_scopes end declaration
item_scopes end x = []

abbrev pub items_scopes : ℕ → List ItemTree → List Scope
items_scopes end [] = []
items_scopes end (x ∷ xs) = item_scopes end x ++ items_scopes end xs

-- the scopes of a text's variables, in the order of their names
abbrev pub scopes_of : SourceTree → List Scope
scopes_of t = items_scopes (length t.lines - 1) t.items

-- whether the token lies in the scope, if there is one
abbrev pub lies_in_scope : ℕ → Option Scope → Bool
lies_in_scope token None = false
lies_in_scope token (Some scope) = nat_le scope.first token && nat_le token scope.last

-- the token of the name that declares the variable
abbrev pub start_of : VariableEntry → ℕ
start_of v = v.from

abbrev pub scope_name : Scope → ℕ
scope_name scope = scope.name
