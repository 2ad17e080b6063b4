-- The constructs of a body that are evaluated, each once, and what each of them holds for sites (PLDI 2005 section 2). No
-- operand of `sizeof` is evaluated (C99 6.5.3.4p2).
use Rattle.std.specs.Prelude.{◌≡◌, ℕ, ℤ, ◌+◌, ◌≤◌, ◌<◌, Bool, List, [], ◌∷◌, ◌++◌, count_by, Option, Some, None}
use Rattle.c_syntax.specs.declared.token.Sign.{Sign}
use Rattle.c_syntax.specs.declared.token.Sign.TheVariants as sign
use Rattle.c_syntax.specs.declared.expr.PrefixOperator.TheVariants as prefix
use Rattle.c_syntax.specs.ExprTree as e
use Rattle.c_syntax.specs.Words.{ExprTree, ExprList, LinkList, PostfixList, ItemTree, InitialTree, StartTree, ForStartTree, StatementTree, EntryList}
use Rattle.c_syntax.specs.ItemTree as i
use Rattle.c_syntax.specs.StatementTree as s
use Rattle.c_meaning.specs.Trees.{token_of}
use Rattle.c_types_faults.specs.Events.{Event, Value, entries_events, expr_events}
use Rattle.flow.specs.declared.site.BranchWord.TheVariants as word
use Rattle.sites.specs.declared.spots.Spot.{Spot}
use Rattle.sites.specs.declared.spots.Spot.TheVariants as spot

pub data SitedConstruct : Type 0 where
  Expression : (x : ExprTree) → SitedConstruct
  Statement : (x : StatementTree) → SitedConstruct
  -- a variable that is declared
  Declared : (x : StartTree) → SitedConstruct

-- each construct, and behind it those in it

abbrev mutual
  pub expr_constructs : ExprTree → List SitedConstruct
  expr_constructs (e.Comma token operands) = Expression (e.Comma token operands) ∷ exprs_constructs operands
  expr_constructs (e.Assign token s target value) =
      Expression (e.Assign token s target value) ∷ (expr_constructs target ++ expr_constructs value)
  expr_constructs (e.Conditional token condition first second) =
      Expression (e.Conditional token condition first second) ∷ (expr_constructs condition ++ (expr_constructs first ++ expr_constructs second))
  expr_constructs (e.Chain level first links) = Expression (e.Chain level first links) ∷ (expr_constructs first ++ links_constructs links)
  expr_constructs (e.Cast token b stars operand) = Expression (e.Cast token b stars operand) ∷ expr_constructs operand
  expr_constructs (e.Prefix token prefix.SizeOf operand) = Expression (e.Prefix token prefix.SizeOf operand) ∷ []
  expr_constructs (e.Prefix token operator operand) = Expression (e.Prefix token operator operand) ∷ expr_constructs operand
  expr_constructs (e.SizeOfType token b stars) = Expression (e.SizeOfType token b stars) ∷ []
  expr_constructs (e.Postfix primary operators) =
      Expression (e.Postfix primary operators) ∷ (expr_constructs primary ++ postfix_constructs operators)
  expr_constructs (e.Name token name) = Expression (e.Name token name) ∷ []
  expr_constructs (e.Call token name arguments) = Expression (e.Call token name arguments) ∷ exprs_constructs arguments
  expr_constructs (e.Constant token kind value) = Expression (e.Constant token kind value) ∷ []
  expr_constructs (e.Strings token parts) = Expression (e.Strings token parts) ∷ []
  expr_constructs (e.Paren token inner) = Expression (e.Paren token inner) ∷ expr_constructs inner
  expr_constructs (e.Null token) = Expression (e.Null token) ∷ []
  expr_constructs (e.EndOfFile token) = Expression (e.EndOfFile token) ∷ []

  pub exprs_constructs : ExprList → List SitedConstruct
  exprs_constructs e.no_exprs = []
  exprs_constructs (e.more_exprs x rest) = expr_constructs x ++ exprs_constructs rest

  -- the operands of a chain behind its first
  pub links_constructs : LinkList → List SitedConstruct
  links_constructs e.no_links = []
  links_constructs (e.more_links token s operand rest) = expr_constructs operand ++ links_constructs rest

  -- what stands within brackets
  pub postfix_constructs : PostfixList → List SitedConstruct
  postfix_constructs e.no_postfix = []
  postfix_constructs (e.index token x rest) = expr_constructs x ++ postfix_constructs rest
  postfix_constructs (e.member token name rest) = postfix_constructs rest
  postfix_constructs (e.arrow token name rest) = postfix_constructs rest
  postfix_constructs (e.increment token rest) = postfix_constructs rest
  postfix_constructs (e.decrement token rest) = postfix_constructs rest

abbrev pub optional_constructs : Option ExprTree → List SitedConstruct
optional_constructs None = []
optional_constructs (Some x) = expr_constructs x

abbrev pub initial_constructs : Option InitialTree → List SitedConstruct
initial_constructs None = []
initial_constructs (Some (s.Value value)) = expr_constructs value
initial_constructs (Some (s.Braced token items comma)) = exprs_constructs items

abbrev pub starts_constructs : List StartTree → List SitedConstruct
starts_constructs [] = []
starts_constructs (x ∷ xs) = Declared x ∷ (initial_constructs x.initial ++ starts_constructs xs)

abbrev pub for_start_constructs : ForStartTree → List SitedConstruct
for_start_constructs (s.Declares declaration) = starts_constructs declaration.starts
for_start_constructs (s.Computes x) = optional_constructs x

abbrev mutual
  pub statement_constructs : StatementTree → List SitedConstruct
  statement_constructs (s.Block token entries) = Statement (s.Block token entries) ∷ entries_constructs entries
  statement_constructs (s.Empty token) = Statement (s.Empty token) ∷ []
  statement_constructs (s.Expr token x) = Statement (s.Expr token x) ∷ expr_constructs x
  statement_constructs (s.If token condition first) =
      Statement (s.If token condition first) ∷ (expr_constructs condition ++ statement_constructs first)
  statement_constructs (s.IfElse token condition first second) =
      Statement (s.IfElse token condition first second) ∷ (expr_constructs condition ++ (statement_constructs first ++ statement_constructs second))
  statement_constructs (s.While token condition body) =
      Statement (s.While token condition body) ∷ (expr_constructs condition ++ statement_constructs body)
  statement_constructs (s.Do token body condition) = Statement (s.Do token body condition) ∷ (statement_constructs body ++ expr_constructs condition)
  statement_constructs (s.For token start condition step body) = Statement (s.For token start condition step body)
      ∷ (for_start_constructs start ++ (optional_constructs condition ++ (optional_constructs step ++ statement_constructs body)))
  statement_constructs (s.Return token value) = Statement (s.Return token value) ∷ optional_constructs value
  statement_constructs (s.Break token) = Statement (s.Break token) ∷ []
  statement_constructs (s.Continue token) = Statement (s.Continue token) ∷ []

  pub entries_constructs : EntryList → List SitedConstruct
  entries_constructs s.no_entries = []
  entries_constructs (s.declared declaration rest) = starts_constructs declaration.starts ++ entries_constructs rest
  entries_constructs (s.stated statement rest) = statement_constructs statement ++ entries_constructs rest

-- what a construct holds by itself

-- a new value, where it is a variable's name
abbrev pub new_value_spots : ℕ → ExprTree → List Spot
new_value_spots token (e.Name target name) = spot.Change token target ∷ []
new_value_spots token x = []

-- `&&` and `||` (6.5.13p4, 6.5.14p4)
abbrev pub logical_branch_spots : ℕ → Sign → List Spot
logical_branch_spots token sign.AndAnd = spot.Branch token word.AndAnd ∷ []
logical_branch_spots token sign.OrOr = spot.Branch token word.OrOr ∷ []
logical_branch_spots token s = []

abbrev pub all_decide : LinkList → List Spot
all_decide e.no_links = []
all_decide (e.more_links token s operand rest) = logical_branch_spots token s ++ all_decide rest

-- `++` or `--` right behind a name (6.5.2.4p2)
abbrev pub steps_behind : ExprTree → PostfixList → List Spot
steps_behind x (e.increment token rest) = new_value_spots token x
steps_behind x (e.decrement token rest) = new_value_spots token x
steps_behind x operators = []

-- an assignment (6.5.16p3), `++` or `--` before a name (6.5.3.1p2), a condition of `?` (6.5.15p4), a call (6.5.2.2), and a constant (6.4.4)
abbrev pub expr_makes : ExprTree → List Spot
expr_makes (e.Assign token s target value) = new_value_spots token target
expr_makes (e.Conditional token condition first second) = spot.Branch token word.Question ∷ []
expr_makes (e.Chain level first links) = all_decide links
expr_makes (e.Prefix token prefix.Increment operand) = new_value_spots token operand
expr_makes (e.Prefix token prefix.Decrement operand) = new_value_spots token operand
expr_makes (e.Postfix primary operators) = steps_behind primary operators
expr_makes (e.Call token name arguments) = spot.Call token name ∷ []
expr_makes (e.Constant token kind value) = spot.Constant value ∷ []
expr_makes x = []

-- the condition of a statement (6.8.4.1p2, 6.8.5p4), which a `for` may lack (6.8.5.3p2)
abbrev pub statement_makes : StatementTree → List Spot
statement_makes (s.If token condition first) = spot.Branch token word.If ∷ []
statement_makes (s.IfElse token condition first second) = spot.Branch token word.If ∷ []
statement_makes (s.While token condition body) = spot.Branch token word.While ∷ []
statement_makes (s.Do token body condition) = spot.Branch token word.Do ∷ []
statement_makes (s.For token start (Some condition) step body) = spot.Branch token word.For ∷ []
statement_makes x = []

-- a value that a variable begins with (6.7.8p11): at the token behind its name, where the `=` of a variable without bounds stands
abbrev pub begins_with : ℕ → Option InitialTree → List Spot
begins_with name_token (Some (s.Value value)) = spot.Change (name_token + 1) name_token ∷ []
begins_with name_token initial = []

abbrev pub construct_spots : SitedConstruct → List Spot
construct_spots (Expression x) = expr_makes x
construct_spots (Statement x) = statement_makes x
construct_spots (Declared x) = begins_with x.declarator.name_token x.initial

abbrev pub all_make : List SitedConstruct → List Spot
all_make [] = []
all_make (x ∷ xs) = construct_spots x ++ all_make xs

-- They are what these constructs make, each as often.
abbrev pub AreMadeBy : List SitedConstruct → List Spot → Type 0
AreMadeBy constructs spots = (p : Spot → Bool) → count_by p spots ≡ count_by p (all_make constructs)

-- the values of the constants among these spots
abbrev pub values_in : List Spot → List ℤ
values_in [] = []
values_in (spot.Constant value ∷ rest) = value ∷ values_in rest
values_in (other ∷ rest) = values_in rest

-- the values of the constants of these constructs, from left to right
abbrev pub numbers_in : List SitedConstruct → List ℤ
numbers_in [] = []
numbers_in (Expression (e.Constant token kind value) ∷ rest) = value ∷ numbers_in rest
numbers_in (other ∷ rest) = numbers_in rest

-- Their tokens never fall, and are from `low` on and below `high`.
abbrev pub SpotsRise : ℕ → ℕ → List Spot → Type 0
SpotsRise low high [] = low ≤ high
SpotsRise low high (spot.Branch token word ∷ rest) = (low ≤ token) × (token < high) × SpotsRise token high rest
SpotsRise low high (spot.Call token name ∷ rest) = (low ≤ token) × (token < high) × SpotsRise token high rest
SpotsRise low high (spot.Change token target ∷ rest) = (low ≤ token) × (token < high) × SpotsRise token high rest
SpotsRise low high (spot.Constant value ∷ rest) = SpotsRise low high rest

-- the constructs of the body of a definition
abbrev pub item_constructs : ItemTree → List SitedConstruct
item_constructs (i.Function token b stars name ps (Some body)) = entries_constructs body
item_constructs item = []

-- the own tokens of expressions among events

abbrev pub own_tokens : List Event → List ℕ
own_tokens [] = []
own_tokens (Value token construct ∷ events) = token ∷ own_tokens events
own_tokens (event ∷ events) = own_tokens events

-- A chain has the tokens of its operators, and what stands behind a primary expression those of the operators there.

abbrev pub link_tokens : LinkList → List ℕ
link_tokens e.no_links = []
link_tokens (e.more_links token s operand rest) = token ∷ link_tokens rest

abbrev pub postfix_tokens : PostfixList → List ℕ
postfix_tokens e.no_postfix = []
postfix_tokens (e.index token x rest) = token ∷ postfix_tokens rest
postfix_tokens (e.member token name rest) = token ∷ postfix_tokens rest
postfix_tokens (e.arrow token name rest) = token ∷ postfix_tokens rest
postfix_tokens (e.increment token rest) = token ∷ postfix_tokens rest
postfix_tokens (e.decrement token rest) = token ∷ postfix_tokens rest

-- `sizeof` has those of the expressions that it doesn't evaluate besides its own.
abbrev pub expr_tokens : ExprTree → List ℕ
expr_tokens (e.Chain level first links) = link_tokens links
expr_tokens (e.Postfix primary operators) = postfix_tokens operators
expr_tokens (e.Prefix token prefix.SizeOf operand) = token ∷ own_tokens (expr_events operand)
expr_tokens x = token_of x ∷ []

abbrev pub tokens_of : SitedConstruct → List ℕ
tokens_of (Expression x) = expr_tokens x
tokens_of (Statement x) = []
tokens_of (Declared x) = []

abbrev pub all_tokens : List SitedConstruct → List ℕ
all_tokens [] = []
all_tokens (x ∷ xs) = tokens_of x ++ all_tokens xs

-- The constructs leave no expression out: each own token is one construct's, as often as an event has it.
abbrev pub AreAll : List SitedConstruct → List Event → Type 0
AreAll constructs events = (p : ℕ → Bool) → count_by p (own_tokens events) ≡ count_by p (all_tokens constructs)

-- the events of the body of a definition
abbrev pub body_events : ItemTree → List Event
body_events (i.Function token b stars name ps (Some body)) = entries_events body
body_events item = []
