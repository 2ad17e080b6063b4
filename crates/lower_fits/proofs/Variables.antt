-- The locals of all functions of a text are no more than its tokens: each has a name of its own.
use Rattle.std.proofs.Common.{◌≡◌, ℕ, ◌≤◌, ◌+◌, refl, ap, sym, ◌∙◌, arith, true, false, List, [], ◌∷◌, ◌++◌, Some, None, length, length-append}
use Rattle.std.specs.Prelude.{Option, map}
use Rattle.std.specs.List.{flat_map, sum_by}
use Rattle.std.proofs.lemmas.List.Sums.{sum_by-append, sum_by-cons}
use Rattle.sites.proofs.RisesBodies.{declarator-length}
use Rattle.c_syntax.specs.declared.parts.Param.{Param}
use Rattle.c_syntax.specs.declared.parts.ParamName.{ParamName}
use Rattle.c_syntax.specs.declared.parts.Params.{Params}
use Rattle.c_syntax.specs.declared.parts.Params.TheVariants as params
use Rattle.c_syntax.specs.declared.token.Sign.TheVariants as sign
use Rattle.c_syntax.specs.declared.token.TokenKind.{TokenKind}
use Rattle.c_syntax.specs.declared.token.Word.TheVariants as word
use Rattle.c_syntax.specs.ExprTree as e
use Rattle.c_syntax.specs.Words.{ExprTree, ExprList, LinkList, PostfixList, InitialTree, StartTree, DeclarationTree, ForStartTree, StatementTree, EntryList}
use Rattle.c_syntax.specs.Words.{ItemTree, SourceTree, Kinds, a_name, a_sign, a_word, after_commas, base_kinds, body_kinds, bound_kinds, declaration_kinds}
use Rattle.c_syntax.specs.Words.{declarator_kinds, entry_kinds, expr_kinds, for_start_kinds, item_kinds, optional_kinds, param_kinds, param_name_kinds, params_kinds}
use Rattle.c_syntax.specs.Words.{parenthesized_kinds, start_kinds, statement_kinds, type_kinds, with_commas}
use Rattle.c_syntax.specs.StatementTree as s
use Rattle.c_syntax.specs.ItemTree as item
use Rattle.c_types_expressions.specs.declared.walk.Definition.{Definition}
use Rattle.c_types_expressions.specs.declared.walk.Walk.{Walk}
use Rattle.c_types_walk.specs.ItemWalk.{listed_params}
use Rattle.c_types.specs.Numbers.{definition_frame, frames_from, locals_behind, variables_in}
use Rattle.c_types.specs.Parts.{Part, Expression, Use, Declared, Begins, declaration_parts, entries_parts, expr_parts, exprs_parts, for_start_parts}
use Rattle.c_types.specs.Parts.{initial_parts, item_parts, links_parts, named_parts, optional_parts, params_parts, postfix_parts, starts_parts, statement_parts}
use Rattle.c_types.proofs.FunctionLaws.{frames_are}
use Rattle.flow.specs.Limits.{local_limit}
use Rattle.c_meaning_sound.specs.Accepted.{IsAcceptedTree}
use Rattle.c_meaning_sound.specs.Sited.{IsSited, count_of}
use Rattle.c_meaning_sound.proofs.Initialising.{equals_kinds}
use Rattle.lower_fits.proofs.Measuring.{Within, before, behind, between, enclosed, join, nothing}

-- a local counts once
abbrev one_local : Part → ℕ
one_local (Declared false token name) = 1
one_local part = 0

-- so does a token
abbrev one_token : TokenKind → ℕ
one_token token = 1

-- how many tokens there are
ones : (ks : Kinds) → sum_by one_token ks ≡ length ks
ones [] = refl
ones (k ∷ ks) = omega (arith, sum_by-cons one_token k ks, ones ks)

-- no locals
abbrev Quiet : List Part → Type 0
Quiet xs = sum_by one_local xs ≡ 0

-- as many tokens as locals, or more
abbrev Fewer : List Part → Kinds → Type 0
Fewer xs ks = Within one_local one_token xs ks

-- parts without locals, one behind the other
quiet_two : (xs ys : List Part) → Quiet xs → Quiet ys → Quiet (xs ++ ys)
quiet_two xs ys h k = omega (arith, h, k, sum_by-append one_local xs ys)

-- an expression before such parts
quiet_expression : (token : ℕ) (xs : List Part) → Quiet xs → Quiet (Expression token ∷ xs)
quiet_expression token xs h = omega (arith, h, sum_by-cons one_local (Expression token) xs)

-- an expression behind such parts
quiet_last : (xs : List Part) (token : ℕ) → Quiet xs → Quiet (xs ++ Expression token ∷ [])
quiet_last xs token h = quiet_two xs (Expression token ∷ []) h refl

-- parts without locals are no more than any tokens
quiet_fewer : (xs : List Part) (ks : Kinds) → Quiet xs → Fewer xs ks
quiet_fewer xs ks h = omega (arith, h)

-- parts without locals before others
quiet_first : (xs ys : List Part) (ks : Kinds) → Quiet xs → Fewer ys ks → Fewer (xs ++ ys) ks
quiet_first xs ys ks h k = omega (arith, h, k, sum_by-append one_local xs ys)

-- parts without locals behind others
quiet_second : (xs ys : List Part) (ks : Kinds) → Fewer xs ks → Quiet ys → Fewer (xs ++ ys) ks
quiet_second xs ys ks h k = omega (arith, h, k, sum_by-append one_local xs ys)

-- expressions declare nothing
mutual
  -- an expression declares nothing
  expr_quiet : (x : ExprTree) → Quiet (expr_parts x)
  expr_quiet (e.Comma token operands) = quiet_last (exprs_parts operands) token (exprs_quiet operands)
  expr_quiet (e.Assign token o target value) = quiet_two (expr_parts target) (expr_parts value ++ Expression token ∷ []) (expr_quiet target)
      (quiet_last (expr_parts value) token (expr_quiet value))
  expr_quiet (e.Conditional token condition first second) =
      quiet_two (expr_parts condition) (expr_parts first ++ (expr_parts second ++ Expression token ∷ [])) (expr_quiet condition)
      (quiet_two (expr_parts first) (expr_parts second ++ Expression token ∷ []) (expr_quiet first)
      (quiet_last (expr_parts second) token (expr_quiet second)))
  expr_quiet (e.Chain level first links) = quiet_two (expr_parts first) (links_parts links) (expr_quiet first) (links_quiet links)
  expr_quiet (e.Cast token b stars operand) = quiet_last (expr_parts operand) token (expr_quiet operand)
  expr_quiet (e.Prefix token o operand) = quiet_last (expr_parts operand) token (expr_quiet operand)
  expr_quiet (e.Postfix primary operators) = quiet_two (expr_parts primary) (postfix_parts operators) (expr_quiet primary) (postfix_quiet operators)
  expr_quiet (e.Call token name arguments) = quiet_last (exprs_parts arguments) token (exprs_quiet arguments)
  expr_quiet (e.Paren token inner) = quiet_last (expr_parts inner) token (expr_quiet inner)
  expr_quiet x = refl

  -- nor do several
  exprs_quiet : (xs : ExprList) → Quiet (exprs_parts xs)
  exprs_quiet e.no_exprs = refl
  exprs_quiet (e.more_exprs x rest) = quiet_two (expr_parts x) (exprs_parts rest) (expr_quiet x) (exprs_quiet rest)

  -- nor do the links of a chain
  links_quiet : (xs : LinkList) → Quiet (links_parts xs)
  links_quiet e.no_links = refl
  links_quiet (e.more_links token o operand rest) =
      quiet_two (expr_parts operand) (Expression token ∷ links_parts rest) (expr_quiet operand) (quiet_expression token (links_parts rest) (links_quiet rest))

  -- nor does what stands behind a primary expression
  postfix_quiet : (xs : PostfixList) → Quiet (postfix_parts xs)
  postfix_quiet e.no_postfix = refl
  postfix_quiet (e.index token x rest) =
      quiet_two (expr_parts x) (Expression token ∷ postfix_parts rest) (expr_quiet x) (quiet_expression token (postfix_parts rest) (postfix_quiet rest))
  postfix_quiet (e.member token name rest) = quiet_expression token (postfix_parts rest) (postfix_quiet rest)
  postfix_quiet (e.arrow token name rest) = quiet_expression token (postfix_parts rest) (postfix_quiet rest)
  postfix_quiet (e.increment token rest) = quiet_expression token (postfix_parts rest) (postfix_quiet rest)
  postfix_quiet (e.decrement token rest) = quiet_expression token (postfix_parts rest) (postfix_quiet rest)

-- nor does an expression that may be left out
option_quiet : (x : Option ExprTree) → Quiet (optional_parts x)
option_quiet None = refl
option_quiet (Some x) = expr_quiet x

-- nor does an initialiser
initial_quiet : (x : Option InitialTree) → Quiet (initial_parts x)
initial_quiet None = refl
initial_quiet (Some (s.Value value)) = expr_quiet value
initial_quiet (Some (s.Braced token items comma)) = exprs_quiet items

-- declarations
abbrev start_parts : StartTree → List Part
start_parts x = Declared false x.declarator.name_token x.declarator.name ∷ initial_parts x.initial

-- a declarator declares one variable, and has its name
start_fewer : (x : StartTree) → Fewer (start_parts x) (start_kinds x)
start_fewer x = omega (
  arith,
  sum_by-cons one_local (Declared false x.declarator.name_token x.declarator.name) (initial_parts x.initial),
  initial_quiet x.initial,
  ones (start_kinds x),
  length-append (declarator_kinds x.declarator) (equals_kinds x.initial),
  declarator-length x.declarator,
)

-- declarators behind a comma each
starts_fewer : (xs : List StartTree) → Fewer (starts_parts false xs) (after_commas start_kinds xs)
starts_fewer [] = nothing one_local one_token []
starts_fewer (x ∷ xs) = join one_local one_token (start_parts x) (starts_parts false xs) (a_sign sign.Comma ++ start_kinds x) (after_commas start_kinds xs)
    (before one_local one_token (start_parts x) (a_sign sign.Comma) (start_kinds x) (start_fewer x)) (starts_fewer xs)

-- the declarators of a declaration
all_starts_fewer : (xs : List StartTree) → Fewer (starts_parts false xs) (with_commas start_kinds xs)
all_starts_fewer [] = nothing one_local one_token []
all_starts_fewer (x ∷ xs) = join one_local one_token (start_parts x) (starts_parts false xs) (start_kinds x) (after_commas start_kinds xs) (start_fewer x)
    (starts_fewer xs)

-- a declaration
declaration_fewer : (d : DeclarationTree) → Fewer (declaration_parts false d) (declaration_kinds d)
declaration_fewer d = between one_local one_token (starts_parts false d.starts) (base_kinds d.base) (with_commas start_kinds d.starts)
    (a_sign sign.Semicolon) (all_starts_fewer d.starts)

-- the start of a `for`
begun_fewer : (x : ForStartTree) → Fewer (for_start_parts x) (for_start_kinds x)
begun_fewer (s.Declares d) = declaration_fewer d
begun_fewer (s.Computes x) = quiet_fewer (optional_parts x) (for_start_kinds (s.Computes x)) (option_quiet x)

-- statements
mutual
  -- a statement
  stated_fewer : (x : StatementTree) → Fewer (statement_parts x) (statement_kinds x)
  stated_fewer (s.Block token xs) =
      between one_local one_token (entries_parts xs) (a_sign sign.LeftBrace) (entry_kinds xs) (a_sign sign.RightBrace) (entered_fewer xs)
  stated_fewer (s.Expr token x) = quiet_fewer (expr_parts x) (statement_kinds (s.Expr token x)) (expr_quiet x)
  stated_fewer (s.If token c first) =
      quiet_first (expr_parts c) (statement_parts first) (statement_kinds (s.If token c first)) (expr_quiet c)
      (before one_local one_token (statement_parts first) (a_word word.If ++ parenthesized_kinds (expr_kinds c)) (statement_kinds first) (stated_fewer first))
  stated_fewer (s.IfElse token c first second) =
      let head : Kinds = a_word word.If ++ parenthesized_kinds (expr_kinds c) in
      quiet_first (expr_parts c) (statement_parts first ++ statement_parts second) (statement_kinds (s.IfElse token c first second)) (expr_quiet c)
      (join one_local one_token (statement_parts first) (statement_parts second) (head ++ statement_kinds first ++ a_word word.Else) (statement_kinds second)
      (between one_local one_token (statement_parts first) head (statement_kinds first) (a_word word.Else) (stated_fewer first)) (stated_fewer second))
  stated_fewer (s.While token c body) =
      quiet_first (expr_parts c) (statement_parts body) (statement_kinds (s.While token c body)) (expr_quiet c)
      (before one_local one_token (statement_parts body) (a_word word.While ++ parenthesized_kinds (expr_kinds c)) (statement_kinds body) (stated_fewer body))
  stated_fewer (s.Do token body c) =
      let head : Kinds = a_word word.Do ++ statement_kinds body ++ a_word word.While in
      quiet_second (statement_parts body) (expr_parts c) (statement_kinds (s.Do token body c))
      (behind one_local one_token (statement_parts body) (head ++ parenthesized_kinds (expr_kinds c)) (a_sign sign.Semicolon)
      (behind one_local one_token (statement_parts body) head (parenthesized_kinds (expr_kinds c))
      (between one_local one_token (statement_parts body) (a_word word.Do) (statement_kinds body) (a_word word.While) (stated_fewer body)))) (expr_quiet c)
  stated_fewer (s.For token start c step body) =
      let two : Kinds = for_start_kinds start ++ optional_kinds expr_kinds c in
      let head : Kinds = two ++ a_sign sign.Semicolon ++ optional_kinds expr_kinds step in
      join one_local one_token (for_start_parts start) (optional_parts c ++ (optional_parts step ++ statement_parts body))
      (a_word word.For ++ parenthesized_kinds head) (statement_kinds body)
      (before one_local one_token (for_start_parts start) (a_word word.For) (parenthesized_kinds head)
      (enclosed one_local one_token (for_start_parts start) head
      (behind one_local one_token (for_start_parts start) (two ++ a_sign sign.Semicolon) (optional_kinds expr_kinds step)
      (behind one_local one_token (for_start_parts start) two (a_sign sign.Semicolon)
      (behind one_local one_token (for_start_parts start) (for_start_kinds start) (optional_kinds expr_kinds c) (begun_fewer start))))))
      (quiet_first (optional_parts c) (optional_parts step ++ statement_parts body) (statement_kinds body) (option_quiet c)
      (quiet_first (optional_parts step) (statement_parts body) (statement_kinds body) (option_quiet step) (stated_fewer body)))
  stated_fewer (s.Return token value) = quiet_fewer (optional_parts value) (statement_kinds (s.Return token value)) (option_quiet value)
  stated_fewer x = nothing one_local one_token (statement_kinds x)

  -- the entries of a block
  entered_fewer : (xs : EntryList) → Fewer (entries_parts xs) (entry_kinds xs)
  entered_fewer s.no_entries = nothing one_local one_token []
  entered_fewer (s.declared d rest) = join one_local one_token (declaration_parts false d) (entries_parts rest) (declaration_kinds d) (entry_kinds rest)
      (declaration_fewer d) (entered_fewer rest)
  entered_fewer (s.stated x rest) = join one_local one_token (statement_parts x) (entries_parts rest) (statement_kinds x) (entry_kinds rest)
      (stated_fewer x) (entered_fewer rest)

-- parameters
named_fewer : (o : Option ParamName) → Fewer (named_parts o) (optional_kinds param_name_kinds o)
named_fewer None = nothing one_local one_token []
named_fewer (Some n) = omega (arith, ones (param_name_kinds n), length-append (a_name n.name) (optional_kinds bound_kinds n.bound))

-- a parameter
param_fewer : (p : Param) → Fewer (named_parts p.name) (param_kinds p)
param_fewer p =
    before one_local one_token (named_parts p.name) (type_kinds p.base p.stars) (optional_kinds param_name_kinds p.name) (named_fewer p.name)

-- parameters behind a comma each
params_fewer : (ps : List Param) → Fewer (params_parts ps) (after_commas param_kinds ps)
params_fewer [] = nothing one_local one_token []
params_fewer (p ∷ ps) = join one_local one_token (named_parts p.name) (params_parts ps) (a_sign sign.Comma ++ param_kinds p) (after_commas param_kinds ps)
    (before one_local one_token (named_parts p.name) (a_sign sign.Comma) (param_kinds p) (param_fewer p)) (params_fewer ps)

-- the parameters of a function
listed_fewer : (ps : Params) → Fewer (params_parts (listed_params ps)) (params_kinds ps)
listed_fewer params.Empty = nothing one_local one_token []
listed_fewer params.Void = nothing one_local one_token (params_kinds params.Void)
listed_fewer (params.List []) = nothing one_local one_token []
listed_fewer (params.List (p ∷ ps)) =
    join one_local one_token (named_parts p.name) (params_parts ps) (param_kinds p) (after_commas param_kinds ps) (param_fewer p) (params_fewer ps)

-- locals are counted as they are declared
behind_most : (ps : List Part) (n : ℕ) → locals_behind n ps ≤ n + sum_by one_local ps
behind_most [] n = omega arith
behind_most (Expression token ∷ ps) n = omega (arith, behind_most ps n, sum_by-cons one_local (Expression token) ps)
behind_most (Use token ∷ ps) n = omega (arith, behind_most ps n, sum_by-cons one_local (Use token) ps)
behind_most (Declared true token name ∷ ps) n = omega (arith, behind_most ps n, sum_by-cons one_local (Declared true token name) ps)
behind_most (Declared false token name ∷ ps) n = omega (arith, behind_most ps (n + 1), sum_by-cons one_local (Declared false token name) ps)
behind_most (Begins ∷ ps) n = omega (arith, behind_most ps 0, sum_by-cons one_local Begins ps)

-- how many locals a frame has
abbrev count_in : ℕ × ℕ → ℕ
count_in p = p.1

-- all frames together have no more locals than there are tokens
frames_fewer : (before : ℕ) (xs : List ItemTree) → sum_by count_in (frames_from before xs) ≤ length (flat_map item_kinds xs)
frames_fewer at [] = omega arith
frames_fewer at (item.Struct token tag members ∷ xs) =
    omega (arith, frames_fewer (at + 0) xs, length-append (item_kinds (item.Struct token tag members)) (flat_map item_kinds xs))
frames_fewer at (item.Function token b stars name ps None ∷ xs) =
    omega (arith, frames_fewer (at + 0) xs, length-append (item_kinds (item.Function token b stars name ps None)) (flat_map item_kinds xs))
frames_fewer at (item.Function token b stars name ps (Some body) ∷ xs) =
    let x : ItemTree = item.Function token b stars name ps (Some body) in
    let head : Kinds = type_kinds b stars ++ a_name name in
    let own : Fewer (params_parts (listed_params ps) ++ entries_parts body) (item_kinds x) =
    join one_local one_token (params_parts (listed_params ps)) (entries_parts body) (head ++ parenthesized_kinds (params_kinds ps)) (body_kinds (Some body))
    (before one_local one_token (params_parts (listed_params ps)) head (parenthesized_kinds (params_kinds ps))
    (enclosed one_local one_token (params_parts (listed_params ps)) (params_kinds ps) (listed_fewer ps)))
    (between one_local one_token (entries_parts body) (a_sign sign.LeftBrace) (entry_kinds body) (a_sign sign.RightBrace) (entered_fewer body)) in
    let rest : List (ℕ × ℕ) = frames_from (at + variables_in (item_parts x)) xs in
    let count : ℕ = locals_behind 0 (item_parts x) in
    omega (
      arith,
      sum_by-cons count_in (at, count) rest,
      behind_most (params_parts (listed_params ps) ++ entries_parts body) 0,
      own,
      ones (item_kinds x),
      frames_fewer (at + variables_in (item_parts x)) xs,
      length-append (item_kinds x) (flat_map item_kinds xs),
    )
frames_fewer at (item.Declaration d ∷ xs) = omega (
  arith,
  frames_fewer (at + variables_in (item_parts (item.Declaration d))) xs,
  length-append (item_kinds (item.Declaration d)) (flat_map item_kinds xs),
)

-- definitions have as many locals as their frames
counts_sum : (ds : List Definition) → sum_by count_of ds ≡ sum_by count_in (map definition_frame ds)
counts_sum [] = refl
counts_sum (d ∷ ds) = sum_by-cons count_of d ds ∙ ap (λ n. d.count + n) (counts_sum ds) ∙ sym (sum_by-cons count_in (definition_frame d) (map definition_frame ds))

-- a program can have so many locals together
pub locals_together : (tree : SourceTree) (z : Walk) → IsAcceptedTree tree z → IsSited tree → sum_by count_of z.definitions ≤ local_limit
locals_together tree z a s = omega (
  arith,
  counts_sum z.definitions,
  ap (sum_by count_in) (frames_are tree z a.walked),
  frames_fewer 0 tree.items,
  a.formed.shaped.lines,
  s.few,
)
