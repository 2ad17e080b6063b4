-- How many globals a text without a fault has: as many as its declarations outside all functions declare.
use Rattle.std.proofs.Common.{◌≡◌, ℕ, ◌+◌, true, false, List, [], ◌∷◌, ◌++◌, length, Option, Some, None, refl, ap, ◌∙◌, arith, length-append}
use Rattle.std.specs.List.{flat_map}
use Rattle.std.proofs.lemmas.List.Concat.{flat_map-cons}
use Rattle.c_syntax.specs.declared.parts.Param.{Param}
use Rattle.c_syntax.specs.declared.parts.ParamName.{ParamName}
use Rattle.c_syntax.specs.ExprTree as e
use Rattle.c_syntax.specs.Words.{ExprTree, ExprList, LinkList, PostfixList, InitialTree, StartTree, ForStartTree, StatementTree, EntryList, ItemTree}
use Rattle.c_syntax.specs.Words.{SourceTree}
use Rattle.c_syntax.specs.StatementTree as s
use Rattle.c_syntax.specs.ItemTree as i
use Rattle.c_types_expressions.specs.declared.walk.Walk.{Walk}
use Rattle.c_types_expressions.specs.Words.{empty_walk, Fine}
use Rattle.c_types.specs.Fault.{walk_tree}
use Rattle.c_types_walk.specs.ItemWalk.{listed_params}
use Rattle.c_types.specs.Parts.{Part, Expression, Use, Declared, Begins, entries_parts, expr_parts, exprs_parts, for_start_parts, initial_parts, item_parts, items_parts, links_parts, named_parts, optional_parts, params_parts, parts_of, postfix_parts, starts_parts, statement_parts}
use Rattle.c_types.proofs.Noted.{Seen, noting, noting_all, plainly, seen}
use Rattle.c_types.proofs.NotedItems.{text_notes}
use Rattle.c_meaning.specs.Globals.{starts_of}

-- how many globals the parts declare
abbrev globals_in : List Part → ℕ
globals_in [] = 0
globals_in (Expression token ∷ ps) = globals_in ps
globals_in (Use token ∷ ps) = globals_in ps
globals_in (Declared true token name ∷ ps) = globals_in ps + 1
globals_in (Declared false token name ∷ ps) = globals_in ps
globals_in (Begins ∷ ps) = globals_in ps

noted_globals : (ps : List Part) (s : Seen) → (noting_all ps s).globals ≡ s.globals + globals_in ps
noted_globals [] s = omega arith
noted_globals (Expression token ∷ ps) s = noted_globals ps (noting (Expression token) s)
noted_globals (Use token ∷ ps) s = noted_globals ps (noting (Use token) s)
noted_globals (Declared true token name ∷ ps) s = omega (arith, noted_globals ps (noting (Declared true token name) s))
noted_globals (Declared false token name ∷ ps) s = noted_globals ps (noting (Declared false token name) s)
noted_globals (Begins ∷ ps) s = noted_globals ps (noting Begins s)

in_both : (ps qs : List Part) → globals_in (ps ++ qs) ≡ globals_in ps + globals_in qs
in_both [] qs = omega arith
in_both (Expression token ∷ ps) qs = in_both ps qs
in_both (Use token ∷ ps) qs = in_both ps qs
in_both (Declared true token name ∷ ps) qs = omega (arith, in_both ps qs)
in_both (Declared false token name ∷ ps) qs = in_both ps qs
in_both (Begins ∷ ps) qs = in_both ps qs

-- parts without globals, one behind the other
none_in : (ps qs : List Part) → globals_in ps ≡ 0 → globals_in qs ≡ 0 → globals_in (ps ++ qs) ≡ 0
none_in ps qs h k = omega (arith, in_both ps qs, h, k)

mutual
  in_expr : (x : ExprTree) → globals_in (expr_parts x) ≡ 0
  in_expr (e.Comma token operands) = none_in (exprs_parts operands) (Expression token ∷ []) (in_exprs operands) refl
  in_expr (e.Assign token sign target value) =
      none_in (expr_parts target) (expr_parts value ++ Expression token ∷ []) (in_expr target) (none_in (expr_parts value) (Expression token ∷ []) (in_expr value) refl)
  in_expr (e.Conditional token condition first second) =
      none_in (expr_parts condition) (expr_parts first ++ (expr_parts second ++ Expression token ∷ [])) (in_expr condition)
      (none_in (expr_parts first) (expr_parts second ++ Expression token ∷ []) (in_expr first) (none_in (expr_parts second) (Expression token ∷ []) (in_expr second) refl))
  in_expr (e.Chain level first links) = none_in (expr_parts first) (links_parts links) (in_expr first) (in_links links)
  in_expr (e.Cast token b stars operand) = none_in (expr_parts operand) (Expression token ∷ []) (in_expr operand) refl
  in_expr (e.Prefix token operator operand) = none_in (expr_parts operand) (Expression token ∷ []) (in_expr operand) refl
  in_expr (e.Postfix primary operators) = none_in (expr_parts primary) (postfix_parts operators) (in_expr primary) (in_postfix operators)
  in_expr (e.Call token name arguments) = none_in (exprs_parts arguments) (Expression token ∷ []) (in_exprs arguments) refl
  in_expr (e.Paren token inner) = none_in (expr_parts inner) (Expression token ∷ []) (in_expr inner) refl
  in_expr x = refl

  in_exprs : (xs : ExprList) → globals_in (exprs_parts xs) ≡ 0
  in_exprs e.no_exprs = refl
  in_exprs (e.more_exprs x rest) = none_in (expr_parts x) (exprs_parts rest) (in_expr x) (in_exprs rest)

  in_links : (links : LinkList) → globals_in (links_parts links) ≡ 0
  in_links e.no_links = refl
  in_links (e.more_links token sign operand rest) = none_in (expr_parts operand) (Expression token ∷ links_parts rest) (in_expr operand) (in_links rest)

  in_postfix : (operators : PostfixList) → globals_in (postfix_parts operators) ≡ 0
  in_postfix e.no_postfix = refl
  in_postfix (e.index token x rest) = none_in (expr_parts x) (Expression token ∷ postfix_parts rest) (in_expr x) (in_postfix rest)
  in_postfix (e.member token name rest) = in_postfix rest
  in_postfix (e.arrow token name rest) = in_postfix rest
  in_postfix (e.increment token rest) = in_postfix rest
  in_postfix (e.decrement token rest) = in_postfix rest

in_optional : (x : Option ExprTree) → globals_in (optional_parts x) ≡ 0
in_optional None = refl
in_optional (Some x) = in_expr x

in_initial : (x : Option InitialTree) → globals_in (initial_parts x) ≡ 0
in_initial None = refl
in_initial (Some (s.Value value)) = in_expr value
in_initial (Some (s.Braced token items comma)) = in_exprs items

-- a declaration in a function declares none
in_locals : (xs : List StartTree) → globals_in (starts_parts false xs) ≡ 0
in_locals [] = refl
in_locals (x ∷ xs) = none_in (initial_parts x.initial) (starts_parts false xs) (in_initial x.initial) (in_locals xs)

-- one outside of them declares each of its variables
in_globals : (xs : List StartTree) → globals_in (starts_parts true xs) ≡ length xs
in_globals [] = refl
in_globals (x ∷ xs) = omega (arith, in_both (initial_parts x.initial) (starts_parts true xs), in_initial x.initial, in_globals xs)

in_for_start : (x : ForStartTree) → globals_in (for_start_parts x) ≡ 0
in_for_start (s.Declares declaration) = in_locals declaration.starts
in_for_start (s.Computes x) = in_optional x

mutual
  in_statement : (x : StatementTree) → globals_in (statement_parts x) ≡ 0
  in_statement (s.Block token entries) = in_entries entries
  in_statement (s.Expr token x) = in_expr x
  in_statement (s.If token condition first) = none_in (expr_parts condition) (statement_parts first) (in_expr condition) (in_statement first)
  in_statement (s.IfElse token condition first second) =
      none_in (expr_parts condition) (statement_parts first ++ statement_parts second) (in_expr condition)
      (none_in (statement_parts first) (statement_parts second) (in_statement first) (in_statement second))
  in_statement (s.While token condition body) = none_in (expr_parts condition) (statement_parts body) (in_expr condition) (in_statement body)
  in_statement (s.Do token body condition) = none_in (statement_parts body) (expr_parts condition) (in_statement body) (in_expr condition)
  in_statement (s.For token start condition step body) =
      none_in (for_start_parts start) (optional_parts condition ++ (optional_parts step ++ statement_parts body)) (in_for_start start)
      (none_in (optional_parts condition) (optional_parts step ++ statement_parts body) (in_optional condition)
      (none_in (optional_parts step) (statement_parts body) (in_optional step) (in_statement body)))
  in_statement (s.Return token value) = in_optional value
  in_statement x = refl

  in_entries : (xs : EntryList) → globals_in (entries_parts xs) ≡ 0
  in_entries s.no_entries = refl
  in_entries (s.declared declaration rest) = none_in (starts_parts false declaration.starts) (entries_parts rest) (in_locals declaration.starts) (in_entries rest)
  in_entries (s.stated statement rest) = none_in (statement_parts statement) (entries_parts rest) (in_statement statement) (in_entries rest)

in_name : (x : Option ParamName) → globals_in (named_parts x) ≡ 0
in_name None = refl
in_name (Some n) = refl

in_params : (ps : List Param) → globals_in (params_parts ps) ≡ 0
in_params [] = refl
in_params (p ∷ ps) = none_in (named_parts p.name) (params_parts ps) (in_name p.name) (in_params ps)

in_item : (x : ItemTree) → globals_in (item_parts x) ≡ length (starts_of x)
in_item (i.Struct token tag members) = refl
in_item (i.Function token b stars name ps None) = refl
in_item (i.Function token b stars name ps (Some body)) =
    none_in (params_parts (listed_params ps)) (entries_parts body) (in_params (listed_params ps)) (in_entries body)
in_item (i.Declaration declaration) = in_globals declaration.starts

in_items : (xs : List ItemTree) → globals_in (items_parts xs) ≡ length (flat_map starts_of xs)
in_items [] = refl
in_items (x ∷ xs) =
    omega (
      arith,
      in_both (item_parts x) (items_parts xs),
      in_item x,
      in_items xs,
      length-append (starts_of x) (flat_map starts_of xs),
      ap length (flat_map-cons starts_of x xs),
    )

pub globals_are : (t : SourceTree) (w : Walk) → walk_tree t ≡ Fine tt w → w.globals ≡ length (flat_map starts_of t.items)
globals_are t w is =
    ap (λ (s : Seen). s.globals) (text_notes t w is).0 ∙ noted_globals (parts_of t) (plainly (seen (empty_walk (length t.lines)))) ∙ ap (λ n. 0 + n) (in_items t.items) ∙ omega arith
