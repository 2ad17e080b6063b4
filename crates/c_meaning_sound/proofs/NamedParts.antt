-- The variables of a text have names.
use Rattle.std.proofs.Common.{◌≡◌, ℕ, zero, suc, ◌+◌, subst, sym, List, [], ◌∷◌, ◌++◌, Some, None, Bool, true, false}
use Rattle.std.specs.Prelude.{Option, slice_get}
use Rattle.std.specs.List.{AllByRecursion, flat_map}
use Rattle.std.proofs.lemmas.Option.{same_Some}
use Rattle.base_lists.proofs.Every.{all_first, all_join, all_second}
use Rattle.cbi_base.specs.Name.{IsName}
use Rattle.c_syntax.specs.declared.token.Sign.TheVariants as sign
use Rattle.c_syntax.specs.declared.token.Word.TheVariants as word
use Rattle.c_syntax.specs.declared.parts.Declarator.{Declarator}
use Rattle.c_syntax.specs.declared.parts.Param.{Param}
use Rattle.c_syntax.specs.declared.parts.ParamName.{ParamName}
use Rattle.c_syntax.specs.declared.parts.Params.{Params}
use Rattle.c_syntax.specs.declared.parts.Params.TheVariants as params
use Rattle.c_syntax.specs.ExprTree as e
use Rattle.c_syntax.specs.Words.{ExprTree, ExprList, LinkList, PostfixList, InitialTree, StartTree, DeclarationTree, ForStartTree, StatementTree, EntryList}
use Rattle.c_syntax.specs.Words.{ItemTree, SourceTree, Kinds, a_name, a_sign, a_word, after_commas, base_kinds, body_kinds, bound_kinds, declaration_kinds}
use Rattle.c_syntax.specs.Words.{declarator_kinds, entry_kinds, expr_kinds, for_start_kinds, initial_kinds, item_kinds, optional_kinds, param_kinds, param_name_kinds}
use Rattle.c_syntax.specs.Words.{params_kinds, parenthesized_kinds, star_kinds, start_kinds, statement_kinds, tree_kinds, type_kinds, with_commas}
use Rattle.c_syntax.specs.StatementTree as s
use Rattle.c_syntax.specs.ItemTree as item
use Rattle.c_types_expressions.specs.declared.walk.VariableEntry.{VariableEntry}
use Rattle.c_types_walk.specs.ItemWalk.{listed_params}
use Rattle.c_types.specs.Numbers.{numbered_from, variables_of}
use Rattle.c_types.specs.Parts.{Part, Expression, Use, Declared, Begins, declaration_parts, entries_parts, expr_parts, exprs_parts, for_start_parts}
use Rattle.c_types.specs.Parts.{initial_parts, item_parts, items_parts, links_parts, named_parts, optional_parts, params_parts, postfix_parts, starts_parts}
use Rattle.c_types.specs.Parts.{statement_parts}
use Rattle.c_meaning_sound.specs.Sited.{IsSitedToken}
use Rattle.c_meaning_sound.proofs.Spotting.{in_middle, inside}

abbrev NamedPart : Part → Type 0
NamedPart (Declared global token name) = IsName name
NamedPart part = Unit {0}

abbrev Named : List Part → Type 0
Named xs = AllByRecursion NamedPart xs

both_named : (xs ys : List Part) → Named xs → Named ys → Named (xs ++ ys)
both_named xs ys h k = all_join NamedPart xs ys h k

-- expressions declare nothing
mutual
  expr_named : (x : ExprTree) → Named (expr_parts x)
  expr_named (e.Comma token operands) = both_named (exprs_parts operands) (Expression token ∷ []) (exprs_named operands) (tt, tt)
  expr_named (e.Assign token o target value) =
      both_named (expr_parts target) (expr_parts value ++ Expression token ∷ []) (expr_named target)
      (both_named (expr_parts value) (Expression token ∷ []) (expr_named value) (tt, tt))
  expr_named (e.Conditional token condition first second) =
      both_named (expr_parts condition) (expr_parts first ++ (expr_parts second ++ Expression token ∷ [])) (expr_named condition)
      (both_named (expr_parts first) (expr_parts second ++ Expression token ∷ []) (expr_named first)
      (both_named (expr_parts second) (Expression token ∷ []) (expr_named second) (tt, tt)))
  expr_named (e.Chain level first links) = both_named (expr_parts first) (links_parts links) (expr_named first) (links_named links)
  expr_named (e.Cast token b stars operand) = both_named (expr_parts operand) (Expression token ∷ []) (expr_named operand) (tt, tt)
  expr_named (e.Prefix token o operand) = both_named (expr_parts operand) (Expression token ∷ []) (expr_named operand) (tt, tt)
  expr_named (e.Postfix primary operators) = both_named (expr_parts primary) (postfix_parts operators) (expr_named primary) (postfix_named operators)
  expr_named (e.Name token name) = (tt, (tt, tt))
  expr_named (e.Call token name arguments) = both_named (exprs_parts arguments) (Expression token ∷ []) (exprs_named arguments) (tt, tt)
  expr_named (e.Paren token inner) = both_named (expr_parts inner) (Expression token ∷ []) (expr_named inner) (tt, tt)
  expr_named x = (tt, tt)

  exprs_named : (xs : ExprList) → Named (exprs_parts xs)
  exprs_named e.no_exprs = tt
  exprs_named (e.more_exprs x rest) = both_named (expr_parts x) (exprs_parts rest) (expr_named x) (exprs_named rest)

  links_named : (xs : LinkList) → Named (links_parts xs)
  links_named e.no_links = tt
  links_named (e.more_links token o operand rest) =
      both_named (expr_parts operand) (Expression token ∷ links_parts rest) (expr_named operand) (tt, links_named rest)

  postfix_named : (xs : PostfixList) → Named (postfix_parts xs)
  postfix_named e.no_postfix = tt
  postfix_named (e.index token x rest) = both_named (expr_parts x) (Expression token ∷ postfix_parts rest) (expr_named x) (tt, postfix_named rest)
  postfix_named (e.member token name rest) = (tt, postfix_named rest)
  postfix_named (e.arrow token name rest) = (tt, postfix_named rest)
  postfix_named (e.increment token rest) = (tt, postfix_named rest)
  postfix_named (e.decrement token rest) = (tt, postfix_named rest)

option_named : (x : Option ExprTree) → Named (optional_parts x)
option_named None = tt
option_named (Some x) = expr_named x

initial_named : (x : Option InitialTree) → Named (initial_parts x)
initial_named None = tt
initial_named (Some (s.Value value)) = expr_named value
initial_named (Some (s.Braced token items comma)) = exprs_named items

-- declarations
declarator_named : (d : Declarator) → AllByRecursion IsSitedToken (declarator_kinds d) → IsName d.name
declarator_named d n = (in_middle (star_kinds d.stars) (a_name d.name) (flat_map bound_kinds d.bounds) n).0

starts_named : (global : Bool) (xs : List StartTree) → AllByRecursion IsSitedToken (with_commas start_kinds xs) → Named (starts_parts global xs)
starts_named global [] n = tt
starts_named global (x ∷ []) n = (
  declarator_named x.declarator (all_first IsSitedToken (declarator_kinds x.declarator) (optional_kinds (λ y. a_sign sign.Equal ++ initial_kinds y) x.initial)
      (all_first IsSitedToken (start_kinds x) [] n)),
  both_named (initial_parts x.initial) [] (initial_named x.initial) tt,
)
starts_named global (x ∷ y ∷ ys) n = (
  declarator_named x.declarator (all_first IsSitedToken (declarator_kinds x.declarator) (optional_kinds (λ y. a_sign sign.Equal ++ initial_kinds y) x.initial)
      (all_first IsSitedToken (start_kinds x) (after_commas start_kinds (y ∷ ys)) n)),
  both_named (initial_parts x.initial) (starts_parts global (y ∷ ys)) (initial_named x.initial)
      (starts_named global (y ∷ ys) (all_second IsSitedToken (start_kinds x) (after_commas start_kinds (y ∷ ys)) n).1),
)

declaration_named : (global : Bool) (d : DeclarationTree) → AllByRecursion IsSitedToken (declaration_kinds d) → Named (declaration_parts global d)
declaration_named global d n = starts_named global d.starts (in_middle (base_kinds d.base) (with_commas start_kinds d.starts) (a_sign sign.Semicolon) n)

begun_named : (x : ForStartTree) → AllByRecursion IsSitedToken (for_start_kinds x) → Named (for_start_parts x)
begun_named (s.Declares d) n = declaration_named false d n
begun_named (s.Computes x) n = option_named x

mutual
  statement_named : (x : StatementTree) → AllByRecursion IsSitedToken (statement_kinds x) → Named (statement_parts x)
  statement_named (s.Block token xs) n = entries_named xs (all_first IsSitedToken (entry_kinds xs) (a_sign sign.RightBrace) n.1)
  statement_named (s.Expr token x) n = expr_named x
  statement_named (s.If token condition first) n =
      both_named (expr_parts condition) (statement_parts first) (expr_named condition)
      (statement_named first (all_second IsSitedToken (parenthesized_kinds (expr_kinds condition)) (statement_kinds first) n.1))
  statement_named (s.IfElse token condition first second) n =
      let heads = all_first IsSitedToken (parenthesized_kinds (expr_kinds condition) ++ statement_kinds first ++ a_word word.Else) (statement_kinds second) n.1 in
      both_named (expr_parts condition) (statement_parts first ++ statement_parts second) (expr_named condition)
      (both_named (statement_parts first) (statement_parts second)
      (statement_named first (in_middle (parenthesized_kinds (expr_kinds condition)) (statement_kinds first) (a_word word.Else) heads))
      (statement_named second (all_second IsSitedToken (parenthesized_kinds (expr_kinds condition) ++ statement_kinds first ++ a_word word.Else)
      (statement_kinds second) n.1)))
  statement_named (s.While token condition body) n =
      both_named (expr_parts condition) (statement_parts body) (expr_named condition)
      (statement_named body (all_second IsSitedToken (parenthesized_kinds (expr_kinds condition)) (statement_kinds body) n.1))
  statement_named (s.Do token body condition) n =
      let heads = all_first IsSitedToken (statement_kinds body ++ a_word word.While ++ parenthesized_kinds (expr_kinds condition)) (a_sign sign.Semicolon) n.1 in
      both_named (statement_parts body) (expr_parts condition)
      (statement_named body (all_first IsSitedToken (statement_kinds body) (a_word word.While)
      (all_first IsSitedToken (statement_kinds body ++ a_word word.While) (parenthesized_kinds (expr_kinds condition)) heads))) (expr_named condition)
  statement_named (s.For token start condition step body) n =
      let head : Kinds = for_start_kinds start ++ optional_kinds expr_kinds condition ++ a_sign sign.Semicolon ++ optional_kinds expr_kinds step in
      let parts = inside head (all_first IsSitedToken (parenthesized_kinds head) (statement_kinds body) n.1) in
      let three = all_first IsSitedToken (for_start_kinds start ++ optional_kinds expr_kinds condition ++ a_sign sign.Semicolon) (optional_kinds expr_kinds step) parts in
      let two = all_first IsSitedToken (for_start_kinds start ++ optional_kinds expr_kinds condition) (a_sign sign.Semicolon) three in
      both_named (for_start_parts start) (optional_parts condition ++ (optional_parts step ++ statement_parts body))
      (begun_named start (all_first IsSitedToken (for_start_kinds start) (optional_kinds expr_kinds condition) two))
      (both_named (optional_parts condition) (optional_parts step ++ statement_parts body) (option_named condition)
      (both_named (optional_parts step) (statement_parts body) (option_named step)
      (statement_named body (all_second IsSitedToken (parenthesized_kinds head) (statement_kinds body) n.1))))
  statement_named (s.Return token value) n = option_named value
  statement_named x n = tt

  entries_named : (xs : EntryList) → AllByRecursion IsSitedToken (entry_kinds xs) → Named (entries_parts xs)
  entries_named s.no_entries n = tt
  entries_named (s.declared d rest) n =
      both_named (declaration_parts false d) (entries_parts rest) (declaration_named false d (all_first IsSitedToken (declaration_kinds d) (entry_kinds rest) n))
      (entries_named rest (all_second IsSitedToken (declaration_kinds d) (entry_kinds rest) n))
  entries_named (s.stated x rest) n =
      both_named (statement_parts x) (entries_parts rest) (statement_named x (all_first IsSitedToken (statement_kinds x) (entry_kinds rest) n))
      (entries_named rest (all_second IsSitedToken (statement_kinds x) (entry_kinds rest) n))

-- parameters
param_named : (o : Option ParamName) → AllByRecursion IsSitedToken (optional_kinds param_name_kinds o) → Named (named_parts o)
param_named None n = tt
param_named (Some p) n = (n.0, tt)

own_param : (p : Param) → AllByRecursion IsSitedToken (param_kinds p) → Named (named_parts p.name)
own_param p n = param_named p.name (all_second IsSitedToken (type_kinds p.base p.stars) (optional_kinds param_name_kinds p.name) n)

params_named : (ps : List Param) → AllByRecursion IsSitedToken (with_commas param_kinds ps) → Named (params_parts ps)
params_named [] n = tt
params_named (p ∷ []) n = both_named (named_parts p.name) [] (own_param p (all_first IsSitedToken (param_kinds p) [] n)) tt
params_named (p ∷ q ∷ ps) n =
    both_named (named_parts p.name) (params_parts (q ∷ ps)) (own_param p (all_first IsSitedToken (param_kinds p) (after_commas param_kinds (q ∷ ps)) n))
    (params_named (q ∷ ps) (all_second IsSitedToken (param_kinds p) (after_commas param_kinds (q ∷ ps)) n).1)

listed_named : (ps : Params) → AllByRecursion IsSitedToken (params_kinds ps) → Named (params_parts (listed_params ps))
listed_named params.Empty n = tt
listed_named params.Void n = tt
listed_named (params.List list) n = params_named list n

item_named : (x : ItemTree) → AllByRecursion IsSitedToken (item_kinds x) → Named (item_parts x)
item_named (item.Struct token tag members) n = tt
item_named (item.Function token b stars name ps None) n = tt
item_named (item.Function token b stars name ps (Some body)) n =
    let heads = all_first IsSitedToken (type_kinds b stars ++ a_name name ++ parenthesized_kinds (params_kinds ps)) (body_kinds (Some body)) n in
    let last = all_second IsSitedToken (type_kinds b stars ++ a_name name ++ parenthesized_kinds (params_kinds ps)) (body_kinds (Some body)) n in (
      tt,
      both_named (params_parts (listed_params ps)) (entries_parts body)
          (listed_named ps (inside (params_kinds ps) (all_second IsSitedToken (type_kinds b stars ++ a_name name) (parenthesized_kinds (params_kinds ps)) heads)))
          (entries_named body (all_first IsSitedToken (entry_kinds body) (a_sign sign.RightBrace) last.1)),
    )
item_named (item.Declaration d) n = declaration_named true d n

items_named : (xs : List ItemTree) → AllByRecursion IsSitedToken (flat_map item_kinds xs) → Named (items_parts xs)
items_named [] n = tt
items_named (x ∷ xs) n =
    both_named (item_parts x) (items_parts xs) (item_named x (all_first IsSitedToken (item_kinds x) (flat_map item_kinds xs) n))
    (items_named xs (all_second IsSitedToken (item_kinds x) (flat_map item_kinds xs) n))

numbered_named : (globals locals : ℕ) (ps : List Part) → Named ps → AllByRecursion (λ v. IsName v.name) (numbered_from globals locals ps)
numbered_named globals locals [] h = tt
numbered_named globals locals (Expression token ∷ ps) h = numbered_named globals locals ps h.1
numbered_named globals locals (Use token ∷ ps) h = numbered_named globals locals ps h.1
numbered_named globals locals (Declared true token name ∷ ps) h = (h.0, numbered_named (globals + 1) locals ps h.1)
numbered_named globals locals (Declared false token name ∷ ps) h = (h.0, numbered_named globals (locals + 1) ps h.1)
numbered_named globals locals (Begins ∷ ps) h = numbered_named globals 0 ps h.1

all_at : (xs : List VariableEntry) (i : ℕ) (x : VariableEntry) → AllByRecursion (λ v. IsName v.name) xs → slice_get xs i ≡ Some x → IsName x.name
all_at [] i x h e = cc
all_at (y ∷ ys) zero x h e = subst (λ (v : VariableEntry). IsName v.name) (same_Some y x e) h.0
all_at (y ∷ ys) (suc i) x h e = all_at ys i x h.1 e

-- each variable of a text whose tokens keep names has a name
pub variable_named : (tree : SourceTree) (variables : List VariableEntry) → AllByRecursion IsSitedToken (tree_kinds tree) → variables ≡ variables_of tree
    → (i : ℕ) (x : VariableEntry) → slice_get variables i ≡ Some x → IsName x.name
variable_named tree variables n h i x e =
    all_at variables i x (subst (AllByRecursion (λ v. IsName v.name)) (sym h) (numbered_named 0 0 (items_parts tree.items) (items_named tree.items n))) e
