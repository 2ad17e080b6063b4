-- The strings of a tree have no more bytes than its tokens have.
use Rattle.std.proofs.Common.{◌≡◌, ℕ, ◌≤◌, refl, arith, List, [], ◌∷◌, ◌++◌, Some, None, ◌+◌, length, length-append}
use Rattle.std.specs.Prelude.{Option, sum_by}
use Rattle.std.specs.List.{AllByRecursion, flat_map}
use Rattle.std.proofs.lemmas.List.Sums.{sum_by-cons}
use Rattle.c_syntax.specs.declared.token.Sign.TheVariants as sign
use Rattle.c_syntax.specs.declared.token.Word.TheVariants as word
use Rattle.c_syntax.specs.ExprTree as e
use Rattle.c_syntax.specs.Words.{ExprTree, ExprList, LinkList, PostfixList, InitialTree, StartTree, DeclarationTree, ForStartTree, StatementTree, EntryList}
use Rattle.c_syntax.specs.Words.{ItemTree, SourceTree, Kinds, a_name, a_sign, a_word, after_commas, base_kinds, body_kinds, comma_kinds, declaration_kinds}
use Rattle.c_syntax.specs.Words.{declarator_kinds, entry_kinds, expr_kinds, exprs_kinds, for_start_kinds, initial_kinds, item_kinds, link_kinds}
use Rattle.c_syntax.specs.Words.{more_exprs_kinds, optional_kinds, params_kinds, parenthesized_kinds, postfix_kinds, prefix_kinds, start_kinds, statement_kinds, text_kinds}
use Rattle.c_syntax.specs.Words.{tree_kinds, type_kinds, with_commas, kind_text_len}
use Rattle.c_syntax.specs.StatementTree as s
use Rattle.c_syntax.specs.ItemTree as item
use Rattle.c_meaning.specs.Words.{Literal, string_literals, strings_begun, strings_behind, strings_declared, strings_entered, strings_if, strings_in, strings_initial}
use Rattle.c_meaning.specs.Words.{strings_of_all, strings_of_body, strings_of_item, strings_of_links, strings_stated}

-- how many bytes the strings among some tokens have
abbrev heavy : Kinds → ℕ
heavy [] = 0
heavy (k ∷ ks) = kind_text_len k + heavy ks

abbrev bytes_in : List Literal → ℕ
bytes_in [] = 0
bytes_in (x ∷ xs) = length x.bytes + bytes_in xs

heavy_two : (ks ls : Kinds) → heavy (ks ++ ls) ≡ heavy ks + heavy ls
heavy_two [] ls = omega arith
heavy_two (k ∷ ks) ls = omega (arith, heavy_two ks ls)

bytes_two : (xs ys : List Literal) → bytes_in (xs ++ ys) ≡ bytes_in xs + bytes_in ys
bytes_two [] ys = omega arith
bytes_two (x ∷ xs) ys = omega (arith, bytes_two xs ys)

abbrev Fewer : List Literal → Kinds → Type 0
Fewer xs ks = bytes_in xs ≤ heavy ks

join : (xs ys : List Literal) (ks ls : Kinds) → Fewer xs ks → Fewer ys ls → Fewer (xs ++ ys) (ks ++ ls)
join xs ys ks ls h k = omega (arith, h, k, bytes_two xs ys, heavy_two ks ls)

behind : (xs : List Literal) (ks ls : Kinds) → Fewer xs ks → Fewer xs (ks ++ ls)
behind xs ks ls h = omega (arith, h, heavy_two ks ls)

before : (xs : List Literal) (ks ls : Kinds) → Fewer xs ls → Fewer xs (ks ++ ls)
before xs ks ls h = omega (arith, h, heavy_two ks ls)

within : (xs : List Literal) (a b c : Kinds) → Fewer xs b → Fewer xs (a ++ b ++ c)
within xs a b c h = behind xs (a ++ b) c (before xs a b h)

enclosed : (xs : List Literal) (ks : Kinds) → Fewer xs ks → Fewer xs (parenthesized_kinds ks)
enclosed xs ks h = within xs (a_sign sign.LeftParen) ks (a_sign sign.RightParen) h

none_fewer : (ks : Kinds) → Fewer [] ks
none_fewer ks = omega arith

parts_heavy : (parts : List (List ℕ)) → length (flat_map (λ bytes. bytes) parts) ≡ heavy (text_kinds parts)
parts_heavy [] = refl
parts_heavy (p ∷ parts) = omega (arith, parts_heavy parts, length-append p (flat_map (λ bytes. bytes) parts))

mutual
  expr_fewer : (x : ExprTree) → Fewer (strings_in x) (expr_kinds x)
  expr_fewer (e.Comma token operands) = exprs_fewer operands
  expr_fewer (e.Assign token o target value) = join (strings_in target) (strings_in value) (expr_kinds target ++ a_sign o) (expr_kinds value)
      (behind (strings_in target) (expr_kinds target) (a_sign o) (expr_fewer target)) (expr_fewer value)
  expr_fewer (e.Conditional token c x y) =
      let a = expr_kinds c ++ a_sign sign.Question ++ expr_kinds x in
      join (strings_in c ++ strings_in x) (strings_in y) (a ++ a_sign sign.Colon) (expr_kinds y)
      (behind (strings_in c ++ strings_in x) a (a_sign sign.Colon)
      (join (strings_in c) (strings_in x) (expr_kinds c ++ a_sign sign.Question) (expr_kinds x)
      (behind (strings_in c) (expr_kinds c) (a_sign sign.Question) (expr_fewer c)) (expr_fewer x))) (expr_fewer y)
  expr_fewer (e.Chain level first links) =
      join (strings_in first) (strings_of_links links) (expr_kinds first) (link_kinds links) (expr_fewer first) (links_fewer links)
  expr_fewer (e.Cast token b stars x) = before (strings_in x) (parenthesized_kinds (type_kinds b stars)) (expr_kinds x) (expr_fewer x)
  expr_fewer (e.Prefix token o x) = before (strings_in x) (prefix_kinds o) (expr_kinds x) (expr_fewer x)
  expr_fewer (e.Postfix x operators) =
      join (strings_in x) (strings_behind operators) (expr_kinds x) (postfix_kinds operators) (expr_fewer x) (postfix_fewer operators)
  expr_fewer (e.Call token name arguments) = before (strings_of_all arguments) (a_name name) (parenthesized_kinds (exprs_kinds arguments))
      (enclosed (strings_of_all arguments) (exprs_kinds arguments) (exprs_fewer arguments))
  expr_fewer (e.Strings token parts) = omega (arith, parts_heavy parts)
  expr_fewer (e.Paren token x) = enclosed (strings_in x) (expr_kinds x) (expr_fewer x)
  expr_fewer x = none_fewer (expr_kinds x)

  exprs_fewer : (xs : ExprList) → Fewer (strings_of_all xs) (exprs_kinds xs)
  exprs_fewer e.no_exprs = omega arith
  exprs_fewer (e.more_exprs x rest) =
      join (strings_in x) (strings_of_all rest) (expr_kinds x) (more_exprs_kinds rest) (expr_fewer x) (more_fewer rest)

  more_fewer : (xs : ExprList) → Fewer (strings_of_all xs) (more_exprs_kinds xs)
  more_fewer e.no_exprs = omega arith
  more_fewer (e.more_exprs x rest) = join (strings_in x) (strings_of_all rest) (a_sign sign.Comma ++ expr_kinds x) (more_exprs_kinds rest)
      (before (strings_in x) (a_sign sign.Comma) (expr_kinds x) (expr_fewer x)) (more_fewer rest)

  links_fewer : (xs : LinkList) → Fewer (strings_of_links xs) (link_kinds xs)
  links_fewer e.no_links = omega arith
  links_fewer (e.more_links token o x rest) = join (strings_in x) (strings_of_links rest) (a_sign o ++ expr_kinds x) (link_kinds rest)
      (before (strings_in x) (a_sign o) (expr_kinds x) (expr_fewer x)) (links_fewer rest)

  postfix_fewer : (xs : PostfixList) → Fewer (strings_behind xs) (postfix_kinds xs)
  postfix_fewer e.no_postfix = omega arith
  postfix_fewer (e.index token x rest) =
      join (strings_in x) (strings_behind rest) (a_sign sign.LeftBracket ++ expr_kinds x ++ a_sign sign.RightBracket) (postfix_kinds rest)
      (within (strings_in x) (a_sign sign.LeftBracket) (expr_kinds x) (a_sign sign.RightBracket) (expr_fewer x)) (postfix_fewer rest)
  postfix_fewer (e.member token name rest) = before (strings_behind rest) (a_sign sign.Dot ++ a_name name) (postfix_kinds rest) (postfix_fewer rest)
  postfix_fewer (e.arrow token name rest) = before (strings_behind rest) (a_sign sign.Arrow ++ a_name name) (postfix_kinds rest) (postfix_fewer rest)
  postfix_fewer (e.increment token rest) = before (strings_behind rest) (a_sign sign.PlusPlus) (postfix_kinds rest) (postfix_fewer rest)
  postfix_fewer (e.decrement token rest) = before (strings_behind rest) (a_sign sign.MinusMinus) (postfix_kinds rest) (postfix_fewer rest)

if_fewer : (x : Option ExprTree) → Fewer (strings_if x) (optional_kinds expr_kinds x)
if_fewer None = omega arith
if_fewer (Some x) = expr_fewer x

initial_fewer : (x : InitialTree) → Fewer (strings_initial (Some x)) (initial_kinds x)
initial_fewer (s.Value value) = expr_fewer value
initial_fewer (s.Braced token items comma) =
    within (strings_of_all items) (a_sign sign.LeftBrace) (exprs_kinds items ++ comma_kinds comma) (a_sign sign.RightBrace)
    (behind (strings_of_all items) (exprs_kinds items) (comma_kinds comma) (exprs_fewer items))

initials_fewer : (x : Option InitialTree) → Fewer (strings_initial x) (optional_kinds (λ y. a_sign sign.Equal ++ initial_kinds y) x)
initials_fewer None = omega arith
initials_fewer (Some x) = before (strings_initial (Some x)) (a_sign sign.Equal) (initial_kinds x) (initial_fewer x)

start_fewer : (x : StartTree) → Fewer (strings_initial x.initial) (start_kinds x)
start_fewer x = before (strings_initial x.initial) (declarator_kinds x.declarator) (optional_kinds (λ y. a_sign sign.Equal ++ initial_kinds y) x.initial)
    (initials_fewer x.initial)

starts_fewer : (xs : List StartTree) → Fewer (flat_map (λ x. strings_initial x.initial) xs) (after_commas start_kinds xs)
starts_fewer [] = omega arith
starts_fewer (x ∷ xs) = join (strings_initial x.initial) (flat_map (λ x. strings_initial x.initial) xs) (a_sign sign.Comma ++ start_kinds x)
    (after_commas start_kinds xs) (before (strings_initial x.initial) (a_sign sign.Comma) (start_kinds x) (start_fewer x)) (starts_fewer xs)

all_starts_fewer : (b : Kinds) (xs : List StartTree) → Fewer (flat_map (λ x. strings_initial x.initial) xs)
    (b ++ with_commas start_kinds xs ++ a_sign sign.Semicolon)
all_starts_fewer b [] = none_fewer (b ++ [] ++ a_sign sign.Semicolon)
all_starts_fewer b (x ∷ xs) = within (flat_map (λ x. strings_initial x.initial) (x ∷ xs)) b (start_kinds x ++ after_commas start_kinds xs)
    (a_sign sign.Semicolon)
    (join (strings_initial x.initial) (flat_map (λ x. strings_initial x.initial) xs) (start_kinds x) (after_commas start_kinds xs) (start_fewer x)
    (starts_fewer xs))

declaration_fewer : (d : DeclarationTree) → Fewer (strings_declared d) (declaration_kinds d)
declaration_fewer d = all_starts_fewer (base_kinds d.base) d.starts

begun_fewer : (x : ForStartTree) → Fewer (strings_begun x) (for_start_kinds x)
begun_fewer (s.Declares d) = declaration_fewer d
begun_fewer (s.Computes x) = behind (strings_if x) (optional_kinds expr_kinds x) (a_sign sign.Semicolon) (if_fewer x)

conditioned : (token : List Literal) (w : Kinds) (c : ExprTree) (ks : Kinds) → Fewer token ks
    → Fewer (strings_in c ++ token) (w ++ parenthesized_kinds (expr_kinds c) ++ ks)
conditioned xs w c ks h = join (strings_in c) xs (w ++ parenthesized_kinds (expr_kinds c)) ks
    (before (strings_in c) w (parenthesized_kinds (expr_kinds c)) (enclosed (strings_in c) (expr_kinds c) (expr_fewer c))) h

mutual
  stated_fewer : (x : StatementTree) → Fewer (strings_stated x) (statement_kinds x)
  stated_fewer (s.Block token entries) =
      within (strings_entered entries) (a_sign sign.LeftBrace) (entry_kinds entries) (a_sign sign.RightBrace) (entered_fewer entries)
  stated_fewer (s.Expr token x) = behind (strings_in x) (expr_kinds x) (a_sign sign.Semicolon) (expr_fewer x)
  stated_fewer (s.If token c first) = conditioned (strings_stated first) (a_word word.If) c (statement_kinds first) (stated_fewer first)
  stated_fewer (s.IfElse token c first second) =
      let a = a_word word.If ++ parenthesized_kinds (expr_kinds c) ++ statement_kinds first in
      join (strings_in c ++ strings_stated first) (strings_stated second) (a ++ a_word word.Else) (statement_kinds second)
      (behind (strings_in c ++ strings_stated first) a (a_word word.Else)
      (conditioned (strings_stated first) (a_word word.If) c (statement_kinds first) (stated_fewer first))) (stated_fewer second)
  stated_fewer (s.While token c body) = conditioned (strings_stated body) (a_word word.While) c (statement_kinds body) (stated_fewer body)
  stated_fewer (s.Do token body c) =
      let a = a_word word.Do ++ statement_kinds body ++ a_word word.While in
      behind (strings_stated body ++ strings_in c) (a ++ parenthesized_kinds (expr_kinds c)) (a_sign sign.Semicolon)
      (join (strings_stated body) (strings_in c) a (parenthesized_kinds (expr_kinds c))
      (within (strings_stated body) (a_word word.Do) (statement_kinds body) (a_word word.While) (stated_fewer body))
      (enclosed (strings_in c) (expr_kinds c) (expr_fewer c)))
  stated_fewer (s.For token start c step body) =
      let a = for_start_kinds start ++ optional_kinds expr_kinds c ++ a_sign sign.Semicolon in
      let xs = strings_begun start ++ strings_if c ++ strings_if step in
      join xs (strings_stated body) (a_word word.For ++ parenthesized_kinds (a ++ optional_kinds expr_kinds step)) (statement_kinds body)
      (before xs (a_word word.For) (parenthesized_kinds (a ++ optional_kinds expr_kinds step)) (enclosed xs (a ++ optional_kinds expr_kinds step)
      (join (strings_begun start ++ strings_if c) (strings_if step) a (optional_kinds expr_kinds step)
      (behind (strings_begun start ++ strings_if c) (for_start_kinds start ++ optional_kinds expr_kinds c) (a_sign sign.Semicolon)
      (join (strings_begun start) (strings_if c) (for_start_kinds start) (optional_kinds expr_kinds c) (begun_fewer start) (if_fewer c))) (if_fewer step))))
      (stated_fewer body)
  stated_fewer (s.Return token value) = within (strings_if value) (a_word word.Return) (optional_kinds expr_kinds value) (a_sign sign.Semicolon) (if_fewer value)
  stated_fewer x = none_fewer (statement_kinds x)

  entered_fewer : (xs : EntryList) → Fewer (strings_entered xs) (entry_kinds xs)
  entered_fewer s.no_entries = omega arith
  entered_fewer (s.declared d rest) =
      join (strings_declared d) (strings_entered rest) (declaration_kinds d) (entry_kinds rest) (declaration_fewer d) (entered_fewer rest)
  entered_fewer (s.stated x rest) =
      join (strings_stated x) (strings_entered rest) (statement_kinds x) (entry_kinds rest) (stated_fewer x) (entered_fewer rest)

body_fewer : (body : Option EntryList) → Fewer (strings_of_body body) (body_kinds body)
body_fewer None = none_fewer (body_kinds None)
body_fewer (Some entries) =
    within (strings_entered entries) (a_sign sign.LeftBrace) (entry_kinds entries) (a_sign sign.RightBrace) (entered_fewer entries)

item_fewer : (x : ItemTree) → Fewer (strings_of_item x) (item_kinds x)
item_fewer (item.Struct token tag members) = none_fewer (item_kinds (item.Struct token tag members))
item_fewer (item.Function token b stars name ps body) =
    before (strings_of_body body) (type_kinds b stars ++ a_name name ++ parenthesized_kinds (params_kinds ps)) (body_kinds body) (body_fewer body)
item_fewer (item.Declaration d) = declaration_fewer d

items_fewer : (xs : List ItemTree) → Fewer (flat_map strings_of_item xs) (flat_map item_kinds xs)
items_fewer [] = omega arith
items_fewer (x ∷ xs) = join (strings_of_item x) (flat_map strings_of_item xs) (item_kinds x) (flat_map item_kinds xs) (item_fewer x) (items_fewer xs)

heavy_is : (ks : Kinds) → heavy ks ≡ sum_by kind_text_len ks
heavy_is [] = refl
heavy_is (k ∷ ks) = omega (arith, heavy_is ks, sum_by-cons kind_text_len k ks)

each_short : (n : ℕ) (xs : List Literal) → bytes_in xs ≤ n → AllByRecursion (λ s. length s.bytes ≤ n) xs
each_short n [] h = tt
each_short n (x ∷ xs) h = (omega (arith, h), each_short n xs (omega (arith, h)))

-- No string of a tree has more bytes than all its tokens have.
pub strings_short : (t : SourceTree) (n : ℕ) → sum_by kind_text_len (tree_kinds t) ≤ n → AllByRecursion (λ s. length s.bytes ≤ n) (string_literals t)
strings_short t n h = each_short n (string_literals t) (omega (arith, h, items_fewer t.items, heavy_is (tree_kinds t)))
