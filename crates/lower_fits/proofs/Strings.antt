-- Strings measure no more than the tokens of their text do, where each one measures no more than its own tokens.
use Rattle.std.proofs.Common.{◌≡◌, ℕ, ◌≤◌, arith, List, [], ◌∷◌, ◌++◌, Some, None}
use Rattle.std.specs.Prelude.{Option}
use Rattle.std.specs.List.{flat_map, sum_by}
use Rattle.c_syntax.specs.declared.token.Sign.TheVariants as sign
use Rattle.c_syntax.specs.declared.token.Word.TheVariants as word
use Rattle.c_syntax.specs.ExprTree as e
use Rattle.c_syntax.specs.Words.{ExprTree, ExprList, LinkList, PostfixList, InitialTree, StartTree, DeclarationTree, ForStartTree, StatementTree, EntryList}
use Rattle.c_syntax.specs.Words.{ItemTree, Kinds, a_name, a_sign, a_word, after_commas, base_kinds, body_kinds, comma_kinds, declaration_kinds}
use Rattle.c_syntax.specs.Words.{declarator_kinds, entry_kinds, expr_kinds, exprs_kinds, for_start_kinds, initial_kinds, item_kinds, link_kinds}
use Rattle.c_syntax.specs.Words.{more_exprs_kinds, optional_kinds, params_kinds, parenthesized_kinds, postfix_kinds, prefix_kinds, start_kinds, statement_kinds, text_kinds}
use Rattle.c_syntax.specs.Words.{type_kinds, with_commas}
use Rattle.c_syntax.specs.StatementTree as s
use Rattle.c_syntax.specs.ItemTree as item
use Rattle.c_syntax.specs.declared.token.TokenKind.{TokenKind}
use Rattle.c_meaning.specs.Words.{Literal, strings_begun, strings_behind, strings_declared, strings_entered, strings_if, strings_in, strings_initial}
use Rattle.c_meaning.specs.Words.{strings_of_all, strings_of_body, strings_of_item, strings_of_links, strings_stated}
use Rattle.lower_fits.proofs.Measuring.{Within, before, behind, between, enclosed, join, nothing}

module _ (f : Literal → ℕ) (g : TokenKind → ℕ)
    (own : (token : ℕ) (parts : List (List ℕ)) → f (record { token = token; bytes = flat_map (λ bytes. bytes) parts }) ≤ sum_by g (text_kinds parts)) where
  -- one string measures what it does
  one : (s : Literal) → sum_by f (s ∷ []) ≡ f s
  one s = omega arith

  mutual
    -- the strings of an expression
    expr_fewer : (x : ExprTree) → Within f g (strings_in x) (expr_kinds x)
    expr_fewer (e.Comma token operands) = exprs_fewer operands
    expr_fewer (e.Assign token o target value) = join f g (strings_in target) (strings_in value) (expr_kinds target ++ a_sign o) (expr_kinds value)
        (behind f g (strings_in target) (expr_kinds target) (a_sign o) (expr_fewer target)) (expr_fewer value)
    expr_fewer (e.Conditional token c x y) =
        let a = expr_kinds c ++ a_sign sign.Question ++ expr_kinds x in
        join f g (strings_in c ++ strings_in x) (strings_in y) (a ++ a_sign sign.Colon) (expr_kinds y)
        (behind f g (strings_in c ++ strings_in x) a (a_sign sign.Colon)
        (join f g (strings_in c) (strings_in x) (expr_kinds c ++ a_sign sign.Question) (expr_kinds x)
        (behind f g (strings_in c) (expr_kinds c) (a_sign sign.Question) (expr_fewer c)) (expr_fewer x))) (expr_fewer y)
    expr_fewer (e.Chain level first links) =
        join f g (strings_in first) (strings_of_links links) (expr_kinds first) (link_kinds links) (expr_fewer first) (links_fewer links)
    expr_fewer (e.Cast token b stars x) = before f g (strings_in x) (parenthesized_kinds (type_kinds b stars)) (expr_kinds x) (expr_fewer x)
    expr_fewer (e.Prefix token o x) = before f g (strings_in x) (prefix_kinds o) (expr_kinds x) (expr_fewer x)
    expr_fewer (e.Postfix x operators) =
        join f g (strings_in x) (strings_behind operators) (expr_kinds x) (postfix_kinds operators) (expr_fewer x) (postfix_fewer operators)
    expr_fewer (e.Call token name arguments) = before f g (strings_of_all arguments) (a_name name) (parenthesized_kinds (exprs_kinds arguments))
        (enclosed f g (strings_of_all arguments) (exprs_kinds arguments) (exprs_fewer arguments))
    expr_fewer (e.Strings token parts) = omega (arith, own token parts, one (record { token = token; bytes = flat_map (λ bytes. bytes) parts }))
    expr_fewer (e.Paren token x) = enclosed f g (strings_in x) (expr_kinds x) (expr_fewer x)
    expr_fewer x = nothing f g (expr_kinds x)

    -- those of expressions with commas between them
    exprs_fewer : (xs : ExprList) → Within f g (strings_of_all xs) (exprs_kinds xs)
    exprs_fewer e.no_exprs = nothing f g []
    exprs_fewer (e.more_exprs x rest) =
        join f g (strings_in x) (strings_of_all rest) (expr_kinds x) (more_exprs_kinds rest) (expr_fewer x) (more_fewer rest)

    -- those of expressions behind a comma each
    more_fewer : (xs : ExprList) → Within f g (strings_of_all xs) (more_exprs_kinds xs)
    more_fewer e.no_exprs = nothing f g []
    more_fewer (e.more_exprs x rest) = join f g (strings_in x) (strings_of_all rest) (a_sign sign.Comma ++ expr_kinds x) (more_exprs_kinds rest)
        (before f g (strings_in x) (a_sign sign.Comma) (expr_kinds x) (expr_fewer x)) (more_fewer rest)

    -- those of the links of a chain
    links_fewer : (xs : LinkList) → Within f g (strings_of_links xs) (link_kinds xs)
    links_fewer e.no_links = nothing f g []
    links_fewer (e.more_links token o x rest) = join f g (strings_in x) (strings_of_links rest) (a_sign o ++ expr_kinds x) (link_kinds rest)
        (before f g (strings_in x) (a_sign o) (expr_kinds x) (expr_fewer x)) (links_fewer rest)

    -- those behind a primary expression
    postfix_fewer : (xs : PostfixList) → Within f g (strings_behind xs) (postfix_kinds xs)
    postfix_fewer e.no_postfix = nothing f g []
    postfix_fewer (e.index token x rest) =
        join f g (strings_in x) (strings_behind rest) (a_sign sign.LeftBracket ++ expr_kinds x ++ a_sign sign.RightBracket) (postfix_kinds rest)
        (between f g (strings_in x) (a_sign sign.LeftBracket) (expr_kinds x) (a_sign sign.RightBracket) (expr_fewer x)) (postfix_fewer rest)
    postfix_fewer (e.member token name rest) = before f g (strings_behind rest) (a_sign sign.Dot ++ a_name name) (postfix_kinds rest) (postfix_fewer rest)
    postfix_fewer (e.arrow token name rest) = before f g (strings_behind rest) (a_sign sign.Arrow ++ a_name name) (postfix_kinds rest) (postfix_fewer rest)
    postfix_fewer (e.increment token rest) = before f g (strings_behind rest) (a_sign sign.PlusPlus) (postfix_kinds rest) (postfix_fewer rest)
    postfix_fewer (e.decrement token rest) = before f g (strings_behind rest) (a_sign sign.MinusMinus) (postfix_kinds rest) (postfix_fewer rest)

  -- those of an expression that may be left out
  if_fewer : (x : Option ExprTree) → Within f g (strings_if x) (optional_kinds expr_kinds x)
  if_fewer None = nothing f g []
  if_fewer (Some x) = expr_fewer x

  -- those of an initialiser
  initial_fewer : (x : InitialTree) → Within f g (strings_initial (Some x)) (initial_kinds x)
  initial_fewer (s.Value value) = expr_fewer value
  initial_fewer (s.Braced token items comma) =
      between f g (strings_of_all items) (a_sign sign.LeftBrace) (exprs_kinds items ++ comma_kinds comma) (a_sign sign.RightBrace)
      (behind f g (strings_of_all items) (exprs_kinds items) (comma_kinds comma) (exprs_fewer items))

  -- those of an initialiser that may be left out
  initials_fewer : (x : Option InitialTree) → Within f g (strings_initial x) (optional_kinds (λ y. a_sign sign.Equal ++ initial_kinds y) x)
  initials_fewer None = nothing f g []
  initials_fewer (Some x) = before f g (strings_initial (Some x)) (a_sign sign.Equal) (initial_kinds x) (initial_fewer x)

  -- those of a declarator with its initialiser
  start_fewer : (x : StartTree) → Within f g (strings_initial x.initial) (start_kinds x)
  start_fewer x = before f g (strings_initial x.initial) (declarator_kinds x.declarator) (optional_kinds (λ y. a_sign sign.Equal ++ initial_kinds y) x.initial)
      (initials_fewer x.initial)

  -- those of declarators behind a comma each
  starts_fewer : (xs : List StartTree) → Within f g (flat_map (λ x. strings_initial x.initial) xs) (after_commas start_kinds xs)
  starts_fewer [] = nothing f g []
  starts_fewer (x ∷ xs) = join f g (strings_initial x.initial) (flat_map (λ x. strings_initial x.initial) xs) (a_sign sign.Comma ++ start_kinds x)
      (after_commas start_kinds xs) (before f g (strings_initial x.initial) (a_sign sign.Comma) (start_kinds x) (start_fewer x)) (starts_fewer xs)

  -- those of the declarators of a declaration
  all_starts_fewer : (b : Kinds) (xs : List StartTree) → Within f g (flat_map (λ x. strings_initial x.initial) xs)
      (b ++ with_commas start_kinds xs ++ a_sign sign.Semicolon)
  all_starts_fewer b [] = nothing f g (b ++ [] ++ a_sign sign.Semicolon)
  all_starts_fewer b (x ∷ xs) = between f g (flat_map (λ x. strings_initial x.initial) (x ∷ xs)) b (start_kinds x ++ after_commas start_kinds xs)
      (a_sign sign.Semicolon)
      (join f g (strings_initial x.initial) (flat_map (λ x. strings_initial x.initial) xs) (start_kinds x) (after_commas start_kinds xs) (start_fewer x)
      (starts_fewer xs))

  -- those of a declaration
  declaration_fewer : (d : DeclarationTree) → Within f g (strings_declared d) (declaration_kinds d)
  declaration_fewer d = all_starts_fewer (base_kinds d.base) d.starts

  -- those of the start of a `for`
  begun_fewer : (x : ForStartTree) → Within f g (strings_begun x) (for_start_kinds x)
  begun_fewer (s.Declares d) = declaration_fewer d
  begun_fewer (s.Computes x) = behind f g (strings_if x) (optional_kinds expr_kinds x) (a_sign sign.Semicolon) (if_fewer x)

  -- those of a condition and what comes after it
  conditioned : (token : List Literal) (w : Kinds) (c : ExprTree) (ks : Kinds) → Within f g token ks
      → Within f g (strings_in c ++ token) (w ++ parenthesized_kinds (expr_kinds c) ++ ks)
  conditioned xs w c ks h = join f g (strings_in c) xs (w ++ parenthesized_kinds (expr_kinds c)) ks
      (before f g (strings_in c) w (parenthesized_kinds (expr_kinds c)) (enclosed f g (strings_in c) (expr_kinds c) (expr_fewer c))) h

  mutual
    -- those of a statement
    stated_fewer : (x : StatementTree) → Within f g (strings_stated x) (statement_kinds x)
    stated_fewer (s.Block token entries) =
        between f g (strings_entered entries) (a_sign sign.LeftBrace) (entry_kinds entries) (a_sign sign.RightBrace) (entered_fewer entries)
    stated_fewer (s.Expr token x) = behind f g (strings_in x) (expr_kinds x) (a_sign sign.Semicolon) (expr_fewer x)
    stated_fewer (s.If token c first) = conditioned (strings_stated first) (a_word word.If) c (statement_kinds first) (stated_fewer first)
    stated_fewer (s.IfElse token c first second) =
        let a = a_word word.If ++ parenthesized_kinds (expr_kinds c) ++ statement_kinds first in
        join f g (strings_in c ++ strings_stated first) (strings_stated second) (a ++ a_word word.Else) (statement_kinds second)
        (behind f g (strings_in c ++ strings_stated first) a (a_word word.Else)
        (conditioned (strings_stated first) (a_word word.If) c (statement_kinds first) (stated_fewer first))) (stated_fewer second)
    stated_fewer (s.While token c body) = conditioned (strings_stated body) (a_word word.While) c (statement_kinds body) (stated_fewer body)
    stated_fewer (s.Do token body c) =
        let a = a_word word.Do ++ statement_kinds body ++ a_word word.While in
        behind f g (strings_stated body ++ strings_in c) (a ++ parenthesized_kinds (expr_kinds c)) (a_sign sign.Semicolon)
        (join f g (strings_stated body) (strings_in c) a (parenthesized_kinds (expr_kinds c))
        (between f g (strings_stated body) (a_word word.Do) (statement_kinds body) (a_word word.While) (stated_fewer body))
        (enclosed f g (strings_in c) (expr_kinds c) (expr_fewer c)))
    stated_fewer (s.For token start c step body) =
        let a = for_start_kinds start ++ optional_kinds expr_kinds c ++ a_sign sign.Semicolon in
        let xs = strings_begun start ++ strings_if c ++ strings_if step in
        join f g xs (strings_stated body) (a_word word.For ++ parenthesized_kinds (a ++ optional_kinds expr_kinds step)) (statement_kinds body)
        (before f g xs (a_word word.For) (parenthesized_kinds (a ++ optional_kinds expr_kinds step)) (enclosed f g xs (a ++ optional_kinds expr_kinds step)
        (join f g (strings_begun start ++ strings_if c) (strings_if step) a (optional_kinds expr_kinds step)
        (behind f g (strings_begun start ++ strings_if c) (for_start_kinds start ++ optional_kinds expr_kinds c) (a_sign sign.Semicolon)
        (join f g (strings_begun start) (strings_if c) (for_start_kinds start) (optional_kinds expr_kinds c) (begun_fewer start) (if_fewer c))) (if_fewer step))))
        (stated_fewer body)
    stated_fewer (s.Return token value) = between f g (strings_if value) (a_word word.Return) (optional_kinds expr_kinds value) (a_sign sign.Semicolon) (if_fewer value)
    stated_fewer x = nothing f g (statement_kinds x)

    -- those of the entries of a block
    entered_fewer : (xs : EntryList) → Within f g (strings_entered xs) (entry_kinds xs)
    entered_fewer s.no_entries = nothing f g []
    entered_fewer (s.declared d rest) =
        join f g (strings_declared d) (strings_entered rest) (declaration_kinds d) (entry_kinds rest) (declaration_fewer d) (entered_fewer rest)
    entered_fewer (s.stated x rest) =
        join f g (strings_stated x) (strings_entered rest) (statement_kinds x) (entry_kinds rest) (stated_fewer x) (entered_fewer rest)

  -- those of a body
  body_fewer : (body : Option EntryList) → Within f g (strings_of_body body) (body_kinds body)
  body_fewer None = nothing f g (body_kinds None)
  body_fewer (Some entries) =
      between f g (strings_entered entries) (a_sign sign.LeftBrace) (entry_kinds entries) (a_sign sign.RightBrace) (entered_fewer entries)

  -- those of an item
  item_fewer : (x : ItemTree) → Within f g (strings_of_item x) (item_kinds x)
  item_fewer (item.Struct token tag members) = nothing f g (item_kinds (item.Struct token tag members))
  item_fewer (item.Function token b stars name ps body) =
      before f g (strings_of_body body) (type_kinds b stars ++ a_name name ++ parenthesized_kinds (params_kinds ps)) (body_kinds body) (body_fewer body)
  item_fewer (item.Declaration d) = declaration_fewer d

  -- the strings of a text
  pub items_fewer : (xs : List ItemTree) → Within f g (flat_map strings_of_item xs) (flat_map item_kinds xs)
  items_fewer [] = nothing f g []
  items_fewer (x ∷ xs) = join f g (strings_of_item x) (flat_map strings_of_item xs) (item_kinds x) (flat_map item_kinds xs) (item_fewer x) (items_fewer xs)
