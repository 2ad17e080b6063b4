-- The strings of a text stand at tokens that rise, within the tokens of the part that they stand in.
use Rattle.std.proofs.Common.{ℕ, ◌≤◌, arith, List, [], ◌∷◌, ◌++◌, Some, None, ◌+◌, length, length-append}
use Rattle.std.specs.Prelude.{Option, IfSome}
use Rattle.std.specs.List.{AllByRecursion, flat_map}
use Rattle.sites.proofs.RisesBodies.{brace-length}
use Rattle.c_syntax.specs.declared.token.Sign.TheVariants as sign
use Rattle.c_syntax.specs.declared.token.Word.TheVariants as word
use Rattle.c_syntax.specs.ExprTree as e
use Rattle.c_syntax.specs.Words.{ExprTree, ExprList, LinkList, PostfixList, InitialTree, StartTree, DeclarationTree, ForStartTree, StatementTree, EntryList}
use Rattle.c_syntax.specs.Words.{ItemTree, DeclarationAt, EachAt, EntriesAt, ExprAt, ExprsAt, ForStartAt, InitialAt, ItemAt, LinksAt, PostfixAt}
use Rattle.c_syntax.specs.Words.{StartAt, StatementAt, ShapedDeclaration, ShapedEntries, ShapedExpr, ShapedExprs, ShapedForStart, ShapedInitial, ShapedItem}
use Rattle.c_syntax.specs.Words.{ShapedLinks, ShapedPostfix, ShapedStart, ShapedStatement, a_name, a_sign, a_word, base_kinds, braced_kinds, declaration_kinds}
use Rattle.c_syntax.specs.Words.{declarator_kinds, entry_kinds, expr_kinds, exprs_kinds, for_start_kinds, item_kinds, link_kinds, more_exprs_kinds, optional_kinds}
use Rattle.c_syntax.specs.Words.{params_kinds, parenthesized_kinds, postfix_kinds, start_kinds, statement_kinds, type_kinds, with_commas}
use Rattle.c_syntax.specs.StatementTree as s
use Rattle.c_syntax.specs.ItemTree as i
use Rattle.c_meaning.specs.Words.{Literal, strings_begun, strings_behind, strings_declared, strings_entered, strings_if, strings_in, strings_initial}
use Rattle.c_meaning.specs.Words.{strings_of_all, strings_of_item, strings_of_links, strings_stated}
use Rattle.c_meaning_sound.proofs.Declaring.{commas_long}
use Rattle.c_meaning_sound.proofs.Parting.{infix_long, texts_long}
use Rattle.c_meaning_sound.proofs.Initialising.{braced_long, equals_kinds}
use Rattle.c_meaning_sound.proofs.Stating.{for_long}
use Rattle.sites.proofs.Rises.{paren-length}

-- the strings stand behind one another, from the first of these tokens on and before the second
abbrev pub Rise : ℕ → ℕ → List Literal → Type 0
Rise lo hi [] = lo ≤ hi
Rise lo hi (s ∷ xs) = (lo ≤ s.token) × Rise (s.token + 1) hi xs

pub record Rises (lo hi : ℕ) (xs : List Literal) : Type 0 where
  pub by : Rise lo hi xs

wide_by : (lo hi l h : ℕ) (xs : List Literal) → Rise lo hi xs → l ≤ lo → hi ≤ h → Rise l h xs
wide_by lo hi l h [] r low high = omega (arith, r, low, high)
wide_by lo hi l h (s ∷ xs) r low high = (omega (arith, r.0, low), wide_by (s.token + 1) hi (s.token + 1) h xs r.1 (omega arith) high)

-- within more tokens
broad : {lo hi : ℕ} {xs : List Literal} (l h : ℕ) → Rises lo hi xs → l ≤ lo → hi ≤ h → Rises l h xs
broad {lo = lo} {hi = hi} {xs = xs} l h r low high = record { by = wide_by lo hi l h xs r.by low high }

two_by : (lo mid next hi : ℕ) (xs ys : List Literal) → Rise lo mid xs → Rise next hi ys → mid ≤ next → Rise lo hi (xs ++ ys)
two_by lo mid next hi [] ys r q h = wide_by next hi lo hi ys q (omega (arith, r, h)) (omega arith)
two_by lo mid next hi (s ∷ xs) ys r q h = (r.0, two_by (s.token + 1) mid next hi xs ys r.1 q h)

-- some, and others behind them
two : {a b c d : ℕ} {xs ys : List Literal} (lo hi : ℕ) → Rises a b xs → Rises c d ys → lo ≤ a → b ≤ c → d ≤ hi → Rises lo hi (xs ++ ys)
two {a = a} {b = b} {c = c} {d = d} {xs = xs} {ys = ys} lo hi r q low mid high =
    broad lo hi (record { by = two_by a b c d xs ys r.by q.by mid }) low high

nothing : (lo hi : ℕ) → lo ≤ hi → Rises lo hi []
nothing lo hi h = record { by = h }

mutual
  pub expr_rises : (x : ExprTree) (at : ℕ) → ShapedExpr x → ExprAt at x → Rises at (at + length (expr_kinds x)) (strings_in x)
  expr_rises (e.Comma token operands) at q p = exprs_rise operands at q.1 p.1
  expr_rises (e.Assign token o target value) at q p =
      let long = infix_long (expr_kinds target) (expr_kinds value) o in
      two at (at + length (expr_kinds (e.Assign token o target value))) (expr_rises target at q.2 p.1) (expr_rises value (token + 1) q.4 p.2) (omega arith)
      (omega (arith, p.0)) (omega (arith, p.0, long))
  expr_rises (e.Conditional token condition first second) at q p =
      let long = infix_long (expr_kinds condition ++ a_sign sign.Question ++ expr_kinds first) (expr_kinds second) sign.Colon in
      let short = infix_long (expr_kinds condition) (expr_kinds first) sign.Question in
      two at (at + length (expr_kinds (e.Conditional token condition first second)))
      (two at (token + 1 + length (expr_kinds first)) (expr_rises condition at q.1 p.1) (expr_rises first (token + 1) q.2 p.2) (omega arith)
      (omega (arith, p.0))
      (omega arith)) (expr_rises second (token + 1 + length (expr_kinds first) + 1) q.4 p.3) (omega arith) (omega arith) (omega (arith, p.0, long, short))
  expr_rises (e.Chain level first links) at q p =
      let long = length-append (expr_kinds first) (link_kinds links) in
      two at (at + length (expr_kinds (e.Chain level first links))) (expr_rises first at q.3 p.0)
      (links_rise links level (at + length (expr_kinds first)) q.5 p.1) (omega arith) (omega arith) (omega (arith, long))
  expr_rises (e.Cast token b stars operand) at q p =
      let long = length-append (parenthesized_kinds (type_kinds b stars)) (expr_kinds operand) in
      broad at (at + length (expr_kinds (e.Cast token b stars operand))) (expr_rises operand (at + 1 + length (type_kinds b stars) + 1) q.1 p.2) (omega arith)
      (omega (arith, long, paren-length (type_kinds b stars)))
  expr_rises (e.Prefix token o operand) at q p =
      broad at (at + length (expr_kinds (e.Prefix token o operand))) (expr_rises operand (at + 1) q.1 p.1) (omega arith) (omega arith)
  expr_rises (e.Postfix primary operators) at q p =
      let long = length-append (expr_kinds primary) (postfix_kinds operators) in
      two at (at + length (expr_kinds (e.Postfix primary operators))) (expr_rises primary at q.1 p.0)
      (postfix_rise operators (at + length (expr_kinds primary)) q.3 p.1) (omega arith) (omega arith) (omega (arith, long))
  expr_rises (e.Call token name arguments) at q p =
      broad at (at + length (expr_kinds (e.Call token name arguments))) (exprs_rise arguments (at + 2) q p.1) (omega arith)
      (omega (arith, paren-length (exprs_kinds arguments)))
  expr_rises (e.Strings token parts) at q p = record { by = (omega (arith, p), omega (arith, p, texts_long parts q)) }
  expr_rises (e.Paren token inner) at q p =
      broad at (at + length (expr_kinds (e.Paren token inner))) (expr_rises inner (at + 1) q p.1) (omega arith) (omega (arith, paren-length (expr_kinds inner)))
  expr_rises x at q p = nothing at (at + length (expr_kinds x)) (omega arith)

  pub exprs_rise : (xs : ExprList) (at : ℕ) → ShapedExprs xs → ExprsAt at xs → Rises at (at + length (exprs_kinds xs)) (strings_of_all xs)
  exprs_rise e.no_exprs at q p = nothing at (at + length (exprs_kinds e.no_exprs)) (omega arith)
  exprs_rise (e.more_exprs x e.no_exprs) at q p =
      let long = length-append (expr_kinds x) [] in
      two at (at + length (exprs_kinds (e.more_exprs x e.no_exprs))) (expr_rises x at q.1 p.0)
      (nothing (at + length (expr_kinds x)) (at + length (expr_kinds x)) (omega arith)) (omega arith) (omega arith) (omega (arith, long))
  exprs_rise (e.more_exprs x (e.more_exprs y ys)) at q p =
      let long = length-append (expr_kinds x) (more_exprs_kinds (e.more_exprs y ys)) in
      two at (at + length (exprs_kinds (e.more_exprs x (e.more_exprs y ys)))) (expr_rises x at q.1 p.0)
      (exprs_rise (e.more_exprs y ys) (at + length (expr_kinds x) + 1) q.2 p.1) (omega arith) (omega arith) (omega (arith, long))

  links_rise : (xs : LinkList) (level at : ℕ) → ShapedLinks level xs → LinksAt at xs → Rises at (at + length (link_kinds xs)) (strings_of_links xs)
  links_rise e.no_links level at q p = nothing at (at + length (link_kinds e.no_links)) (omega arith)
  links_rise (e.more_links token o operand rest) level at q p =
      let long = length-append (expr_kinds operand) (link_kinds rest) in
      two at (at + length (link_kinds (e.more_links token o operand rest))) (expr_rises operand (at + 1) q.2 p.1)
      (links_rise rest level (at + 1 + length (expr_kinds operand)) q.3 p.2) (omega arith) (omega arith) (omega (arith, long))

  postfix_rise : (xs : PostfixList) (at : ℕ) → ShapedPostfix xs → PostfixAt at xs → Rises at (at + length (postfix_kinds xs)) (strings_behind xs)
  postfix_rise e.no_postfix at q p = nothing at (at + length (postfix_kinds e.no_postfix)) (omega arith)
  postfix_rise (e.index token x rest) at q p =
      let long = length-append (expr_kinds x ++ a_sign sign.RightBracket) (postfix_kinds rest) in
      let short = length-append (expr_kinds x) (a_sign sign.RightBracket) in
      two at (at + length (postfix_kinds (e.index token x rest))) (expr_rises x (at + 1) q.0 p.1)
      (postfix_rise rest (at + 1 + length (expr_kinds x) + 1) q.1 p.2) (omega arith) (omega arith) (omega (arith, long, short))
  postfix_rise (e.member token name rest) at q p =
      broad at (at + length (postfix_kinds (e.member token name rest))) (postfix_rise rest (at + 2) q p.1) (omega arith) (omega arith)
  postfix_rise (e.arrow token name rest) at q p =
      broad at (at + length (postfix_kinds (e.arrow token name rest))) (postfix_rise rest (at + 2) q p.1) (omega arith) (omega arith)
  postfix_rise (e.increment token rest) at q p =
      broad at (at + length (postfix_kinds (e.increment token rest))) (postfix_rise rest (at + 1) q p.1) (omega arith) (omega arith)
  postfix_rise (e.decrement token rest) at q p =
      broad at (at + length (postfix_kinds (e.decrement token rest))) (postfix_rise rest (at + 1) q p.1) (omega arith) (omega arith)

-- declarations
option_rises : (x : Option ExprTree) (at : ℕ) → IfSome x ShapedExpr → IfSome x (ExprAt at) → Rises at (at + length (optional_kinds expr_kinds x)) (strings_if x)
option_rises None at q p = nothing at (at + length (optional_kinds expr_kinds None)) (omega arith)
option_rises (Some x) at q p = expr_rises x at q p

initial_rises : (x : Option InitialTree) (at : ℕ) → IfSome x ShapedInitial → IfSome x (InitialAt (at + 1))
    → Rises at (at + length (equals_kinds x)) (strings_initial x)
initial_rises None at q p = nothing at (at + length (equals_kinds None)) (omega arith)
initial_rises (Some (s.Value value)) at q p =
    broad at (at + length (equals_kinds (Some (s.Value value)))) (expr_rises value (at + 1) q.1 p) (omega arith) (omega arith)
initial_rises (Some (s.Braced token items comma)) at q p =
    broad at (at + length (equals_kinds (Some (s.Braced token items comma)))) (exprs_rise items (at + 1 + 1) q.1 p.1) (omega arith)
    (omega (arith, braced_long items comma))

start_rises : (x : StartTree) (at : ℕ) → ShapedStart x → StartAt at x → Rises at (at + length (start_kinds x)) (strings_initial x.initial)
start_rises x at q p =
    let long = length-append (declarator_kinds x.declarator) (equals_kinds x.initial) in
    broad at (at + length (start_kinds x)) (initial_rises x.initial (at + length (declarator_kinds x.declarator)) q p.2) (omega arith) (omega (arith, long))

starts_rise : (xs : List StartTree) (at : ℕ) → AllByRecursion ShapedStart xs → EachAt StartAt start_kinds 1 at xs
    → Rises at (at + length (with_commas start_kinds xs)) (flat_map (λ x. strings_initial x.initial) xs)
starts_rise [] at q p = nothing at (at + length (with_commas start_kinds [])) (omega arith)
starts_rise (x ∷ []) at q p =
    let long = length-append (start_kinds x) [] in
    two at (at + length (with_commas start_kinds (x ∷ []))) (start_rises x at q.0 p.0)
    (nothing (at + length (start_kinds x)) (at + length (start_kinds x)) (omega arith)) (omega arith) (omega arith) (omega (arith, long))
starts_rise (x ∷ y ∷ ys) at q p =
    two at (at + length (with_commas start_kinds (x ∷ y ∷ ys))) (start_rises x at q.0 p.0) (starts_rise (y ∷ ys) (at + length (start_kinds x) + 1) q.1 p.1)
    (omega arith) (omega arith) (omega (arith, commas_long x y ys))

declaration_rises : (x : DeclarationTree) (at : ℕ) → ShapedDeclaration x → DeclarationAt at x → Rises at (at + length (declaration_kinds x))
    (strings_declared x)
declaration_rises x at q p =
    let long = length-append (base_kinds x.base ++ with_commas start_kinds x.starts) (a_sign sign.Semicolon) in
    let short = length-append (base_kinds x.base) (with_commas start_kinds x.starts) in
    broad at (at + length (declaration_kinds x)) (starts_rise x.starts (at + length (base_kinds x.base)) q.1 p.2) (omega arith) (omega (arith, long, short))

-- statements
for_start_rises : (x : ForStartTree) (at : ℕ) → ShapedForStart x → ForStartAt at x → Rises at (at + length (for_start_kinds x)) (strings_begun x)
for_start_rises (s.Declares declaration) at q p = declaration_rises declaration at q p
for_start_rises (s.Computes x) at q p =
    let long = length-append (optional_kinds expr_kinds x) (a_sign sign.Semicolon) in
    broad at (at + length (for_start_kinds (s.Computes x))) (option_rises x at q p) (omega arith) (omega (arith, long))

mutual
  statement_rises : (x : StatementTree) (at : ℕ) → ShapedStatement x → StatementAt at x → Rises at (at + length (statement_kinds x)) (strings_stated x)
  statement_rises (s.Block token entries) at q p =
      broad at (at + length (statement_kinds (s.Block token entries))) (entries_rise entries (at + 1) q p.1) (omega arith)
      (omega (arith, brace-length (entry_kinds entries)))
  statement_rises (s.Expr token x) at q p =
      broad at (at + length (statement_kinds (s.Expr token x))) (expr_rises x at q p.1) (omega arith)
      (omega (arith, length-append (expr_kinds x) (a_sign sign.Semicolon)))
  statement_rises (s.If token condition first) at q p =
      let long = length-append (parenthesized_kinds (expr_kinds condition)) (statement_kinds first) in
      two at (at + length (statement_kinds (s.If token condition first))) (expr_rises condition (at + 2) q.0 p.1)
      (statement_rises first (at + 2 + length (expr_kinds condition) + 1) q.1 p.2) (omega arith) (omega arith)
      (omega (arith, long, paren-length (expr_kinds condition)))
  statement_rises (s.IfElse token condition first second) at q p =
      let a = length-append (parenthesized_kinds (expr_kinds condition) ++ statement_kinds first ++ a_word word.Else) (statement_kinds second) in
      let b = length-append (parenthesized_kinds (expr_kinds condition) ++ statement_kinds first) (a_word word.Else) in
      let c = length-append (parenthesized_kinds (expr_kinds condition)) (statement_kinds first) in
      two at (at + length (statement_kinds (s.IfElse token condition first second)))
      (two (at + 2) (at + 2 + length (expr_kinds condition) + 1 + length (statement_kinds first)) (expr_rises condition (at + 2) q.0 p.1)
      (statement_rises first (at + 2 + length (expr_kinds condition) + 1) q.1 p.2) (omega arith) (omega arith) (omega arith))
      (statement_rises second (at + 2 + length (expr_kinds condition) + 1 + length (statement_kinds first) + 1) q.3 p.3) (omega arith) (omega arith)
      (omega (arith, a, b, c, paren-length (expr_kinds condition)))
  statement_rises (s.While token condition body) at q p =
      let long = length-append (parenthesized_kinds (expr_kinds condition)) (statement_kinds body) in
      two at (at + length (statement_kinds (s.While token condition body))) (expr_rises condition (at + 2) q.0 p.1)
      (statement_rises body (at + 2 + length (expr_kinds condition) + 1) q.1 p.2) (omega arith) (omega arith)
      (omega (arith, long, paren-length (expr_kinds condition)))
  statement_rises (s.Do token body condition) at q p =
      let a = length-append (statement_kinds body ++ a_word word.While ++ parenthesized_kinds (expr_kinds condition)) (a_sign sign.Semicolon) in
      let b = length-append (statement_kinds body ++ a_word word.While) (parenthesized_kinds (expr_kinds condition)) in
      let c = length-append (statement_kinds body) (a_word word.While) in
      two at (at + length (statement_kinds (s.Do token body condition))) (statement_rises body (at + 1) q.0 p.1)
      (expr_rises condition (at + 1 + length (statement_kinds body) + 2) q.1 p.2) (omega arith) (omega arith)
      (omega (arith, a, b, c, paren-length (expr_kinds condition)))
  statement_rises (s.For token start condition step body) at q p =
      let a = at + 2 + length (for_start_kinds start) in
      let b = at + 2 + length (for_start_kinds start) + length (optional_kinds expr_kinds condition) in
      let c = at + 2 + length (for_start_kinds start) + length (optional_kinds expr_kinds condition) + 1 + length (optional_kinds expr_kinds step) in
      two at (at + length (statement_kinds (s.For token start condition step body)))
      (two (at + 2) c (two (at + 2) b (for_start_rises start (at + 2) q.0 p.1) (option_rises condition a q.1 p.2) (omega arith) (omega arith) (omega arith))
      (option_rises step (b + 1) q.2 p.3) (omega arith) (omega arith) (omega arith)) (statement_rises body (c + 1) q.3 p.4) (omega arith) (omega arith)
      (omega (arith, for_long (for_start_kinds start) (optional_kinds expr_kinds condition) (optional_kinds expr_kinds step) (statement_kinds body)))
  statement_rises (s.Return token value) at q p =
      let long = length-append (optional_kinds expr_kinds value) (a_sign sign.Semicolon) in
      broad at (at + length (statement_kinds (s.Return token value))) (option_rises value (at + 1) q p.1) (omega arith) (omega (arith, long))
  statement_rises x at q p = nothing at (at + length (statement_kinds x)) (omega arith)

  entries_rise : (xs : EntryList) (at : ℕ) → ShapedEntries xs → EntriesAt at xs → Rises at (at + length (entry_kinds xs)) (strings_entered xs)
  entries_rise s.no_entries at q p = nothing at (at + length (entry_kinds s.no_entries)) (omega arith)
  entries_rise (s.declared declaration rest) at q p =
      let long = length-append (declaration_kinds declaration) (entry_kinds rest) in
      two at (at + length (entry_kinds (s.declared declaration rest))) (declaration_rises declaration at q.0 p.0)
      (entries_rise rest (at + length (declaration_kinds declaration)) q.1 p.1) (omega arith) (omega arith) (omega (arith, long))
  entries_rise (s.stated x rest) at q p =
      let long = length-append (statement_kinds x) (entry_kinds rest) in
      two at (at + length (entry_kinds (s.stated x rest))) (statement_rises x at q.0 p.0) (entries_rise rest (at + length (statement_kinds x)) q.1 p.1)
      (omega arith) (omega arith) (omega (arith, long))

-- items
item_rises : (x : ItemTree) (at : ℕ) → ShapedItem x → ItemAt at x → Rises at (at + length (item_kinds x)) (strings_of_item x)
item_rises (i.Struct token tag members) at q p = nothing at (at + length (item_kinds (i.Struct token tag members))) (omega arith)
item_rises (i.Function token b stars name ps None) at q p = nothing at (at + length (item_kinds (i.Function token b stars name ps None))) (omega arith)
item_rises (i.Function token b stars name ps (Some body)) at q p =
    let u = length-append (type_kinds b stars ++ a_name name ++ parenthesized_kinds (params_kinds ps)) (braced_kinds (entry_kinds body)) in
    let v = length-append (type_kinds b stars ++ a_name name) (parenthesized_kinds (params_kinds ps)) in
    let w = length-append (type_kinds b stars) (a_name name) in
    broad at (at + length (item_kinds (i.Function token b stars name ps (Some body))))
    (entries_rise body (at + length (type_kinds b stars) + 2 + length (params_kinds ps) + 2) q.1 p.3) (omega arith)
    (omega (arith, u, v, w, brace-length (entry_kinds body), paren-length (params_kinds ps)))
item_rises (i.Declaration declaration) at q p = declaration_rises declaration at q p

pub items_rise : (xs : List ItemTree) (at : ℕ) → AllByRecursion ShapedItem xs → EachAt ItemAt item_kinds 0 at xs
    → Rises at (at + length (flat_map item_kinds xs)) (flat_map strings_of_item xs)
items_rise [] at q p = nothing at (at + length (flat_map item_kinds [])) (omega arith)
items_rise (x ∷ xs) at q p =
    let long = length-append (item_kinds x) (flat_map item_kinds xs) in
    two at (at + length (flat_map item_kinds (x ∷ xs))) (item_rises x at q.0 p.0) (items_rise xs (at + length (item_kinds x) + 0) q.1 p.1) (omega arith)
    (omega arith) (omega (arith, long))
