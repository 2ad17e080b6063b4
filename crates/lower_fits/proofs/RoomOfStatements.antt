-- Each declaration, statement and item has room for no more nodes than its tokens allow.
use Rattle.std.proofs.Common.{ℕ, ◌<◌, arith, List, [], ◌∷◌, ◌++◌, Some, None, ◌+◌, length, length-append}
use Rattle.std.specs.Prelude.{Option, IfSome}
use Rattle.std.specs.List.{AllByRecursion, flat_map, sum_by}
use Rattle.std.proofs.lemmas.List.Sums.{sum_by-append, sum_by-cons}
use Rattle.sites.proofs.RisesBodies.{brace-length, declarator-length}
use Rattle.c_syntax.specs.declared.token.Sign.TheVariants as sign
use Rattle.c_syntax.specs.declared.token.Word.TheVariants as word
use Rattle.c_syntax.specs.Words.{ExprTree, InitialTree, StartTree, DeclarationTree, ForStartTree, StatementTree, EntryList, ItemTree, DeclarationAt, EachAt}
use Rattle.c_syntax.specs.Words.{EntriesAt, ExprAt, ForStartAt, InitialAt, ItemAt, StartAt, StatementAt, ShapedDeclaration, ShapedEntries, ShapedExpr}
use Rattle.c_syntax.specs.Words.{ShapedForStart, ShapedInitial, ShapedItem, ShapedStart, ShapedStatement, a_name, a_sign, a_word, base_kinds, braced_kinds}
use Rattle.c_syntax.specs.Words.{declaration_kinds, declarator_kinds, entry_kinds, expr_kinds, for_start_kinds, item_kinds, optional_kinds, params_kinds}
use Rattle.c_syntax.specs.Words.{parenthesized_kinds, start_kinds, statement_kinds, type_kinds, with_commas}
use Rattle.c_syntax.specs.StatementTree as s
use Rattle.c_syntax.specs.ItemTree as i
use Rattle.c_meaning.specs.Words.{Sites, body_of_item}
use Rattle.lower_relation.specs.Room.{declaration_room, entries_room, for_start_room, function_room, initial_room, part_room, start_room, statement_room}
use Rattle.sites.proofs.Rises.{paren-length}
use Rattle.c_meaning_sound.proofs.Declaring.{commas_long}
use Rattle.c_meaning_sound.proofs.Initialising.{braced_long, equals_kinds}
use Rattle.c_meaning_sound.proofs.Stating.{for_long}
use Rattle.lower_fits.proofs.Allowing.{Allows, nothing, one, two, wide}
use Rattle.lower_fits.proofs.RoomOfExpressions.{expr_allowed, exprs_allowed, list_leaves}

-- room for functions with these bodies
abbrev pub bodies_room : Sites → List EntryList → ℕ
bodies_room sites bodies = sum_by (λ body. function_room sites (Some body)) bodies

module _ (sites : Sites) where
  -- an expression that may be missing
  option_allowed : (x : Option ExprTree) (at : ℕ) → IfSome x ShapedExpr → IfSome x (ExprAt at)
      → Allows sites at (at + length (optional_kinds expr_kinds x)) (part_room sites x)
  option_allowed None at q p = nothing (omega arith)
  option_allowed (Some x) at q p = wide (expr_allowed sites x at q p) (omega arith) (omega arith) (omega arith)

  -- The tokens of a variable from its name on. Its sites stand at the token behind the name, which is the `=` or a bound before that.
  initial_allowed : (x : Option InitialTree) (name at : ℕ) → name < at → IfSome x ShapedInitial → IfSome x (InitialAt (at + 1))
      → Allows sites name (at + length (equals_kinds x)) (2 + initial_room sites name x)
  initial_allowed None name at h q p = wide (one name) (omega arith) (omega arith) (omega arith)
  initial_allowed (Some (s.Value value)) name at h q p =
      wide (two (two (one name) (one (name + 1)) (omega arith)) (expr_allowed sites value (at + 1) q.1 p) (omega arith)) (omega arith) (omega arith)
      (omega arith)
  initial_allowed (Some (s.Braced token items comma)) name at h q p =
      wide (two (one name) (exprs_allowed sites items (at + 1 + 1) q.1 p.1) (omega arith)) (omega arith) (omega (arith, braced_long items comma))
      (omega (arith, list_leaves sites 8 items (omega arith)))

  -- a declared variable
  start_allowed : (x : StartTree) (at : ℕ) → ShapedStart x → StartAt at x → Allows sites at (at + length (start_kinds x)) (start_room sites x)
  start_allowed x at q p =
      let long = length-append (declarator_kinds x.declarator) (equals_kinds x.initial) in
      wide (initial_allowed x.initial x.declarator.name_token (at + length (declarator_kinds x.declarator))
      (omega (arith, declarator-length x.declarator)) q p.2) (omega arith) (omega arith) (omega arith)

  -- variables with commas between them
  starts_allowed : (xs : List StartTree) (at : ℕ) → AllByRecursion ShapedStart xs → EachAt StartAt start_kinds 1 at xs
      → Allows sites at (at + length (with_commas start_kinds xs)) (sum_by (start_room sites) xs)
  starts_allowed [] at q p = nothing (omega arith)
  starts_allowed (x ∷ []) at q p =
      let long = length-append (start_kinds x) [] in
      wide (start_allowed x at q.0 p.0) (omega arith) (omega arith) (omega arith)
  starts_allowed (x ∷ y ∷ ys) at q p =
      wide (two (start_allowed x at q.0 p.0) (starts_allowed (y ∷ ys) (at + length (start_kinds x) + 1) q.1 p.1) (omega arith)) (omega arith)
      (omega (arith, commas_long x y ys)) (omega (arith, sum_by-cons (start_room sites) x (y ∷ ys)))

  -- a declaration
  declaration_allowed : (x : DeclarationTree) (at : ℕ) → ShapedDeclaration x → DeclarationAt at x
      → Allows sites at (at + length (declaration_kinds x)) (declaration_room sites x)
  declaration_allowed x at q p =
      let long = length-append (base_kinds x.base ++ with_commas start_kinds x.starts) (a_sign sign.Semicolon) in
      let short = length-append (base_kinds x.base) (with_commas start_kinds x.starts) in
      wide (starts_allowed x.starts (at + length (base_kinds x.base)) q.1 p.2) (omega arith) (omega arith) (omega arith)

  -- what a `for` begins with
  for_start_allowed : (x : ForStartTree) (at : ℕ) → ShapedForStart x → ForStartAt at x
      → Allows sites at (at + length (for_start_kinds x)) (for_start_room sites x)
  for_start_allowed (s.Declares declaration) at q p = declaration_allowed declaration at q p
  for_start_allowed (s.Computes x) at q p =
      let long = length-append (optional_kinds expr_kinds x) (a_sign sign.Semicolon) in
      wide (option_allowed x at q p) (omega arith) (omega arith) (omega arith)

  mutual
    -- a statement
    statement_allowed : (x : StatementTree) (at : ℕ) → ShapedStatement x → StatementAt at x
        → Allows sites at (at + length (statement_kinds x)) (statement_room sites x)
    statement_allowed (s.Block token entries) at q p =
        wide (entries_allowed entries (at + 1) q p.1) (omega arith) (omega (arith, brace-length (entry_kinds entries))) (omega arith)
    statement_allowed (s.Expr token x) at q p =
        let long = length-append (expr_kinds x) (a_sign sign.Semicolon) in
        wide (expr_allowed sites x at q p.1) (omega arith) (omega arith) (omega arith)
    statement_allowed (s.If token condition first) at q p =
        let long = length-append (parenthesized_kinds (expr_kinds condition)) (statement_kinds first) in
        wide (two (two (one token) (expr_allowed sites condition (at + 2) q.0 p.1) (omega arith))
        (statement_allowed first (at + 2 + length (expr_kinds condition) + 1) q.1 p.2) (omega arith)) (omega arith)
        (omega (arith, paren-length (expr_kinds condition))) (omega arith)
    statement_allowed (s.IfElse token condition first second) at q p =
        let with_second = length-append (parenthesized_kinds (expr_kinds condition) ++ statement_kinds first ++ a_word word.Else) (statement_kinds second) in
        let with_else = length-append (parenthesized_kinds (expr_kinds condition) ++ statement_kinds first) (a_word word.Else) in
        let with_first = length-append (parenthesized_kinds (expr_kinds condition)) (statement_kinds first) in
        wide (two (two (two (one token) (expr_allowed sites condition (at + 2) q.0 p.1) (omega arith))
        (statement_allowed first (at + 2 + length (expr_kinds condition) + 1) q.1 p.2) (omega arith))
        (statement_allowed second (at + 2 + length (expr_kinds condition) + 1 + length (statement_kinds first) + 1) q.3 p.3) (omega arith)) (omega arith)
        (omega (arith, paren-length (expr_kinds condition))) (omega arith)
    statement_allowed (s.While token condition body) at q p =
        let long = length-append (parenthesized_kinds (expr_kinds condition)) (statement_kinds body) in
        wide (two (two (one token) (expr_allowed sites condition (at + 2) q.0 p.1) (omega arith))
        (statement_allowed body (at + 2 + length (expr_kinds condition) + 1) q.1 p.2) (omega arith)) (omega arith)
        (omega (arith, paren-length (expr_kinds condition))) (omega arith)
    statement_allowed (s.Do token body condition) at q p =
        let with_end = length-append (statement_kinds body ++ a_word word.While ++ parenthesized_kinds (expr_kinds condition)) (a_sign sign.Semicolon) in
        let with_condition = length-append (statement_kinds body ++ a_word word.While) (parenthesized_kinds (expr_kinds condition)) in
        let with_while = length-append (statement_kinds body) (a_word word.While) in
        wide (two (two (one token) (statement_allowed body (at + 1) q.0 p.1) (omega arith))
        (expr_allowed sites condition (at + 1 + length (statement_kinds body) + 2) q.1 p.2) (omega arith)) (omega arith)
        (omega (arith, paren-length (expr_kinds condition))) (omega arith)
    statement_allowed (s.For token start condition step body) at q p =
        let condition_at = at + 2 + length (for_start_kinds start) in
        let step_at = condition_at + length (optional_kinds expr_kinds condition) + 1 in
        let body_at = step_at + length (optional_kinds expr_kinds step) + 1 in
        wide (two (two (two (two (one token) (for_start_allowed start (at + 2) q.0 p.1) (omega arith))
        (option_allowed condition condition_at q.1 p.2) (omega arith)) (option_allowed step step_at q.2 p.3) (omega arith))
        (statement_allowed body body_at q.3 p.4) (omega arith)) (omega arith)
        (omega (arith, for_long (for_start_kinds start) (optional_kinds expr_kinds condition) (optional_kinds expr_kinds step) (statement_kinds body))) (omega arith)
    statement_allowed (s.Return token value) at q p =
        let long = length-append (optional_kinds expr_kinds value) (a_sign sign.Semicolon) in
        wide (two (one token) (option_allowed value (at + 1) q p.1) (omega arith)) (omega arith) (omega arith) (omega arith)
    statement_allowed x at q p = nothing (omega arith)

    -- the declarations and statements of a block
    entries_allowed : (xs : EntryList) (at : ℕ) → ShapedEntries xs → EntriesAt at xs → Allows sites at (at + length (entry_kinds xs)) (entries_room sites xs)
    entries_allowed s.no_entries at q p = nothing (omega arith)
    entries_allowed (s.declared declaration rest) at q p =
        let long = length-append (declaration_kinds declaration) (entry_kinds rest) in
        wide (two (declaration_allowed declaration at q.0 p.0) (entries_allowed rest (at + length (declaration_kinds declaration)) q.1 p.1) (omega arith))
        (omega arith) (omega arith) (omega arith)
    entries_allowed (s.stated x rest) at q p =
        let long = length-append (statement_kinds x) (entry_kinds rest) in
        wide (two (statement_allowed x at q.0 p.0) (entries_allowed rest (at + length (statement_kinds x)) q.1 p.1) (omega arith)) (omega arith)
        (omega arith) (omega arith)

  -- an item, of which only a defined function needs room
  item_allowed : (x : ItemTree) (at : ℕ) → ShapedItem x → ItemAt at x → Allows sites at (at + length (item_kinds x)) (bodies_room sites (body_of_item x))
  item_allowed (i.Function token b stars name ps (Some body)) at q p =
      let with_body = length-append (type_kinds b stars ++ a_name name ++ parenthesized_kinds (params_kinds ps)) (braced_kinds (entry_kinds body)) in
      let with_params = length-append (type_kinds b stars ++ a_name name) (parenthesized_kinds (params_kinds ps)) in
      let with_name = length-append (type_kinds b stars) (a_name name) in
      wide (two (one (at + length (type_kinds b stars)))
      (entries_allowed body (at + length (type_kinds b stars) + 2 + length (params_kinds ps) + 2) q.1 p.3) (omega arith)) (omega arith)
      (omega (arith, brace-length (entry_kinds body), paren-length (params_kinds ps))) (omega arith)
  item_allowed x at q p = nothing (omega arith)

  -- all items of a text
  pub items_allowed : (xs : List ItemTree) (at : ℕ) → AllByRecursion ShapedItem xs → EachAt ItemAt item_kinds 0 at xs
      → Allows sites at (at + length (flat_map item_kinds xs)) (bodies_room sites (flat_map body_of_item xs))
  items_allowed [] at q p = nothing (omega arith)
  items_allowed (x ∷ xs) at q p =
      let long = length-append (item_kinds x) (flat_map item_kinds xs) in
      let parts = sum_by-append (λ body. function_room sites (Some body)) (body_of_item x) (flat_map body_of_item xs) in
      wide (two (item_allowed x at q.0 p.0) (items_allowed xs (at + length (item_kinds x) + 0) q.1 p.1) (omega arith)) (omega arith) (omega arith)
      (omega arith)
