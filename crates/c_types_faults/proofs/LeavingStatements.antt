-- What declarations and statements leave: the scopes that their tree says.
use Rattle.std.proofs.Common.{◌≡◌, ℕ, ◌+◌, ◌≤◌, ◌<◌, true, List, [], ◌∷◌, ◌++◌, length, Option, Some, None, refl, subst, arith, length-append}
use Rattle.std.specs.Prelude.{IfSome}
use Rattle.std.specs.List.{AllByRecursion}
use Rattle.std.proofs.lemmas.List.{append-nil}
use Rattle.c_syntax.specs.declared.token.Sign.TheVariants as sign
use Rattle.c_syntax.specs.declared.token.TokenKind.TheVariants as kind
use Rattle.c_syntax.specs.declared.token.Word.TheVariants as word
use Rattle.c_syntax.specs.Words.{ExprTree, DeclarationAt, EachAt, EntriesAt, ExprAt, ForStartAt, InitialAt, StartAt, StatementAt, ShapedDeclaration}
use Rattle.c_syntax.specs.Words.{ShapedEntries, ShapedExpr, ShapedForStart, ShapedInitial, ShapedStart, ShapedStatement, a_sign, a_word}
use Rattle.c_syntax.specs.Words.{base_kinds, comma_kinds, declaration_kinds, declarator_kinds, entry_kinds, expr_kinds, exprs_kinds}
use Rattle.c_syntax.specs.Words.{for_start_kinds, initial_kinds, optional_kinds, start_kinds, statement_kinds, with_commas, InitialTree}
use Rattle.c_syntax.specs.Words.{StartTree, DeclarationTree, ForStartTree, StatementTree, EntryList}
use Rattle.c_syntax.specs.StatementTree as s
use Rattle.c_types_laws.proofs.Statements.{commas_long, commas_one, declarator_long}
use Rattle.c_types_faults.specs.Events.{declaration_events, entries_events, expr_events, exprs_events, for_start_events, initial_events}
use Rattle.c_types_faults.specs.Events.{optional_events, start_events, starts_events, statement_events}
use Rattle.c_types_faults.specs.Scopes.{declaration_scopes, entries_scopes, for_start_scopes, last_token, starts_scopes, statement_scopes}
use Rattle.c_types_faults.proofs.Leaving.{Leaves, leaves_initialises, leaves_none, leaves_scoped, leaves_then, leaves_values, leaves_variable, leaves_wider}
use Rattle.c_types_faults.proofs.Points.{spread_wider}
use Rattle.c_types_faults.proofs.SpreadExprs.{expr_has, expr_spread, exprs_spread}
use Rattle.c_types_laws.proofs.Statements.{do_long, else_long, for_long, if_long}

-- expressions

expr_leaves : (x : ExprTree) (at hi last : ℕ) → ShapedExpr x → ExprAt at x → at + length (expr_kinds x) ≤ hi → Leaves true at hi last (expr_events x) []
expr_leaves x at hi last h p high =
    leaves_values at hi last (expr_events x) (omega (arith, high))
    (spread_wider at (at + length (expr_kinds x)) at hi (expr_events x) (expr_spread x at h p) (omega arith) high)

optional_leaves : (o : Option ExprTree) (at hi last : ℕ) → IfSome o ShapedExpr → IfSome o (ExprAt at) → at + length (optional_kinds expr_kinds o) ≤ hi
    → Leaves true at hi last (optional_events o) []
optional_leaves None at hi last h p high = leaves_none at hi last (omega (arith, high))
optional_leaves (Some x) at hi last h p high = expr_leaves x at hi last h p high

-- declarations

initial_leaves : (o : Option InitialTree) (equal at hi last : ℕ) → IfSome o ShapedInitial → IfSome o (InitialAt (at + 1)) → equal ≡ at
    → at + length (optional_kinds (λ y. a_sign sign.Equal ++ initial_kinds y) o) ≤ hi → Leaves true equal hi last (initial_events equal o) []
initial_leaves None equal at hi last h p same high = leaves_none equal hi last (omega (arith, high, same))
initial_leaves (Some (s.Value value)) equal at hi last h p same high =
    leaves_initialises equal hi last (expr_events value)
    (spread_wider (at + 1) (at + 1 + length (expr_kinds value)) (equal + 1) hi (expr_events value) (expr_spread value (at + 1) h.1 p) (omega (arith, same))
    (omega (arith, high)))
    (expr_has value)
initial_leaves (Some (s.Braced token items comma)) equal at hi last h p same high =
    let long : length (initial_kinds (s.Braced token items comma)) ≡ 2 + length (exprs_kinds items) + length (comma_kinds comma) =
    omega (arith, length-append (exprs_kinds items ++ comma_kinds comma) (a_sign sign.RightBrace), length-append (exprs_kinds items) (comma_kinds comma)) in
    leaves_values equal hi last (exprs_events items) (omega (arith, same, high, long))
    (spread_wider (at + 1 + 1) (at + 1 + 1 + length (exprs_kinds items)) equal hi (exprs_events items) (exprs_spread items (at + 1 + 1) h.1 p.1)
    (omega (arith, same)) (omega (arith, high, long)))

start_leaves : (x : StartTree) (at hi last : ℕ) → ShapedStart x → StartAt at x → at + length (start_kinds x) ≤ hi
    → Leaves true at hi last (start_events x) (starts_scopes last (x ∷ []))
start_leaves x at hi last h p high =
    let first : ℕ = x.declarator.token + length (declarator_kinds x.declarator) in
    let long : length (start_kinds x) ≡ length (declarator_kinds x.declarator) + length (optional_kinds (λ y. a_sign sign.Equal ++ initial_kinds y) x.initial) =
    length-append (declarator_kinds x.declarator) (optional_kinds (λ y. a_sign sign.Equal ++ initial_kinds y) x.initial) in
    leaves_then at first hi
    (leaves_variable at first last x.declarator.name_token (omega (arith, p.1.1)) (omega (arith, p.1.0, p.1.1, declarator_long x.declarator)))
    (initial_leaves x.initial first (at + length (declarator_kinds x.declarator)) hi last h p.2 (omega (arith, p.1.0)) (omega (arith, long, high)))
    (omega (arith, p.1.0)) (omega (arith, p.1.0, long, high))

starts_leave : (xs : List StartTree) (at hi last : ℕ) → AllByRecursion ShapedStart xs → EachAt StartAt start_kinds 1 at xs
    → at + length (with_commas start_kinds xs) ≤ hi → Leaves true at hi last (starts_events xs) (starts_scopes last xs)
starts_leave [] at hi last h p high = leaves_none at hi last (omega (arith, high))
starts_leave (x ∷ []) at hi last h p high =
    let n : ℕ = length (start_kinds x) in
    leaves_then at (at + n) hi (start_leaves x at (at + n) last h.0 p.0 (omega arith))
    (leaves_none (at + n) hi last (omega (arith, high, commas_one start_kinds x))) (omega arith) (omega (arith, high, commas_one start_kinds x))
starts_leave (x ∷ y ∷ ys) at hi last h p high =
    let n : ℕ = length (start_kinds x) in
    let long : length (with_commas start_kinds (x ∷ y ∷ ys)) ≡ n + 1 + length (with_commas start_kinds (y ∷ ys)) = commas_long start_kinds x y ys in
    leaves_then at (at + n) hi (start_leaves x at (at + n) last h.0 p.0 (omega arith))
    (leaves_wider (at + n + 1) hi (at + n) hi (starts_leave (y ∷ ys) (at + n + 1) hi last h.1 p.1 (omega (arith, high, long))) (omega arith) (omega arith))
    (omega arith) (omega (arith, high, long))

pub declaration_leaves : (d : DeclarationTree) (at hi last : ℕ) → ShapedDeclaration d → DeclarationAt at d → at + length (declaration_kinds d) ≤ hi
    → Leaves true at hi last (declaration_events d) (declaration_scopes last d)
declaration_leaves d at hi last h p high =
    let n : ℕ = length (base_kinds d.base) in
    let long : length (declaration_kinds d) ≡ n + length (with_commas start_kinds d.starts) + 1 =
    omega (
      arith,
      length-append (base_kinds d.base ++ with_commas start_kinds d.starts) (a_sign sign.Semicolon),
      length-append (base_kinds d.base) (with_commas start_kinds d.starts),
    ) in
    leaves_wider (at + n) hi at hi (starts_leave d.starts (at + n) hi last h.1 p.2 (omega (arith, high, long))) (omega arith) (omega arith)

for_start_leaves : (x : ForStartTree) (at hi last : ℕ) → ShapedForStart x → ForStartAt at x → at + length (for_start_kinds x) ≤ hi
    → Leaves true at hi last (for_start_events x) (for_start_scopes last x)
for_start_leaves (s.Declares d) at hi last h p high = declaration_leaves d at hi last h p high
for_start_leaves (s.Computes x) at hi last h p high =
    optional_leaves x at hi last h p (omega (arith, high, length-append (optional_kinds expr_kinds x) (a_sign sign.Semicolon)))

-- statements

mutual
  pub statement_leaves : (x : StatementTree) (at hi outer : ℕ) → ShapedStatement x → StatementAt at x → at + length (statement_kinds x) ≡ hi
      → Leaves true at hi outer (statement_events x) (statement_scopes x)
  statement_leaves (s.Block token entries) at hi outer h p end =
      let last : ℕ = last_token token (statement_kinds (s.Block token entries)) in
      let long : length (statement_kinds (s.Block token entries)) ≡ 2 + length (entry_kinds entries) =
      omega (arith, length-append (entry_kinds entries) (a_sign sign.RightBrace)) in
      leaves_scoped (at + 1) (at + 1 + length (entry_kinds entries)) last at hi outer
      (entries_leave entries (at + 1) (at + 1 + length (entry_kinds entries)) last h p.1 (omega arith))
      (omega arith) (omega (arith, p.0, long)) (omega (arith, p.0, long, end))
  statement_leaves (s.Expr token x) at hi outer h p end =
      expr_leaves x at hi outer h p.1 (omega (arith, end, length-append (expr_kinds x) (a_sign sign.Semicolon)))
  statement_leaves (s.If token c x) at hi outer h p end =
      let n : ℕ = length (expr_kinds c) in
      let long : length (statement_kinds (s.If token c x)) ≡ 3 + n + length (statement_kinds x) = if_long c x in
      leaves_then at (at + 2 + n + 1) hi
      (leaves_wider (at + 2) (at + 2 + n + 1) at (at + 2 + n + 1) (expr_leaves c (at + 2) (at + 2 + n + 1) outer h.0 p.1 (omega arith)) (omega arith) (omega arith))
      (statement_leaves x (at + 2 + n + 1) hi outer h.1 p.2 (omega (arith, long, end)))
      (omega arith) (omega (arith, long, end))
  statement_leaves (s.IfElse token c x y) at hi outer h p end =
      let n : ℕ = length (expr_kinds c) in
      let m : ℕ = length (statement_kinds x) in
      let long : length (statement_kinds (s.IfElse token c x y)) ≡ 4 + n + m + length (statement_kinds y) = else_long c x y in
      leaves_then at (at + 2 + n + 1) hi
      (leaves_wider (at + 2) (at + 2 + n + 1) at (at + 2 + n + 1) (expr_leaves c (at + 2) (at + 2 + n + 1) outer h.0 p.1 (omega arith)) (omega arith) (omega arith))
      (leaves_then (at + 2 + n + 1) (at + 2 + n + 1 + m) hi (statement_leaves x (at + 2 + n + 1) (at + 2 + n + 1 + m) outer h.1 p.2 refl)
      (leaves_wider (at + 2 + n + 1 + m + 1) hi (at + 2 + n + 1 + m) hi
      (statement_leaves y (at + 2 + n + 1 + m + 1) hi outer h.3 p.3 (omega (arith, long, end))) (omega arith) (omega arith))
      (omega arith) (omega (arith, long, end)))
      (omega arith) (omega (arith, long, end))
  statement_leaves (s.While token c x) at hi outer h p end =
      let n : ℕ = length (expr_kinds c) in
      let long : length (statement_kinds (s.While token c x)) ≡ 3 + n + length (statement_kinds x) = if_long c x in
      leaves_then at (at + 2 + n + 1) hi
      (leaves_wider (at + 2) (at + 2 + n + 1) at (at + 2 + n + 1) (expr_leaves c (at + 2) (at + 2 + n + 1) outer h.0 p.1 (omega arith)) (omega arith) (omega arith))
      (statement_leaves x (at + 2 + n + 1) hi outer h.1 p.2 (omega (arith, long, end)))
      (omega arith) (omega (arith, long, end))
  statement_leaves (s.Do token x c) at hi outer h p end =
      let m : ℕ = length (statement_kinds x) in
      let long : length (statement_kinds (s.Do token x c)) ≡ 5 + length (expr_kinds c) + m = do_long c x in
      subst (Leaves true at hi outer (statement_events x ++ expr_events c)) (append-nil (statement_scopes x))
      (leaves_then at (at + 1 + m) hi
      (leaves_wider (at + 1) (at + 1 + m) at (at + 1 + m) (statement_leaves x (at + 1) (at + 1 + m) outer h.0 p.1 refl) (omega arith) (omega arith))
      (leaves_wider (at + 1 + m + 2) hi (at + 1 + m) hi (expr_leaves c (at + 1 + m + 2) hi outer h.1 p.2 (omega (arith, long, end))) (omega arith) (omega arith))
      (omega arith) (omega (arith, long, end)))
  statement_leaves (s.For token b c d x) at hi outer h p end =
      let n : ℕ = length (for_start_kinds b) in
      let m : ℕ = length (optional_kinds expr_kinds c) in
      let l : ℕ = length (optional_kinds expr_kinds d) in
      let last : ℕ = last_token token (statement_kinds (s.For token b c d x)) in
      let long : length (statement_kinds (s.For token b c d x)) ≡ 4 + n + m + l + length (statement_kinds x) = for_long b c d x in
      let one : ℕ = at + 2 + n in
      let two : ℕ = one + m + 1 in
      let three : ℕ = two + l + 1 in
      leaves_scoped (at + 2) hi last at hi outer
      (leaves_then (at + 2) one hi (for_start_leaves b (at + 2) one last h.0 p.1 (omega arith))
      (leaves_then one two hi (optional_leaves c one two last h.1 p.2 (omega arith))
      (leaves_then two three hi (optional_leaves d two three last h.2 p.3 (omega arith))
      (statement_leaves x three hi last h.3 p.4 (omega (arith, long, end)))
      (omega arith) (omega (arith, long, end)))
      (omega arith) (omega (arith, long, end)))
      (omega arith) (omega (arith, long, end)))
      (omega arith) (omega (arith, p.0, long, end)) (omega (arith, p.0, long, end))
  statement_leaves (s.Return token (Some x)) at hi outer h p end =
      let long : length (statement_kinds (s.Return token (Some x))) ≡ length (expr_kinds x) + 2 =
      omega (arith, length-append (a_word word.Return ++ expr_kinds x) (a_sign sign.Semicolon)) in
      leaves_wider (at + 1) hi at hi (expr_leaves x (at + 1) hi outer h p.1 (omega (arith, long, end))) (omega arith) (omega arith)
  statement_leaves x at hi outer h p end = leaves_none at hi outer (omega (arith, end))

  pub entries_leave : (xs : EntryList) (at hi last : ℕ) → ShapedEntries xs → EntriesAt at xs → at + length (entry_kinds xs) ≡ hi
      → Leaves true at hi last (entries_events xs) (entries_scopes last xs)
  entries_leave s.no_entries at hi last h p end = leaves_none at hi last (omega (arith, end))
  entries_leave (s.declared d rest) at hi last h p end =
      let n : ℕ = length (declaration_kinds d) in
      let long : length (entry_kinds (s.declared d rest)) ≡ n + length (entry_kinds rest) = length-append (declaration_kinds d) (entry_kinds rest) in
      leaves_then at (at + n) hi (declaration_leaves d at (at + n) last h.0 p.0 (omega arith))
      (entries_leave rest (at + n) hi last h.1 p.1 (omega (arith, long, end))) (omega arith) (omega (arith, long, end))
  entries_leave (s.stated x rest) at hi last h p end =
      let n : ℕ = length (statement_kinds x) in
      let long : length (entry_kinds (s.stated x rest)) ≡ n + length (entry_kinds rest) = length-append (statement_kinds x) (entry_kinds rest) in
      leaves_then at (at + n) hi (statement_leaves x at (at + n) last h.0 p.0 refl)
      (entries_leave rest (at + n) hi last h.1 p.1 (omega (arith, long, end))) (omega arith) (omega (arith, long, end))
