-- What the code's statements are as trees, and what lies one deeper.
use Rattle.std.proofs.Common.{◌≡◌, ℕ, zero, suc, ◌-◌, false, Option, Some, None, Ok, Err, Box, refl, ap, sym, ◌∙◌, arith}
use Rattle.std.specs.Global.{Global}
use Rattle.base_lists.proofs.Numbers.{suc_zero_test}
use Rattle.c_syntax.specs.declared.token.Sign.TheVariants as sign_is
use Rattle.c_syntax.specs.declared.expr.Expr.{Expr}
use Rattle.c_syntax.specs.declared.statement.Entry.TheVariants as entry
use Rattle.c_syntax.specs.declared.statement.Statement.{Statement}
use Rattle.c_syntax.specs.declared.statement.Statement.TheVariants as statement
use Rattle.c_syntax.specs.StatementTree as s
use Rattle.c_syntax.specs.Words.{EntryList, plain_expr, plain_entry, plain_statement, plain_second, if_tree}
use Rattle.c_syntax.proofs.PlainStatements.{plain_if, plain_if_else, plain_stated}
use Rattle.c_parser_expressions.specs.declared.stop.Stop.{Stop}
use Rattle.c_parser_expressions.specs.declared.stop.Stop.TheVariants as stop
use Rattle.c_parser_expressions.specs.Reading.{Cursor, next_cursor}
use Rattle.c_parser_expressions.specs.Marks.{begins_with_sign}
use Rattle.c_parser_expressions.specs.Steps.{Gives, Step}
use Rattle.c_parser_expressions.specs.ExpressionParser.{begins_type}
use Rattle.c_parser_statements.specs.StatementViews.{plain_inner}
use Rattle.c_parser_statements.specs.StatementParser.{Header, header_by, for_by, entry_by, entry_step, statement_by, statement_at_depth, statements_below}

pub plain_if_either : (token : ℕ) (condition : Expr) (first : Box Statement Global) (second : Option (Box Statement Global)) →
    plain_statement (statement.If token condition first second) ≡ if_tree token (plain_expr condition) (plain_statement first.value) (plain_second second)
plain_if_either token condition first None = plain_if token condition first
plain_if_either token condition first (Some second) = plain_if_else token condition first second

pub statements_is : (d : ℕ) (c : Cursor) → statement_at_depth d c ≡ statement_by d (statements_below d) c
unfolding statement_at_depth statements_below
statements_is zero c = refl
statements_is (suc n) c = refl

pub below : (d : ℕ) (c : Cursor) → (d ≡ 0 → ⊥) → statements_below d c ≡ statement_at_depth (d - 1) c
unfolding statements_below
below zero c h = absurd (h refl)
below (suc n) c h = let e : n ≡ suc n - 1 = omega arith in ap (λ (m : ℕ). statement_at_depth m c) e

pub below_is : (d : ℕ) → (d ≡ 0 → ⊥) → statements_below d ≡ statement_at_depth (d - 1)
below_is d h = λ i c. below d c h i

-- a `for` whose body is refused
for_stops : (d : ℕ) (c mid : Cursor) (h : Header) (i : ℕ) → (d ≡ 0 → ⊥) → header_by d (next_cursor c) ≡ Ok (h, mid) → statement_at_depth (d - 1) mid ≡ Err i
    → for_by d (statements_below d) c ≡ Err i
unfolding for_by
for_stops zero c mid h i ne head body = absurd (ne refl)
for_stops (suc n) c mid h i ne head body =
    let deeper : statements_below (suc n) mid ≡ Err i = below (suc n) mid ne ∙ body in
    rw (suc_zero_test n, head, deeper) refl

pub for_err : (d : ℕ) (c mid later end : Cursor) (h : Header) (w : Stop) → (d ≡ 0 → ⊥) → header_by d (next_cursor c) ≡ Ok (h, mid)
    → Gives plain_inner (Err w) later (statement_at_depth (d - 1) mid) → Gives plain_statement (Err w) end (for_by d (statements_below d) c)
for_err d c mid later end h (stop.Refused i) ne head body = for_stops d c mid h i ne head body
for_err d c mid later end h stop.Memory ne head body = tt

-- an entry that is a statement
pub entry_stated : (d : ℕ) (c to : Cursor) (x : Statement) → begins_with_sign sign_is.RightBrace c.rest ≡ false → (d ≡ 0 → ⊥) → begins_type c.rest ≡ false
    → statement_at_depth (d - 1) c ≡ Ok (plain_statement x, to) → entry_step d (statements_below d) c ≡ Some (Ok (plain_entry (entry.Statement x), to))
unfolding entry_step entry_by
entry_stated zero c to x brace ne type read = absurd (ne refl)
entry_stated (suc n) c to x brace ne type read =
    let deeper : statements_below (suc n) c ≡ Ok (plain_statement x, to) = below (suc n) c ne ∙ read in
    let step : entry_step (suc n) (statements_below (suc n)) c ≡ Some (Ok (s.stated (plain_statement x), to)) = rw (brace, suc_zero_test n, type, deeper) refl in
    step ∙ ap {B = Step (EntryList → EntryList)} (λ (f : EntryList → EntryList). Some (Ok (f, to))) (sym (plain_stated x))
