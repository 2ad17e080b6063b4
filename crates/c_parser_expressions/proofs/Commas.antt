-- Comma expressions.
use Rattle.std.proofs.Common.{◌≡◌, ℕ, ◌+◌, ◌≤◌, inl, inr, true, false, List, [], ◌∷◌, ◌++◌, length, Some, None, Ok, Err}
use Rattle.std.proofs.Common.{refl, sym, ap, subst, arith}
use Rattle.std.proofs.lemmas.List.{append-nil}
use Rattle.std.proofs.lemmas.Bool.{cases_Bool}
use Rattle.c_syntax.specs.declared.token.Sign.TheVariants as sign_is
use Rattle.c_syntax.specs.ExprTree as e
use Rattle.c_syntax.specs.Words.{ExprTree, ExprList, expr_list, expr_kinds, more_exprs_kinds}
use Rattle.c_parser_expressions.specs.Reading.{Cursor, Rule, Found, Read, Outcome, sequence_rule, next_cursor}
use Rattle.c_parser_expressions.specs.Marks.{begins_with_sign}
use Rattle.c_parser_expressions.specs.Steps.{◌>>=◌, with_front, all_of}
use Rattle.c_parser_expressions.specs.Expressions.{expression, IsExpr, more_expressions}
use Rattle.c_parser_expressions.specs.ExpressionParser.{Parsers, assignment_by, comma_step, more_by, commas_by, listed_by, whole_by}
use Rattle.c_parser_expressions.proofs.Laws.{Leads, leads-here, leads-wrap, part}
use Rattle.c_parser_expressions.proofs.Many.{list-parses, list-none}
use Rattle.c_parser_expressions.proofs.Primary.{comma-follows, comma-listing, put-exprs}

-- an expression, and those with a comma before them
abbrev comma_tree : ℕ → ExprTree → ExprList → ExprTree
comma_tree token x e.no_exprs = x
comma_tree token x (e.more_exprs y rest) = e.Comma token (e.more_exprs x (e.more_exprs y rest))

abbrev Parts : (d : ℕ) → Rule (ExprTree × ExprList)
Parts d = sequence_rule (expression 1 d) (λ v. more_expressions d)

abbrev joined : ℕ → ExprTree × ExprList → ExprTree
joined at p = comma_tree (at + length (expr_kinds p.0)) p.0 p.1

split : (d at : ℕ) (x : ExprTree) → IsExpr 0 d at x → (p : ExprTree × ExprList) × (x ≡ joined at p) × (Parts d).Is at p
split d at (e.Comma t e.no_exprs) is = absurd is.shaped.0
split d at (e.Comma t (e.more_exprs x e.no_exprs)) is = absurd is.shaped.0
split d at (e.Comma t (e.more_exprs x (e.more_exprs y rest))) is =
    let nests = is.nests in
    let shaped = is.shaped.1 in
    let placed = is.placed in (
      (x, e.more_exprs y rest),
      ap (λ (n : ℕ). e.Comma n (e.more_exprs x (e.more_exprs y rest))) placed.0,
      (
        record { ranks = shaped.0; shaped = shaped.1; nests = omega arith; placed = placed.1.0 },
        record { shaped = shaped.2; nests = omega arith; placed = placed.1.1 },
      ),
    )
split d at (e.Chain l x ls) is =
    let low = is.shaped.0 in (
      (e.Chain l x ls, e.no_exprs),
      refl,
      (
        record { ranks = omega arith; shaped = is.shaped; nests = is.nests; placed = is.placed },
        record { shaped = tt; nests = omega arith; placed = tt },
      ),
    )
split d at x is = (
  (x, e.no_exprs),
  refl,
  (
    record { ranks = omega arith; shaped = is.shaped; nests = is.nests; placed = is.placed },
    record { shaped = tt; nests = omega arith; placed = tt },
  ),
)

build : (d at : ℕ) (x : ExprTree) (xs : ExprList) → (Parts d).Is at (x, xs) → IsExpr 0 d at (joined at (x, xs))
build d at x e.no_exprs is = record { ranks = omega arith; shaped = is.0.shaped; nests = is.0.nests; placed = is.0.placed }
build d at x (e.more_exprs y rest) is =
    let n0 = is.0.nests in
    let n1 = is.1.nests in
    record { ranks = omega arith; shaped = (tt, (is.0.ranks, is.0.shaped, is.1.shaped)); nests = omega arith; placed = (refl, (is.0.placed, is.1.placed)) }

spelled : (at : ℕ) (x : ExprTree) (xs : ExprList) → expr_kinds (joined at (x, xs)) ≡ expr_kinds x ++ more_exprs_kinds xs
spelled at x e.no_exprs = sym (append-nil (expr_kinds x))
spelled at x (e.more_exprs y rest) = refl

comma-leads : (d : ℕ) (c : Cursor) → Leads (expression 0 d) (Parts d) c c (joined c.at)
comma-leads d c =
    leads-here (expression 0 d) (Parts d) c (joined c.at) (λ p is. build d c.at p.0 p.1 is) (λ p. spelled c.at p.0 p.1)
    (λ x k last is ends le same. (let b = split d c.at x is in (b.0, b.1, b.2, ends)))

some-commas : (token : ℕ) (x : ExprTree) (xs : ExprList) → 1 ≤ length (more_exprs_kinds xs) → comma_tree token x xs ≡ e.Comma token (e.more_exprs x xs)
some-commas token x e.no_exprs h = absurd (omega arith)
some-commas token x (e.more_exprs y rest) h = refl

pub step-some : (item : Cursor → Read ExprTree) (c : Cursor) → begins_with_sign sign_is.Comma c.rest ≡ true → comma_step item c ≡ Some (item (next_cursor c))
unfolding comma_step
step-some item c h = rw h refl

pub step-none : (item : Cursor → Read ExprTree) (c : Cursor) → begins_with_sign sign_is.Comma c.rest ≡ false → comma_step item c ≡ None
unfolding comma_step
step-none item c h = rw h refl

front-bind : (x : ExprTree) (token : ℕ) (r : Read (List ExprTree)) →
    ◌>>=◌ {A = List ExprTree × Cursor} {B = ExprTree × Cursor} r (λ p. Ok (e.Comma token (e.more_exprs x (expr_list p.0)), p.1))
    ≡ ◌>>=◌ {A = List ExprTree × Cursor} {B = ExprTree × Cursor} (with_front (x ∷ []) r) (λ p. Ok (e.Comma token (expr_list p.0), p.1))
front-bind x token (Ok p) = refl
front-bind x token (Err i) = refl

commas-parse : (d : ℕ) (item : Cursor → Read ExprTree) → ((c : Cursor) → Outcome (expression 1 d) c (item c)) → (c mid : Cursor) (x : ExprTree)
    → Leads (expression 0 d) (more_expressions d) c mid (comma_tree mid.at x) → begins_with_sign sign_is.Comma mid.rest ≡ true
    → Outcome (expression 0 d) c (commas_by item x mid)
unfolding commas_by more_by
commas-parse d item o c mid x l h =
    subst (λ (r : Read ExprTree). Outcome (expression 0 d) c r) (front-bind x mid.at (all_of (comma_step item) mid))
    (list-parses (expression 0 d) (more_expressions d) (comma_step item) c mid (comma_tree mid.at x)
    (λ xs. e.Comma mid.at (e.more_exprs x xs)) e.more_exprs e.no_exprs expr_list (item (next_cursor mid))
    (comma-listing d item o) l (some-commas mid.at x) put-exprs (step-some item mid h))

listed-parses : (d : ℕ) (item : Cursor → Read ExprTree) → ((c : Cursor) → Outcome (expression 1 d) c (item c)) → (c mid : Cursor) (x : ExprTree)
    → Leads (expression 0 d) (more_expressions d) c mid (comma_tree mid.at x) → Outcome (expression 0 d) c (listed_by item x mid)
unfolding listed_by
listed-parses d item o c mid x l = elim (cases_Bool (begins_with_sign sign_is.Comma mid.rest)) [
  | inl t ↦ rw t (commas-parse d item o c mid x l t)
  | inr f ↦ rw f (list-none (expression 0 d) (more_expressions d) (comma_step item) c mid (comma_tree mid.at x) e.more_exprs e.no_exprs
      (comma-listing d item o) l (step-none item mid f))
]

placed-leads : (d : ℕ) (c mid : Cursor) (x : ExprTree) → Found (expression 1 d) c x mid
    → Leads (expression 0 d) (more_expressions d) c mid (λ xs. joined c.at (x, xs)) → Leads (expression 0 d) (more_expressions d) c mid (comma_tree mid.at x)
placed-leads d c mid x f l =
    leads-wrap (expression 0 d) (more_expressions d) c mid (λ xs. joined c.at (x, xs)) (comma_tree mid.at x)
    (λ xs. ap (λ (n : ℕ). comma_tree n x xs) (sym f.moved)) l

pub whole-by-parses : (d : ℕ) (deeper : Parsers) → ((c : Cursor) → Outcome (expression 1 d) c (assignment_by d deeper c)) → (c : Cursor)
    → Outcome (expression 0 d) c (whole_by d deeper c)
unfolding whole_by
whole-by-parses d deeper o c =
    part (expression 0 d) (expression 1 d) (λ v. more_expressions d) c c (joined c.at) (assignment_by d deeper c)
    (λ x. listed_by (assignment_by d deeper) x.0 x.1) (comma-follows d) (comma-leads d c) (o c)
    (λ x to found l. listed-parses d (assignment_by d deeper) o c to x (placed-leads d c to x found l))
