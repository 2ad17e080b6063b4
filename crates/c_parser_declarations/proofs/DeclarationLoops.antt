-- What the loops over parts of declarations keep.
use Rattle.std.proofs.Common.{◌≡◌, ℕ, zero, suc, ◌-◌, ◌≤◌, ◌<◌, true, List, [], ◌∷◌, ◌++◌, Bool, Ok, Err, refl, sym, ap, ◌∙◌, subst, arith}
use Rattle.c_parser_expressions.proofs.Many.{front_more}
use Rattle.base_lists.proofs.Numbers.{suc_zero_test}
use Rattle.c_syntax.specs.declared.token.Sign.TheVariants as sign_is
use Rattle.c_syntax.specs.declared.parts.Bound.{Bound}
use Rattle.c_syntax.specs.Words.{ExprTree, expr_list}
use Rattle.c_syntax.specs.StatementTree as s
use Rattle.c_parser_expressions.specs.declared.stop.Stop.TheVariants as stop
use Rattle.c_parser_expressions.specs.Reading.{Cursor, Read, next_cursor}
use Rattle.c_parser_expressions.specs.Marks.{begins_with_sign}
use Rattle.c_parser_expressions.specs.Steps.{◌>>=◌, with_front, all_of, Advances, the_sign}
use Rattle.c_parser_expressions.specs.ExpressionParser.{deeper_than, assignment_by}
use Rattle.c_parser_declarations.specs.Declarations.{items_end, start_rule, starts_end}
use Rattle.c_parser_declarations.specs.DeclarationParser.{the_bound, the_bounds, item_step, end_of_list, braced_by, start_by, start_step}
use Rattle.c_parser_expressions.proofs.Depths.{deeper_assignment}
use Rattle.c_parser_expressions.proofs.WholeParses.{parses, deep}
use Rattle.c_parser_declarations.proofs.Lists.{closing-advances, commas-closing}
use Rattle.c_parser_declarations.proofs.Initials.{add_item, list_end, items-closing}
use Rattle.c_parser_declarations.proofs.Declaring.{start-parses}

-- bounds

-- what the loop has read, before what is still to be read, is all that there is
pub record Bounds (left : ℕ) (now : Cursor) (xs : List Bound) (whole : Read (List Bound)) : Type 0 where
  pub all : with_front xs (the_bounds left now) ≡ whole

bound-front : (x : Bound) (r : Read (List Bound)) → ◌≡◌ {A = Read (List Bound)}
    (◌>>=◌ {A = List Bound × Cursor} {B = List Bound × Cursor} r (λ q. Ok (x ∷ q.0, q.1))) (with_front (x ∷ []) r)
bound-front x (Ok p) = refl
bound-front x (Err i) = refl

one-bound : (r : Read Bound) (more : Cursor → Read (List Bound)) (x : Bound) (to : Cursor) → r ≡ Ok (x, to)
    → ◌≡◌ {A = Read (List Bound)} (◌>>=◌ {A = Bound × Cursor} {B = List Bound × Cursor} r
    (λ p. ◌>>=◌ {A = List Bound × Cursor} {B = List Bound × Cursor} (more p.1) (λ q. Ok (p.0 ∷ q.0, q.1)))) (with_front (x ∷ []) (more to))
one-bound r more x to h = ap (λ (v : Read Bound). ◌>>=◌ {A = Bound × Cursor} {B = List Bound × Cursor} v
    (λ p. ◌>>=◌ {A = List Bound × Cursor} {B = List Bound × Cursor} (more p.1) (λ q. Ok (p.0 ∷ q.0, q.1)))) h ∙ bound-front x (more to)

pub bounds_more : (left : ℕ) (c to : Cursor) (xs ys : List Bound) (x : Bound) (whole : Read (List Bound)) → Bounds left c xs whole → 0 < left
    → begins_with_sign sign_is.LeftBracket c.rest ≡ true → the_bound (next_cursor c) ≡ Ok (x, to) → ys ≡ xs ++ x ∷ []
    → Bounds (left - 1) to ys whole
unfolding the_bounds
bounds_more zero c to xs ys x whole b some t h pushed = absurd (omega arith)
bounds_more (suc n) c to xs ys x whole b some t h pushed =
    let e : n ≡ suc n - 1 = omega arith in
    let step : the_bounds (suc n) c ≡ with_front (x ∷ []) (the_bounds n to) = rw t (one-bound (the_bound (next_cursor c)) (the_bounds n) x to h) in
    record {
      all = ap (λ (m : ℕ). with_front ys (the_bounds m to)) (sym e) ∙ ap (λ (v : List Bound). with_front v (the_bounds n to)) pushed
          ∙ front_more xs x (the_bounds n to) ∙ ap (with_front xs) (sym step) ∙ b.all;
    }

-- each turn takes a token
pub braced_advance : (d : ℕ) → Advances (item_step (assignment_by d (deeper_than d)))
braced_advance d =
    let e : suc d - 1 ≡ d = omega arith in
    let is : (deeper_than (suc d)).assignment ≡ assignment_by d (deeper_than d) =
    deeper_assignment (suc d) (λ h. omega arith) ∙ ap (λ (m : ℕ). assignment_by m (deeper_than m)) e in
    subst (λ (f : Cursor → Read ExprTree). Advances (item_step f)) is
    (closing-advances (items_end (suc d)) (item_step (deeper_than (suc d)).assignment) add_item list_end
    (items-closing (suc d) (deeper_than (suc d)).assignment (λ k. (deep (suc d)).assignment k)))

pub starts_advance : (by d : ℕ) → by ≤ d → Advances (start_step by d)
unfolding start_step
starts_advance by d le =
    let reads = start-parses (λ n k. (parses n).assignment k) (λ n k. (deep n).assignment k) by d le in
    closing-advances (starts_end by d) (start_step by d) (λ y ys. y ∷ ys) (λ k. the_sign sign_is.Semicolon k >>= (λ q. Ok ([], q.1)))
    (commas-closing (start_rule by d) sign_is.Semicolon (start_by by d) (start_step by d) (omega arith) (λ h. cc) (λ at v k v_is ends. ends) (λ k. refl) reads)

-- a braced list, part by part
pub braced_reads : (d : ℕ) (c to next end : Cursor) (x : ExprTree) (xs : List ExprTree) (comma : Bool) → (d ≡ 0 → ⊥)
    → assignment_by (d - 1) (deeper_than (d - 1)) (next_cursor c) ≡ Ok (x, to)
    → with_front (x ∷ []) (all_of (item_step (assignment_by (d - 1) (deeper_than (d - 1)))) to) ≡ Ok (xs, next)
    → end_of_list next ≡ Ok (comma, end) → braced_by d c ≡ Ok (s.Braced c.at (expr_list xs) comma, end)
unfolding braced_by
braced_reads zero c to next end x xs comma ne h more ends = absurd (ne refl)
braced_reads (suc n) c to next end x xs comma ne h more ends =
    let is : (deeper_than (suc n)).assignment ≡ assignment_by (suc n - 1) (deeper_than (suc n - 1)) = deeper_assignment (suc n) ne in
    let one : (deeper_than (suc n)).assignment (next_cursor c) ≡ Ok (x, to) = subst (λ (f : Cursor → Read ExprTree). f (next_cursor c) ≡ Ok (x, to)) (sym is) h in
    let all : with_front (x ∷ []) (all_of (item_step (deeper_than (suc n)).assignment) to) ≡ Ok (xs, next) =
    subst (λ (f : Cursor → Read ExprTree). with_front (x ∷ []) (all_of (item_step f) to) ≡ Ok (xs, next)) (sym is) more in
    rw (suc_zero_test n, one, all, ends) refl
