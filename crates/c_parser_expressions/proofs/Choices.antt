-- Conditional expressions, assignments and comma expressions.
use Rattle.std.proofs.Common.{◌≡◌, ℕ, zero, suc, ◌+◌, ◌≤◌, ◌<◌, inl, inr, true, false, []}
use Rattle.std.proofs.Common.{◌∷◌, ◌++◌, length, Some, Ok, refl, sym, ap, ◌∙◌, subst, append_assoc, length-append, arith}
use Rattle.std.proofs.lemmas.Bool.{cases_Bool}
use Rattle.base_lists.proofs.Numbers.{suc_zero_test}
use Rattle.c_syntax.specs.declared.token.Sign.{Sign}
use Rattle.c_syntax.specs.declared.token.Sign.TheVariants as sign_is
use Rattle.c_syntax.specs.declared.token.TokenKind.TheVariants as kind
use Rattle.c_syntax.specs.ExprTree as e
use Rattle.c_syntax.specs.Words.{ExprTree, Kinds, a_sign, expr_kinds, ExprAt}
use Rattle.c_parser_expressions.specs.Reading.{Cursor, SameUpTo, Rule, Found, Fails, Outcome, next_cursor, kinds_behind_first, sign_at, sequence_rule, rule_before_sign}
use Rattle.c_parser_expressions.specs.Marks.{begins_with_sign}
use Rattle.c_parser_expressions.specs.Steps.{◌>>=◌}
use Rattle.c_parser_expressions.specs.Expressions.{expression, IsExpr, inner_expression, EndsAt, kind_binds, sign_binds}
use Rattle.c_parser_expressions.specs.ExpressionParser.{Parsers, closed_by, choices_by, choosing_by, begins_choices, chosen_by, conditional_by, chain_by, cast_by}
use Rattle.c_parser_expressions.proofs.Heads.{sign-head, same-sign, stands-sign, sign-stands}
use Rattle.c_parser_expressions.proofs.Laws.{same-rest, Leads, leads-none, bind, part, finish}
use Rattle.c_parser_expressions.proofs.Tokens.{before-parses}
use Rattle.c_parser_expressions.proofs.Primary.{ends-more, closes}

-- What agrees with the text behind a part that was read begins as what stands there.
pub after-same : (r d : ℕ) (c mid : Cursor) (x : ExprTree) (k : Kinds) (last : ℕ) → Found (expression r d) c x mid → mid.at ≤ last
    → SameUpTo last c.at c.rest (expr_kinds x ++ k) → SameUpTo last mid.at mid.rest k
after-same r d c mid x k last f le same =
    let moved = f.moved in
    subst (λ (n : ℕ). SameUpTo last n mid.rest k) (sym f.moved)
    (same-rest last c.at (expr_kinds x) mid.rest k (omega arith) (subst (λ (v : Kinds). SameUpTo last c.at v (expr_kinds x ++ k)) f.spelled same))

sign-ends : (low last at : ℕ) (s : Sign) (ks k : Kinds) → low < sign_binds s → EndsAt low k → SameUpTo last at (kind.Punctuator s ∷ ks) k → ⊥
sign-ends low last at s ks [] more ends same = same
sign-ends low last at s ks (y ∷ k) more ends same =
    let b : sign_binds s ≡ kind_binds y = ap kind_binds same.0 in
    let by = ends.by in
    omega arith

-- .. so where a sign stands there, that part can't have ended so
pub ended-by : (r d low : ℕ) (c mid : Cursor) (x y : ExprTree) (s : Sign) (k : Kinds) (last : ℕ) → Found (expression r d) c x mid → y ≡ x
    → sign_at mid.rest ≡ Some s → low < sign_binds s → EndsAt low k → mid.at ≤ last
    → SameUpTo last c.at c.rest (expr_kinds y ++ k) → ⊥
ended-by r d low c mid x y s k last f one h more ends le same =
    let s1 : SameUpTo last mid.at mid.rest k =
    after-same r d c mid x k last f le (subst (λ (v : ExprTree). SameUpTo last c.at c.rest (expr_kinds v ++ k)) one same) in
    sign-ends low last mid.at s (kinds_behind_first mid.rest) k more ends (subst (λ (v : Kinds). SameUpTo last mid.at v k) (sign-head mid.rest s h) s1)

-- the second and the third operand
abbrev Choices : (d : ℕ) → Rule (ExprTree × ExprTree)
Choices d = sequence_rule (rule_before_sign (inner_expression 0 d) sign_is.Colon) (λ v. inner_expression 2 d)

conditional-spelled : (x y z k : Kinds)
    → ((((x ++ a_sign sign_is.Question) ++ y) ++ a_sign sign_is.Colon) ++ z) ++ k ≡ x ++ (kind.Punctuator sign_is.Question ∷ (y ++ a_sign sign_is.Colon) ++ (z ++ k))
conditional-spelled x y z k = simp append_assoc

choice-at : (at : ℕ) (y : ExprTree) → at + 1 + length (expr_kinds y) + 1 ≡ at + 1 + length (expr_kinds y ++ a_sign sign_is.Colon)
choice-at at y = omega (arith, length-append (expr_kinds y) (a_sign sign_is.Colon))

choose-other : (d : ℕ) (c mid : Cursor) (x y : ExprTree) (k : Kinds) (last : ℕ) → Found (expression 3 d) c x mid → sign_at mid.rest ≡ Some sign_is.Question
    → IsExpr 3 d c.at y → EndsAt 2 k → mid.at ≤ last → SameUpTo last c.at c.rest (expr_kinds y ++ k) → ⊥
choose-other d c mid x y k last f h is ends le same =
    ended-by 3 d 2 c mid x y sign_is.Question k last f (f.only y k last is (ends-more 2 3 k (omega arith) ends) le same) h (omega arith) ends le same

choose-back : (d : ℕ) (c mid : Cursor) (x y : ExprTree) (k : Kinds) (last : ℕ) → Found (expression 3 d) c x mid → sign_at mid.rest ≡ Some sign_is.Question
    → IsExpr 2 d c.at y → EndsAt 2 k → mid.at + 1 ≤ last → SameUpTo last c.at c.rest (expr_kinds y ++ k)
    → (p : ExprTree × ExprTree) × (y ≡ e.Conditional mid.at x p.0 p.1) × (Choices d).Is (mid.at + 1) p
choose-back d c mid x (e.Conditional t v u w) k last f h is ends le same =
    let nests = is.nests in
    let placed = is.placed in
    let s1 : SameUpTo last c.at c.rest (expr_kinds v ++ (kind.Punctuator sign_is.Question ∷ (expr_kinds u ++ a_sign sign_is.Colon) ++ (expr_kinds w ++ k))) =
    subst (λ (q : Kinds). SameUpTo last c.at c.rest q) (conditional-spelled (expr_kinds v) (expr_kinds u) (expr_kinds w) k) same in
    let v_is : IsExpr 3 d c.at v = record { ranks = is.shaped.0; shaped = is.shaped.1; nests = omega arith; placed = placed.1 } in
    let one : v ≡ x =
    f.only v (kind.Punctuator sign_is.Question ∷ (expr_kinds u ++ a_sign sign_is.Colon) ++ (expr_kinds w ++ k)) last v_is (record { by = omega arith })
    (omega arith) s1 in
    let here : t ≡ mid.at = placed.0 ∙ ap (λ (q : ExprTree). c.at + length (expr_kinds q)) one ∙ sym f.moved in
    let u_at : ExprAt (mid.at + 1) u = subst (λ (n : ℕ). ExprAt (n + 1) u) here placed.2 in
    let w_at : ExprAt (mid.at + 1 + length (expr_kinds u) + 1) w = subst (λ (n : ℕ). ExprAt (n + 1 + length (expr_kinds u) + 1) w) here placed.3 in (
      (u, w),
      cc,
      (
        record { ranks = omega arith; shaped = is.shaped.2; nests = omega arith; placed = u_at },
        record { ranks = is.shaped.3; shaped = is.shaped.4; nests = omega arith; placed = subst (λ (n : ℕ). ExprAt n w) (choice-at mid.at u) w_at },
      ),
    )
choose-back d c mid x (e.Comma t xs) k last f h is ends le same = let r = is.ranks in absurd (omega arith)
choose-back d c mid x (e.Assign t s u v) k last f h is ends le same = let r = is.ranks in absurd (omega arith)
choose-back d c mid x (e.Chain l u ls) k last f h is ends le same =
    let low = is.shaped.0 in
    absurd (choose-other d c mid x (e.Chain l u ls) k last f h (record { ranks = omega arith; shaped = is.shaped; nests = is.nests; placed = is.placed }) ends
    (omega arith) same)
choose-back d c mid x y k last f h is ends le same =
    absurd (choose-other d c mid x y k last f h (record { ranks = omega arith; shaped = is.shaped; nests = is.nests; placed = is.placed }) ends
    (omega arith) same)

choose-leads : (d : ℕ) (c mid : Cursor) (x : ExprTree) → Found (expression 3 d) c x mid → sign_at mid.rest ≡ Some sign_is.Question
    → Leads (expression 2 d) (Choices d) c (next_cursor mid) (λ p. e.Conditional mid.at x p.0 p.1)
choose-leads d c mid x f h =
    let moved = f.moved in
    let whole : mid.rest ≡ kind.Punctuator sign_is.Question ∷ kinds_behind_first mid.rest = sign-head mid.rest sign_is.Question h in
    record {
      front = expr_kinds x ++ a_sign sign_is.Question;
      whole = f.spelled ∙ ap (λ (v : Kinds). expr_kinds x ++ v) whole ∙ sym (append_assoc (expr_kinds x) (a_sign sign_is.Question) (kinds_behind_first mid.rest));
      moved = omega (arith, length-append (expr_kinds x) (a_sign sign_is.Question));
      build = λ p is. (let r = f.is.ranks in let n0 = f.is.nests in let n1 = is.0.nests in let n2 = is.1.nests in
          record {
            ranks = omega arith;
            shaped = (r, f.is.shaped, is.0.shaped, is.1.ranks, is.1.shaped);
            nests = omega arith;
            placed = (f.moved, f.is.placed, is.0.placed, subst (λ (n : ℕ). ExprAt n p.1) (sym (choice-at mid.at p.0)) is.1.placed);
          });
      spelled = λ p. simp append_assoc;
      back = λ y k last is ends le same. (let b = choose-back d c mid x y k last f h is ends le same in (b.0, b.1, b.2, ends));
    }

-- no `?` follows, or its operands would lie too deep
alone-only : (d : ℕ) (c mid : Cursor) (x y : ExprTree) (k : Kinds) (last : ℕ) → Found (expression 3 d) c x mid
    → (sign_at mid.rest ≡ Some sign_is.Question → d ≡ 0) → IsExpr 2 d c.at y → EndsAt 2 k → mid.at ≤ last → SameUpTo last c.at c.rest (expr_kinds y ++ k) → y ≡ x
alone-only d c mid x (e.Conditional t v u w) k last f other is ends le same =
    let nests = is.nests in
    let placed = is.placed in
    let s1 : SameUpTo last c.at c.rest (expr_kinds v ++ (kind.Punctuator sign_is.Question ∷ (expr_kinds u ++ a_sign sign_is.Colon) ++ (expr_kinds w ++ k))) =
    subst (λ (q : Kinds). SameUpTo last c.at c.rest q) (conditional-spelled (expr_kinds v) (expr_kinds u) (expr_kinds w) k) same in
    let v_is : IsExpr 3 d c.at v = record { ranks = is.shaped.0; shaped = is.shaped.1; nests = omega arith; placed = placed.1 } in
    let one : v ≡ x =
    f.only v (kind.Punctuator sign_is.Question ∷ (expr_kinds u ++ a_sign sign_is.Colon) ++ (expr_kinds w ++ k)) last v_is
    (record { by = omega arith }) le s1 in
    let s2 = after-same 3 d c mid x (kind.Punctuator sign_is.Question ∷ (expr_kinds u ++ a_sign sign_is.Colon) ++ (expr_kinds w ++ k)) last f le
    (subst (λ (q : ExprTree). SameUpTo last c.at c.rest
    (expr_kinds q ++ (kind.Punctuator sign_is.Question ∷ (expr_kinds u ++ a_sign sign_is.Colon) ++ (expr_kinds w ++ k)))) one s1) in
    let flat : d ≡ 0 = other (same-sign last mid.at mid.rest _ sign_is.Question s2) in
    absurd (omega arith)
alone-only d c mid x (e.Comma t xs) k last f other is ends le same = let r = is.ranks in absurd (omega arith)
alone-only d c mid x (e.Assign t s u v) k last f other is ends le same = let r = is.ranks in absurd (omega arith)
alone-only d c mid x (e.Chain l u ls) k last f other is ends le same =
    let low = is.shaped.0 in
    f.only (e.Chain l u ls) k last (record { ranks = omega arith; shaped = is.shaped; nests = is.nests; placed = is.placed })
    (ends-more 2 3 k (omega arith) ends) le same
alone-only d c mid x y k last f other is ends le same =
    f.only y k last (record { ranks = omega arith; shaped = is.shaped; nests = is.nests; placed = is.placed }) (ends-more 2 3 k (omega arith) ends) le same

alone : (d : ℕ) (c mid : Cursor) (x : ExprTree) → Found (expression 3 d) c x mid → (sign_at mid.rest ≡ Some sign_is.Question → d ≡ 0)
    → Found (expression 2 d) c x mid
alone d c mid x f other =
    let r = f.is.ranks in
    record {
      is = record { ranks = omega arith; shaped = f.is.shaped; nests = f.is.nests; placed = f.is.placed };
      spelled = f.spelled;
      moved = f.moved;
      only = λ y k last is ends le same. alone-only d c mid x y k last f other is ends le same;
    }

none-chosen : (d : ℕ) (c : Cursor) (y : ExprTree) (k : Kinds) (last : ℕ) → Fails (expression 3 d) c last → IsExpr 2 d c.at y → EndsAt 2 k
    → SameUpTo last c.at c.rest (expr_kinds y ++ k) → ⊥
none-chosen d c (e.Conditional t v u w) k last f is ends same =
    let nests = is.nests in
    f.none v (kind.Punctuator sign_is.Question ∷ (expr_kinds u ++ a_sign sign_is.Colon) ++ (expr_kinds w ++ k))
    (record { ranks = is.shaped.0; shaped = is.shaped.1; nests = omega arith; placed = is.placed.1 }) (record { by = omega arith })
    (subst (λ (q : Kinds). SameUpTo last c.at c.rest q) (conditional-spelled (expr_kinds v) (expr_kinds u) (expr_kinds w) k) same)
none-chosen d c (e.Comma t xs) k last f is ends same = let r = is.ranks in omega arith
none-chosen d c (e.Assign t s u v) k last f is ends same = let r = is.ranks in omega arith
none-chosen d c (e.Chain l u ls) k last f is ends same =
    let low = is.shaped.0 in
    f.none (e.Chain l u ls) k (record { ranks = omega arith; shaped = is.shaped; nests = is.nests; placed = is.placed })
    (ends-more 2 3 k (omega arith) ends) same
none-chosen d c y k last f is ends same =
    f.none y k (record { ranks = omega arith; shaped = is.shaped; nests = is.nests; placed = is.placed }) (ends-more 2 3 k (omega arith) ends) same

choices-parse : (d : ℕ) (deeper : Parsers) → ((c : Cursor) → Outcome (inner_expression 0 d) c (deeper.whole c))
    → ((c : Cursor) → Outcome (inner_expression 2 d) c (deeper.conditional c)) → (c mid : Cursor) (x : ExprTree)
    → Found (expression 3 d) c x mid → sign_at mid.rest ≡ Some sign_is.Question → Outcome (expression 2 d) c (choosing_by deeper x mid)
unfolding choosing_by choices_by closed_by
choices-parse d deeper whole conditional c mid x f h =
    finish (expression 2 d) (Choices d) c (next_cursor mid) (λ p. e.Conditional mid.at x p.0 p.1) (choices_by deeper (next_cursor mid)) (choose-leads d c mid x f h)
    (part (Choices d) (rule_before_sign (inner_expression 0 d) sign_is.Colon) (λ v. inner_expression 2 d) (next_cursor mid) (next_cursor mid) (λ p. p) (closed_by deeper.whole sign_is.Colon (next_cursor mid))
    (λ y. deeper.conditional y.1 >>= (λ z. Ok ((y.0, z.0), z.1)))
    (λ at v y k v_is y_is ends. record {}) (leads-none (Choices d) (next_cursor mid))
    (before-parses (inner_expression 0 d) sign_is.Colon (next_cursor mid) (deeper.whole (next_cursor mid)) (omega arith) (λ v k. closes sign_is.Colon k refl)
    (whole (next_cursor mid)))
    (λ y to found l. finish (Choices d) (inner_expression 2 d) (next_cursor mid) to (λ z. (y, z)) (deeper.conditional to) l (conditional to)))

pub chooses-both : (d : ℕ) (k : Kinds) → begins_choices d k ≡ true → begins_with_sign sign_is.Question k ≡ true
chooses-both zero k h = cc
chooses-both (suc n) k h = let e : begins_choices (suc n) k ≡ begins_with_sign sign_is.Question k = rw (suc_zero_test n) refl in sym e ∙ h

chooses-not : (d : ℕ) (k : Kinds) → begins_choices d k ≡ false → begins_with_sign sign_is.Question k ≡ true → d ≡ 0
chooses-not zero k h s = refl
chooses-not (suc n) k h s = let e : begins_choices (suc n) k ≡ begins_with_sign sign_is.Question k = rw (suc_zero_test n) refl in let both : false ≡ true = sym h ∙ e ∙ s in cc

chosen-parses : (d : ℕ) (deeper : Parsers) → ((c : Cursor) → Outcome (inner_expression 0 d) c (deeper.whole c))
    → ((c : Cursor) → Outcome (inner_expression 2 d) c (deeper.conditional c)) → (c mid : Cursor) (x : ExprTree) → Found (expression 3 d) c x mid
    → Outcome (expression 2 d) c (chosen_by d deeper x mid)
unfolding chosen_by
chosen-parses d deeper whole conditional c mid x f = elim (cases_Bool (begins_choices d mid.rest)) [
  | inl t ↦ rw t (choices-parse d deeper whole conditional c mid x f (stands-sign sign_is.Question mid.rest (omega arith) (chooses-both d mid.rest t)))
  | inr g ↦ rw g (alone d c mid x f (λ h. chooses-not d mid.rest g (sign-stands sign_is.Question mid.rest h)))
]

pub conditional-parses : (d : ℕ) (deeper : Parsers) → ((c : Cursor) → Outcome (inner_expression 0 d) c (deeper.whole c))
    → ((c : Cursor) → Outcome (inner_expression 2 d) c (deeper.conditional c)) → ((c : Cursor) → Outcome (expression 3 d) c (chain_by 10 (cast_by d deeper) c))
    → (c : Cursor) → Outcome (expression 2 d) c (conditional_by d deeper c)
unfolding conditional_by
conditional-parses d deeper whole conditional chain c =
    bind (expression 2 d) (expression 3 d) c c (chain_by 10 (cast_by d deeper) c) (λ x. chosen_by d deeper x.0 x.1) (chain c)
    (λ x to found. chosen-parses d deeper whole conditional c to x found)
    (λ last fails. record { from = fails.from; within = fails.within; none = λ y k is ends same. none-chosen d c y k last fails is ends same })
