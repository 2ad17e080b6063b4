-- Assignments.
use Rattle.std.proofs.Common.{◌≡◌, ℕ, zero, suc, ◌+◌, ◌≤◌, nat_lt, if◌then◌else◌, IsTrue, inl, inr, true, false}
use Rattle.std.proofs.Common.{◌∷◌, ◌++◌, length, Option, Some, None, Ok, refl, sym, ap, ◌∙◌, subst, append_assoc, length-append, arith}
use Rattle.std.proofs.lemmas.Bool.{cases_lt, cases_Bool}
use Rattle.base_lists.proofs.Numbers.{suc_zero_test}
use Rattle.c_syntax.specs.declared.token.Sign.{Sign}
use Rattle.c_syntax.specs.declared.token.Sign.TheVariants as sign_is
use Rattle.c_syntax.specs.declared.token.TokenKind.TheVariants as kind
use Rattle.c_syntax.specs.ExprTree as e
use Rattle.c_syntax.specs.Words.{ExprTree, Kinds, a_sign, expr_kinds, expression_rank, is_assignment, ExprAt}
use Rattle.c_parser_expressions.specs.Reading.{Cursor, SameUpTo, Found, Fails, Outcome, next_cursor, kinds_behind_first, sign_at}
use Rattle.c_parser_expressions.specs.Expressions.{expression, IsExpr, inner_expression, IsInner, EndsAt, sign_binds}
use Rattle.c_parser_expressions.specs.ExpressionParser.{Parsers, conditional_by, assignment_sign_of, assignment_sign, assigning_by, assigned_of, assigned_by}
use Rattle.c_parser_expressions.specs.ExpressionParser.{assignment_by}
use Rattle.c_parser_expressions.proofs.Heads.{sign-head, same-sign}
use Rattle.c_parser_expressions.proofs.Laws.{Leads, bind, finish}
use Rattle.c_parser_expressions.proofs.Primary.{ends-more}
use Rattle.c_parser_expressions.proofs.Choices.{after-same, ended-by}

assignment-binds : (s : Sign) → IsTrue (is_assignment s) → sign_binds s ≡ 2
assignment-binds sign_is.Equal h = refl
assignment-binds sign_is.StarEqual h = refl
assignment-binds sign_is.SlashEqual h = refl
assignment-binds sign_is.PercentEqual h = refl
assignment-binds sign_is.PlusEqual h = refl
assignment-binds sign_is.MinusEqual h = refl
assignment-binds sign_is.ShiftLeftEqual h = refl
assignment-binds sign_is.ShiftRightEqual h = refl
assignment-binds sign_is.AndEqual h = refl
assignment-binds sign_is.XorEqual h = refl
assignment-binds sign_is.OrEqual h = refl
assignment-binds _ h = let no_yes : false ≡ true = h in cc

assign-spelled : (x y k : Kinds) (s : Sign) → ((x ++ a_sign s) ++ y) ++ k ≡ x ++ (kind.Punctuator s ∷ (y ++ k))
assign-spelled x y k s = simp append_assoc

-- an assignment's target is what was read
target-is : (d : ℕ) (c mid : Cursor) (x : ExprTree) (t : ℕ) (s : Sign) (u v : ExprTree) (k : Kinds) (last : ℕ) → Found (expression 2 d) c x mid
    → IsExpr 1 d c.at (e.Assign t s u v) → mid.at ≤ last
    → SameUpTo last c.at c.rest (expr_kinds (e.Assign t s u v) ++ k) → (u ≡ x) × (sign_at mid.rest ≡ Some s)
target-is d c mid x t s u v k last f is le same =
    let nests = is.nests in
    let r = is.shaped.1 in
    let s1 : SameUpTo last c.at c.rest (expr_kinds u ++ (kind.Punctuator s ∷ (expr_kinds v ++ k))) =
    subst (λ (q : Kinds). SameUpTo last c.at c.rest q) (assign-spelled (expr_kinds u) (expr_kinds v) k s) same in
    let binds_2 : sign_binds s ≡ 2 = assignment-binds s is.shaped.0 in
    let one : u ≡ x =
    f.only u (kind.Punctuator s ∷ (expr_kinds v ++ k)) last (record {
      ranks = omega arith;
      shaped = is.shaped.2;
      nests = omega arith;
      placed = is.placed.1;
    }) (record { by = omega arith }) le s1 in
    let s2 =
    after-same 2 d c mid x (kind.Punctuator s ∷ (expr_kinds v ++ k)) last f le
    (subst (λ (q : ExprTree). SameUpTo last c.at c.rest (expr_kinds q ++ (kind.Punctuator s ∷ (expr_kinds v ++ k)))) one s1) in
    (one, same-sign last mid.at mid.rest (expr_kinds v ++ k) s s2)

assign-other : (d : ℕ) (c mid : Cursor) (x y : ExprTree) (s : Sign) (k : Kinds) (last : ℕ) → Found (expression 2 d) c x mid → sign_at mid.rest ≡ Some s
    → IsTrue (is_assignment s) → IsExpr 2 d c.at y → EndsAt 1 k → mid.at ≤ last
    → SameUpTo last c.at c.rest (expr_kinds y ++ k) → ⊥
assign-other d c mid x y s k last f h assigns is ends le same =
    let binds_2 : sign_binds s ≡ 2 = assignment-binds s assigns in
    ended-by 2 d 1 c mid x y s k last f (f.only y k last is (ends-more 1 2 k (omega arith) ends) le same) h (omega arith) ends le same

up : (d at : ℕ) (y : ExprTree) → 2 ≤ expression_rank y → IsExpr 1 d at y → IsExpr 2 d at y
up d at y r is = record { ranks = r; shaped = is.shaped; nests = is.nests; placed = is.placed }

assign-back : (d : ℕ) (c mid : Cursor) (x y : ExprTree) (s : Sign) (k : Kinds) (last : ℕ) → Found (expression 2 d) c x mid → sign_at mid.rest ≡ Some s
    → IsTrue (is_assignment s) → IsExpr 1 d c.at y → EndsAt 1 k → mid.at + 1 ≤ last
    → SameUpTo last c.at c.rest (expr_kinds y ++ k) → (v : ExprTree) × (y ≡ e.Assign mid.at s x v) × IsInner 1 d (mid.at + 1) v
assign-back d c mid x (e.Assign t s1 u v) s k last f h assigns is ends le same =
    let nests = is.nests in
    let both = target-is d c mid x t s1 u v k last f is (omega arith) same in
    let one : u ≡ x = both.0 in
    let here : t ≡ mid.at = is.placed.0 ∙ ap (λ (q : ExprTree). c.at + length (expr_kinds q)) one ∙ sym f.moved in
    let signs : Some s1 ≡ Some s = sym both.1 ∙ h in
    let sign : s1 ≡ s = cc in
    (v, cc, record { ranks = is.shaped.3; shaped = is.shaped.4; nests = omega arith; placed = subst (λ (n : ℕ). ExprAt (n + 1) v) here is.placed.2 })
assign-back d c mid x (e.Comma t xs) s k last f h assigns is ends le same = let r = is.ranks in absurd (omega arith)
assign-back d c mid x (e.Chain l u ls) s k last f h assigns is ends le same =
    absurd (assign-other d c mid x (e.Chain l u ls) s k last f h assigns (up d c.at (e.Chain l u ls) (omega arith) is) ends (omega arith) same)
assign-back d c mid x y s k last f h assigns is ends le same =
    absurd (assign-other d c mid x y s k last f h assigns (up d c.at y (omega arith) is) ends (omega arith) same)

assign-leads : (d : ℕ) (c mid : Cursor) (x : ExprTree) (s : Sign) → Found (expression 2 d) c x mid → sign_at mid.rest ≡ Some s → IsTrue (is_assignment s)
    → 14 ≤ expression_rank x → Leads (expression 1 d) (inner_expression 1 d) c (next_cursor mid) (e.Assign mid.at s x)
assign-leads d c mid x s f h assigns unary =
    let moved = f.moved in
    let whole : mid.rest ≡ kind.Punctuator s ∷ kinds_behind_first mid.rest = sign-head mid.rest s h in
    record {
      front = expr_kinds x ++ a_sign s;
      whole = f.spelled ∙ ap (λ (v : Kinds). expr_kinds x ++ v) whole ∙ sym (append_assoc (expr_kinds x) (a_sign s) (kinds_behind_first mid.rest));
      moved = omega (arith, length-append (expr_kinds x) (a_sign s));
      build = λ v is. (let n0 = f.is.nests in let n1 = is.nests in
          record {
            ranks = omega arith;
            shaped = (assigns, unary, f.is.shaped, is.ranks, is.shaped);
            nests = omega arith;
            placed = (f.moved, f.is.placed, is.placed);
          });
      spelled = λ v. refl;
      back = λ y k last is ends le same. (let b = assign-back d c mid x y s k last f h assigns is ends le same in (b.0, b.1, b.2, ends));
    }

-- nothing is assigned to what was read
alone-only : (d : ℕ) (c mid : Cursor) (x y : ExprTree) (k : Kinds) (last : ℕ) → Found (expression 2 d) c x mid
    → ((s : Sign) → sign_at mid.rest ≡ Some s → IsTrue (is_assignment s) → 14 ≤ expression_rank x → d ≡ 0) → IsExpr 1 d c.at y → EndsAt 1 k → mid.at ≤ last
    → SameUpTo last c.at c.rest (expr_kinds y ++ k) → y ≡ x
alone-only d c mid x (e.Assign t s u v) k last f other is ends le same =
    let nests = is.nests in
    let both = target-is d c mid x t s u v k last f is le same in
    let unary : 14 ≤ expression_rank x = subst (λ (q : ExprTree). 14 ≤ expression_rank q) both.0 is.shaped.1 in
    let flat : d ≡ 0 = other s both.1 is.shaped.0 unary in
    absurd (omega arith)
alone-only d c mid x (e.Comma t xs) k last f other is ends le same = let r = is.ranks in absurd (omega arith)
alone-only d c mid x (e.Chain l u ls) k last f other is ends le same =
    f.only (e.Chain l u ls) k last (up d c.at (e.Chain l u ls) (omega arith) is) (ends-more 1 2 k (omega arith) ends) le same
alone-only d c mid x y k last f other is ends le same = f.only y k last (up d c.at y (omega arith) is) (ends-more 1 2 k (omega arith) ends) le same

alone : (d : ℕ) (c mid : Cursor) (x : ExprTree) → Found (expression 2 d) c x mid
    → ((s : Sign) → sign_at mid.rest ≡ Some s → IsTrue (is_assignment s) → 14 ≤ expression_rank x → d ≡ 0) → Found (expression 1 d) c x mid
alone d c mid x f other =
    let r = f.is.ranks in
    record {
      is = record { ranks = omega arith; shaped = f.is.shaped; nests = f.is.nests; placed = f.is.placed };
      spelled = f.spelled;
      moved = f.moved;
      only = λ y k last is ends le same. alone-only d c mid x y k last f other is ends le same;
    }

none-assigned : (d : ℕ) (c : Cursor) (y : ExprTree) (k : Kinds) (last : ℕ) → Fails (expression 2 d) c last → IsExpr 1 d c.at y → EndsAt 1 k
    → SameUpTo last c.at c.rest (expr_kinds y ++ k) → ⊥
none-assigned d c (e.Assign t s u v) k last f is ends same =
    let nests = is.nests in
    let r = is.shaped.1 in
    let binds_2 : sign_binds s ≡ 2 = assignment-binds s is.shaped.0 in
    f.none u (kind.Punctuator s ∷ (expr_kinds v ++ k)) (record { ranks = omega arith; shaped = is.shaped.2; nests = omega arith; placed = is.placed.1 })
    (record { by = omega arith })
    (subst (λ (q : Kinds). SameUpTo last c.at c.rest q) (assign-spelled (expr_kinds u) (expr_kinds v) k s) same)
none-assigned d c (e.Comma t xs) k last f is ends same = let r = is.ranks in omega arith
none-assigned d c (e.Chain l u ls) k last f is ends same =
    f.none (e.Chain l u ls) k (up d c.at (e.Chain l u ls) (omega arith) is) (ends-more 1 2 k (omega arith) ends) same
none-assigned d c y k last f is ends same = f.none y k (up d c.at y (omega arith) is) (ends-more 1 2 k (omega arith) ends) same

-- what the sign says
sign-of : (o : Option Sign) (s : Sign) → assignment_sign_of o ≡ Some s → (o ≡ Some s) × IsTrue (is_assignment s)
sign-of None s h = cc
sign-of (Some t) s h = elim (cases_Bool (is_assignment t)) [
  | inl y ↦ (let e : assignment_sign_of (Some t) ≡ Some t = rw y refl in let same : Some t ≡ Some s = sym e ∙ h in let one : t ≡ s = cc in
      (same, subst (λ (q : Sign). is_assignment q ≡ true) one y))
  | inr f ↦ (let e : assignment_sign_of (Some t) ≡ None = rw f refl in let n : None ≡ Some s = sym e ∙ h in cc)
]

sign-not : (o : Option Sign) (s : Sign) → o ≡ Some s → IsTrue (is_assignment s) → assignment_sign_of o ≡ None → ⊥
sign-not o s h assigns none =
    let t : is_assignment s ≡ true = assigns in
    let e : assignment_sign_of (Some s) ≡ Some s = rw t refl in
    let both : Some s ≡ None = sym e ∙ sym (ap assignment_sign_of h) ∙ none in cc

pub assigns-some : (d : ℕ) (x : ExprTree) (k : Kinds) (s : Sign) → assignment_sign d x k ≡ Some s
    → (14 ≤ expression_rank x) × ((sign_at k ≡ Some s) × IsTrue (is_assignment s))
unfolding assignment_sign
assigns-some zero x k s h = cc
assigns-some (suc n) x k s h =
    let e : if◌then◌else◌ (nat_lt (expression_rank x) 14) None (assignment_sign_of (sign_at k)) ≡ Some s = rw (suc_zero_test n) at h in
    elim (cases_lt (expression_rank x) 14) [
      | inl low ↦ (let t : nat_lt (expression_rank x) 14 ≡ true = grind arith in let none : None ≡ Some s = rw t at e in cc)
      | inr high ↦ (let f : nat_lt (expression_rank x) 14 ≡ false = grind arith in let some : assignment_sign_of (sign_at k) ≡ Some s = rw f at e in
          (high, sign-of (sign_at k) s some))
    ]

assigns-none : (d : ℕ) (x : ExprTree) (k : Kinds) (s : Sign) → assignment_sign d x k ≡ None → sign_at k ≡ Some s → IsTrue (is_assignment s) → 14 ≤ expression_rank x
    → d ≡ 0
unfolding assignment_sign
assigns-none zero x k s h at_s assigns unary = refl
assigns-none (suc n) x k s h at_s assigns unary =
    let e : if◌then◌else◌ (nat_lt (expression_rank x) 14) None (assignment_sign_of (sign_at k)) ≡ None = rw (suc_zero_test n) at h in
    let f : nat_lt (expression_rank x) 14 ≡ false = grind arith in
    let none : assignment_sign_of (sign_at k) ≡ None = rw f at e in
    absurd (sign-not (sign_at k) s at_s assigns none)

assigning-parses : (d : ℕ) (deeper : Parsers) → ((c : Cursor) → Outcome (inner_expression 1 d) c (deeper.assignment c)) → (c mid : Cursor) (x : ExprTree) (s : Sign)
    → Found (expression 2 d) c x mid → sign_at mid.rest ≡ Some s → IsTrue (is_assignment s) → 14 ≤ expression_rank x
    → Outcome (expression 1 d) c (assigning_by deeper x s mid)
unfolding assigning_by
assigning-parses d deeper o c mid x s f h assigns unary =
    finish (expression 1 d) (inner_expression 1 d) c (next_cursor mid) (e.Assign mid.at s x) (deeper.assignment (next_cursor mid)) (assign-leads d c mid x s f h assigns unary)
    (o (next_cursor mid))

assigned-of-parses : (d : ℕ) (deeper : Parsers) → ((c : Cursor) → Outcome (inner_expression 1 d) c (deeper.assignment c))
    → (c mid : Cursor) (x : ExprTree) (o : Option Sign) → Found (expression 2 d) c x mid → assignment_sign d x mid.rest ≡ o
    → Outcome (expression 1 d) c (assigned_of (λ s. assigning_by deeper x s mid) (Ok (x, mid)) o)
assigned-of-parses d deeper o c mid x None f h = alone d c mid x f (λ s at_s assigns unary. assigns-none d x mid.rest s h at_s assigns unary)
assigned-of-parses d deeper o c mid x (Some s) f h = let b = assigns-some d x mid.rest s h in assigning-parses d deeper o c mid x s f b.1.0 b.1.1 b.0

assigned-parses : (d : ℕ) (deeper : Parsers) → ((c : Cursor) → Outcome (inner_expression 1 d) c (deeper.assignment c)) → (c mid : Cursor) (x : ExprTree)
    → Found (expression 2 d) c x mid → Outcome (expression 1 d) c (assigned_by d deeper x mid)
unfolding assigned_by
assigned-parses d deeper o c mid x f = assigned-of-parses d deeper o c mid x (assignment_sign d x mid.rest) f refl

pub assignment-parses : (d : ℕ) (deeper : Parsers) → ((c : Cursor) → Outcome (inner_expression 1 d) c (deeper.assignment c))
    → ((c : Cursor) → Outcome (expression 2 d) c (conditional_by d deeper c)) → (c : Cursor) → Outcome (expression 1 d) c (assignment_by d deeper c)
unfolding assignment_by
assignment-parses d deeper o conditional c =
    bind (expression 1 d) (expression 2 d) c c (conditional_by d deeper c) (λ x. assigned_by d deeper x.0 x.1) (conditional c)
    (λ x to found. assigned-parses d deeper o c to x found)
    (λ last fails. record { from = fails.from; within = fails.within; none = λ y k is ends same. none-assigned d c y k last fails is ends same })
