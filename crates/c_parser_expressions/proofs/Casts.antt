-- Casts.
use Rattle.std.proofs.Common.{◌≡◌, ℕ, zero, suc, ◌+◌, ◌≤◌, ◌<◌, ◌==◌, if◌then◌else◌, inl, inr, true, false, [], ◌∷◌, ◌++◌, length}
use Rattle.std.proofs.Common.{Some, Ok, Err, refl, sym, ap, ◌∙◌, subst, append_assoc, length-append, arith}
use Rattle.std.proofs.lemmas.Bool.{cases_Bool, cases_lt}
use Rattle.base_lists.proofs.Numbers.{suc_zero_test}
use Rattle.c_syntax.specs.declared.token.Sign.TheVariants as sign_is
use Rattle.c_syntax.specs.declared.token.TokenKind.TheVariants as kind
use Rattle.c_syntax.specs.declared.parts.Base.{Base}
use Rattle.c_syntax.specs.ExprTree as e
use Rattle.c_syntax.specs.Words.{ExprTree, Kinds, a_sign, expr_kinds, type_kinds, base_kinds, star_kinds, expr_nesting, ExprAt}
use Rattle.c_parser_expressions.specs.Reading.{Cursor, SameUpTo, Rule, Found, Fails, Read, Outcome, kinds_behind_first, next_cursor, sign_at, sequence_rule, rule_before_sign}
use Rattle.c_parser_expressions.specs.Marks.{begins_with_sign}
use Rattle.c_parser_expressions.specs.Steps.{◌>>=◌}
use Rattle.c_parser_expressions.specs.Expressions.{IsExpr, expression, inner_expression, type_name}
use Rattle.c_parser_expressions.specs.ExpressionParser.{Parsers, begins_type, opens_type, closed_type, unary_by, casting_by, cast_by}
use Rattle.c_parser_expressions.proofs.Heads.{sign-head, same-sign, stands-sign, sign-stands}
use Rattle.c_parser_expressions.proofs.Laws.{same-all, Leads, leads-here, leads-outcome, part, finish}
use Rattle.c_parser_expressions.proofs.Tokens.{fails-here}
use Rattle.c_parser_expressions.proofs.TypeNames.{base-begins, closed-type-parses}
use Rattle.c_parser_expressions.proofs.Starts.{starts-expr, chain-low}
use Rattle.c_parser_expressions.proofs.Primary.{ends-more}
use Rattle.c_parser_expressions.proofs.Unary.{narrows-outcome, paren-second, paren-deep, type-no_start, opens-both, opens-not, some-token}

abbrev Cast : (d : ℕ) → Rule ((Base × ℕ) × ExprTree)
Cast d = sequence_rule (rule_before_sign (type_name d) sign_is.RightParen) (λ t. inner_expression 13 d)

cast-at : (at n : ℕ) (b : Base) → at + 1 + length (type_kinds b n) + 1 ≡ at + 1 + length (type_kinds b n ++ a_sign sign_is.RightParen)
cast-at at n b = omega (arith, length-append (type_kinds b n) (a_sign sign_is.RightParen))

cast-within : (d at last : ℕ) (ks k : Kinds) (x : ExprTree) → begins_type ks ≡ true → at < last → IsExpr 13 d at x
    → SameUpTo last at (kind.Punctuator sign_is.LeftParen ∷ ks) (expr_kinds x ++ k)
    → (p : (Base × ℕ) × ExprTree) × (x ≡ e.Cast at p.0.0 p.0.1 p.1) × (Cast d).Is (at + 1) p
cast-within d at last ks k (e.Cast t b n y) begins below is same =
    let nests = is.nests in (
      ((b, n), y),
      ap (λ (m : ℕ). e.Cast m b n y) is.placed.0,
      (
        (is.placed.1, (let few : n ≤ d = omega arith in few)),
        record { ranks = is.shaped.0; shaped = is.shaped.1; nests = omega arith; placed = subst (λ (m : ℕ). ExprAt m y) (cast-at at n b) is.placed.2 },
      ),
    )
cast-within d at last ks k (e.Chain l x ls) begins below is same = let r = is.ranks in absurd (chain-low l x ls (omega arith) is.shaped)
cast-within d at last ks k (e.Comma token xs) begins below is same = let r = is.ranks in absurd (omega arith)
cast-within d at last ks k (e.Assign token s x y) begins below is same = let r = is.ranks in absurd (omega arith)
cast-within d at last ks k (e.Conditional token x y z) begins below is same = let r = is.ranks in absurd (omega arith)
cast-within d at last ks k x begins below is same = absurd (type-no_start ks begins (paren-second x last at ks k (omega arith) is.shaped below same))

cast-leads : (d : ℕ) (c : Cursor) → sign_at c.rest ≡ Some sign_is.LeftParen → begins_type (kinds_behind_first c.rest) ≡ true
    → Leads (expression 13 d) (Cast d) c (next_cursor c) (λ p. e.Cast c.at p.0.0 p.0.1 p.1)
cast-leads d c h begins =
    let whole : c.rest ≡ kind.Punctuator sign_is.LeftParen ∷ kinds_behind_first c.rest = sign-head c.rest sign_is.LeftParen h in
    record {
      front = a_sign sign_is.LeftParen;
      whole = whole;
      moved = refl;
      build = λ p is. (let n0 = is.0.1 in let n1 = is.1.nests in
          record {
            ranks = omega arith;
            shaped = (is.1.ranks, is.1.shaped);
            nests = omega arith;
            placed = (refl, is.0.0, subst (λ (m : ℕ). ExprAt m p.1) (sym (cast-at c.at p.0.1 p.0.0)) is.1.placed);
          });
      spelled = λ p. refl;
      back = λ x k last is ends le same.
          (let w = cast-within d c.at last (kinds_behind_first c.rest) k x begins (omega arith) is
          (subst (λ (v : Kinds). SameUpTo last c.at v (expr_kinds x ++ k)) whole same) in
          (w.0, w.1, w.2, ends));
    }

-- where nothing may nest, nothing begins with a parenthesis
flat-paren : (c : Cursor) (x : ExprTree) (k : Kinds) (last : ℕ) → sign_at c.rest ≡ Some sign_is.LeftParen → IsExpr 13 0 c.at x
    → SameUpTo last c.at c.rest (expr_kinds x ++ k) → ⊥
flat-paren c x k last h is same =
    let deep : 1 ≤ expr_nesting x =
    paren-deep x last c.at (kinds_behind_first c.rest) k is.ranks is.shaped (subst (λ (v : Kinds). SameUpTo last c.at v (expr_kinds x ++ k))
    (sign-head c.rest sign_is.LeftParen h) same) in
    let nests = is.nests in
    omega arith

casting-parses : (d : ℕ) (deeper : Parsers) → ((c : Cursor) → Outcome (inner_expression 13 d) c (deeper.cast c)) → (c : Cursor) → sign_at c.rest ≡ Some sign_is.LeftParen
    → begins_type (kinds_behind_first c.rest) ≡ true → Outcome (expression 13 d) c (casting_by d deeper c)
unfolding casting_by
casting-parses d deeper o c h begins =
    part (expression 13 d) (rule_before_sign (type_name d) sign_is.RightParen) (λ t. inner_expression 13 d) c (next_cursor c) (λ p. e.Cast c.at p.0.0 p.0.1 p.1)
    (closed_type d (next_cursor c))
    (λ t. deeper.cast t.1 >>= (λ x. Ok (e.Cast c.at t.0.0 t.0.1 x.0, x.1))) (λ at v y k v_is y_is ends. record {}) (cast-leads d c h begins)
    (closed-type-parses d (next_cursor c))
    (λ t to found l. finish (expression 13 d) (inner_expression 13 d) c to (λ x. e.Cast c.at t.0 t.1 x) (deeper.cast to) l (o to))

-- no cast begins without a parenthesis
plain-narrows : (d : ℕ) (c : Cursor) → (sign_at c.rest ≡ Some sign_is.LeftParen → ⊥) → (x : ExprTree) (k : Kinds) (last : ℕ) → IsExpr 13 d c.at x
    → SameUpTo last c.at c.rest (expr_kinds x ++ k) → IsExpr 14 d c.at x
plain-narrows d c other (e.Cast t b n y) k last is same = absurd (other (same-sign last c.at c.rest _ sign_is.LeftParen same))
plain-narrows d c other (e.Chain l x ls) k last is same = let r = is.ranks in absurd (chain-low l x ls (omega arith) is.shaped)
plain-narrows d c other x k last is same = let r = is.ranks in record { ranks = omega arith; shaped = is.shaped; nests = is.nests; placed = is.placed }

-- nor where no type follows it
cast-rest : (b : Base) (n : ℕ) (x k : Kinds)
    → (((base_kinds b ++ star_kinds n) ++ a_sign sign_is.RightParen) ++ x) ++ k ≡ base_kinds b ++ (((star_kinds n ++ a_sign sign_is.RightParen) ++ x) ++ k)
cast-rest b n x k =
    ap (λ (v : Kinds). (v ++ x) ++ k) (append_assoc (base_kinds b) (star_kinds n) (a_sign sign_is.RightParen)) ∙ ap (λ (v : Kinds). v ++ k)
    (append_assoc (base_kinds b) (star_kinds n ++ a_sign sign_is.RightParen) x)
    ∙ append_assoc (base_kinds b) ((star_kinds n ++ a_sign sign_is.RightParen) ++ x) k

type-follows : (last at : ℕ) (ks k : Kinds) (t n : ℕ) (b : Base) (y : ExprTree) → at < last
    → SameUpTo last at (kind.Punctuator sign_is.LeftParen ∷ ks) (expr_kinds (e.Cast t b n y) ++ k) → begins_type ks ≡ true
type-follows last at ks k t n b y below same =
    let rest = same.1 below in
    base-begins last (at + 1) ks (((star_kinds n ++ a_sign sign_is.RightParen) ++ expr_kinds y) ++ k) b
    (subst (λ (v : Kinds). SameUpTo last (at + 1) ks v) (cast-rest b n (expr_kinds y) k) rest)

paren-narrows : (d : ℕ) (c : Cursor) → sign_at c.rest ≡ Some sign_is.LeftParen → begins_type (kinds_behind_first c.rest) ≡ false → (x : ExprTree) (k : Kinds) (last : ℕ)
    → c.at + 1 ≤ last → IsExpr 13 d c.at x → SameUpTo last c.at c.rest (expr_kinds x ++ k) → IsExpr 14 d c.at x
paren-narrows d c h shut (e.Cast t b n y) k last le is same =
    let t : begins_type (kinds_behind_first c.rest) ≡ true =
    type-follows last c.at (kinds_behind_first c.rest) k t n b y (omega arith) (subst (λ (v : Kinds). SameUpTo last c.at v (expr_kinds (e.Cast t b n y) ++ k))
    (sign-head c.rest sign_is.LeftParen h) same) in cc
paren-narrows d c h shut (e.Chain l x ls) k last le is same = let r = is.ranks in absurd (chain-low l x ls (omega arith) is.shaped)
paren-narrows d c h shut x k last le is same = let r = is.ranks in record { ranks = omega arith; shaped = is.shaped; nests = is.nests; placed = is.placed }

widen : (d at : ℕ) (x : ExprTree) → IsExpr 14 d at x → IsExpr 13 d at x
widen d at x is = let r = is.ranks in record { ranks = omega arith; shaped = is.shaped; nests = is.nests; placed = is.placed }

unary-here : (d : ℕ) (c : Cursor) (r : Read ExprTree) → (sign_at c.rest ≡ Some sign_is.LeftParen → ⊥) → Outcome (expression 14 d) c r
    → Outcome (expression 13 d) c r
unary-here d c r other o =
    leads-outcome (expression 13 d) (expression 14 d) c c r
    (leads-here (expression 13 d) (expression 14 d) c (λ x. x) (λ x is. widen d c.at x is) (λ x. refl)
    (λ x k last is ends le same. (x, refl, plain-narrows d c other x k last is same, ends-more 13 14 k (omega arith) ends)))
    o

expr-far : (d : ℕ) (c to : Cursor) (x : ExprTree) → Found (expression 14 d) c x to → c.at + 1 ≤ to.at
expr-far d c to x f =
    let some : 1 ≤ length (expr_kinds x) = some-token (expr_kinds x) (starts-expr x f.is.shaped) in
    let moved = f.moved in
    omega arith

paren-may : (d : ℕ) (c : Cursor) (last : ℕ) → 1 ≤ d → sign_at c.rest ≡ Some sign_is.LeftParen → Fails (expression 14 d) c last → last < c.at + 1 → ⊥
paren-may d c last deep h f early =
    let y : ExprTree = e.Paren c.at (e.Null (c.at + 1)) in
    f.none y [] (record { ranks = omega arith; shaped = tt; nests = omega arith; placed = (refl, refl) }) (record { by = omega arith })
    (subst (λ (v : Kinds). SameUpTo last c.at v (expr_kinds y ++ [])) (sym (sign-head c.rest sign_is.LeftParen h)) (refl, λ below. absurd (omega arith)))

paren-late : (d : ℕ) (c : Cursor) (last : ℕ) → 1 ≤ d → sign_at c.rest ≡ Some sign_is.LeftParen → Fails (expression 14 d) c last → c.at + 1 ≤ last
paren-late d c last deep h f = elim (cases_lt last (c.at + 1)) [ inl early ↦ absurd (paren-may d c last deep h f early) | inr late ↦ late ]

flat-unary : (c : Cursor) (r : Read ExprTree) → sign_at c.rest ≡ Some sign_is.LeftParen → Outcome (expression 14 0) c r → Outcome (expression 13 0) c r
flat-unary c (Ok p) h o =
    absurd (flat-paren c p.0 p.1.rest p.1.at h (widen 0 c.at p.0 o.is) (subst (λ (v : Kinds). SameUpTo p.1.at c.at c.rest v) o.spelled
    (same-all p.1.at c.at c.rest)))
flat-unary c (Err i) h o = record { from = o.from; within = o.within; none = λ x k is ends same. flat-paren c x k i h is same }

unary-paren : (d : ℕ) (c : Cursor) (r : Read ExprTree) → sign_at c.rest ≡ Some sign_is.LeftParen → begins_type (kinds_behind_first c.rest) ≡ false
    → Outcome (expression 14 d) c r → Outcome (expression 13 d) c r
unary-paren zero c r h shut o = flat-unary c r h o
unary-paren (suc n) c r h shut o =
    narrows-outcome (expression 13 (suc n)) (expression 14 (suc n)) c (c.at + 1) r
    (record {
      build = λ x is. widen (suc n) c.at x is;
      spelled = λ x. refl;
      back = λ x k last is ends le same.
          (paren-narrows (suc n) c h shut x k last le is same, ends-more 13 14 k (omega arith) ends);
    })
    (λ x to found. expr-far (suc n) c to x found) (λ last fails. paren-late (suc n) c last (omega arith) h fails) o

unary-instead : (d : ℕ) (c : Cursor) (r : Read ExprTree) → opens_type c.rest ≡ false → Outcome (expression 14 d) c r → Outcome (expression 13 d) c r
unary-instead d c r shut o = elim (cases_Bool (begins_with_sign sign_is.LeftParen c.rest)) [
  | inl t ↦ (let p = stands-sign sign_is.LeftParen c.rest (omega arith) t in unary-paren d c r p (opens-not c.rest shut p) o)
  | inr f ↦ unary-here d c r (λ p. let t = sign-stands sign_is.LeftParen c.rest p in cc) o
]

cast-here : (d : ℕ) (deeper : Parsers) → ((c : Cursor) → Outcome (inner_expression 13 d) c (deeper.cast c)) → (c : Cursor) → opens_type c.rest ≡ true
    → Outcome (expression 13 d) c (if◌then◌else◌ (d == 0) (Err c.at) (casting_by d deeper c))
cast-here zero deeper o c t = fails-here (expression 13 0) c (λ x k is ends same. flat-paren c x k c.at (opens-both c.rest t).0 is same)
cast-here (suc n) deeper o c t = rw (suc_zero_test n) (let both = opens-both c.rest t in casting-parses (suc n) deeper o c both.0 both.1)

pub cast-parses : (d : ℕ) (deeper : Parsers) → ((c : Cursor) → Outcome (inner_expression 13 d) c (deeper.cast c))
    → ((c : Cursor) → Outcome (expression 14 d) c (unary_by d deeper c)) → (c : Cursor) → Outcome (expression 13 d) c (cast_by d deeper c)
unfolding cast_by
cast-parses d deeper o unary c = elim (cases_Bool (opens_type c.rest)) [
  | inl t ↦ rw t (cast-here d deeper o c t)
  | inr f ↦ rw f (unary-instead d c (unary_by d deeper c) f (unary c))
]
