-- Expressions that no operator joins.
use Rattle.std.proofs.Common.{◌≡◌, ℕ, zero, suc, ◌+◌, ◌≤◌, ◌<◌, ℤ, inl, inr, Bool, true, false, List, [], ◌∷◌, ◌++◌, length, Option, Some}
use Rattle.std.proofs.Common.{None, Ok, Err, refl, sym, ap, ◌∙◌, subst, arith}
use Rattle.std.proofs.lemmas.Bool.{cases_Bool}
use Rattle.base_lists.proofs.Numbers.{suc_zero_test}
use Rattle.cbi_base.specs.declared.scalar.Kind.{Kind}
use Rattle.c_syntax.specs.declared.token.Sign.{Sign}
use Rattle.c_syntax.specs.declared.token.Sign.TheVariants as sign_is
use Rattle.c_syntax.specs.declared.token.Word.TheVariants as word_is
use Rattle.c_syntax.specs.declared.token.TokenKind.{TokenKind}
use Rattle.c_syntax.specs.declared.token.TokenKind.TheVariants as kind
use Rattle.c_syntax.specs.ExprTree as e
use Rattle.c_syntax.specs.Words.{ExprTree, ExprList, expr_list, Kinds, a_sign, expr_kinds, exprs_kinds, more_exprs_kinds, text_kinds, expression_rank}
use Rattle.c_syntax.specs.Words.{HasExpr, ShapedExpr, ShapedExprs, exprs_nesting, arguments_nesting, ExprAt, ExprsAt}
use Rattle.c_parser_expressions.specs.Reading.{Cursor, SameUpTo, Rule, Found, Fails, Read, Outcome, first_kind, kinds_behind_first, next_cursor, sign_at, name_at, text_at, sequence_rule, rule_before_sign}
use Rattle.c_parser_expressions.specs.Marks.{begins_with_sign}
use Rattle.c_parser_expressions.specs.Steps.{◌>>=◌, with_front, all_of, the_sign, the_name}
use Rattle.c_parser_expressions.specs.Expressions.{kind_binds, EndsAt, IsExpr, expression, IsInner, inner_expression, AreMore, more_expressions, AreExprs, expressions}
use Rattle.c_parser_expressions.specs.Expressions.{AreArguments, arguments, string_parts}
use Rattle.c_parser_expressions.specs.ExpressionParser.{Parsers, closed_by, paren_by, comma_step, more_by, list_by, closed_list, arguments_by, call_by, named_at}
use Rattle.c_parser_expressions.specs.ExpressionParser.{named_by, text_read, text_step, strings_by, primary_of, primary_by}
use Rattle.c_parser_expressions.proofs.Heads.{sign-head, name-head, same-sign, stands-sign, sign-stands}
use Rattle.c_parser_expressions.proofs.Laws.{Leads, leads-here, leads-found, leads-fails, leads-trans, leads-outcome, seq-leads, seq-fails}
use Rattle.c_parser_expressions.proofs.Laws.{finish}
use Rattle.c_parser_expressions.proofs.Tokens.{token-found, fails-here, before-parses}
use Rattle.c_parser_expressions.proofs.Many.{Listing, StepIs, put, put_all, link-part, all-parses, all_more, listing-advances, Front, front_next, front_done}
use Rattle.c_parser_expressions.proofs.Starts.{StartsAt, starts-same, starts-more, starts-expr, first_of, begins_primary, primary-first}
use Rattle.c_parser_expressions.proofs.Starts.{primary-begins}

pub ends-more : (r s : ℕ) (k : Kinds) → r ≤ s → EndsAt r k → EndsAt s k
ends-more r s k le ends = let by = ends.by in record { by = omega arith }

pub first-head : (k : Kinds) (t : TokenKind) → first_kind k ≡ Some t → k ≡ t ∷ kinds_behind_first k
first-head [] t h = cc
first-head (x ∷ k) t h = let s : x ≡ t = cc in ap (λ (v : TokenKind). v ∷ k) s

-- what is first in the text is first in what agrees with it
pub expr-first : (d : ℕ) (c : Cursor) (t : TokenKind) (x : ExprTree) (k : Kinds) (last : ℕ) → first_kind c.rest ≡ Some t → IsExpr 16 d c.at x
    → SameUpTo last c.at c.rest (expr_kinds x ++ k) → first_of x ≡ Some t
expr-first d c t x k last h is same =
    primary-first x last c.at t (kinds_behind_first c.rest) k is.ranks is.shaped (subst (λ (v : Kinds). SameUpTo last c.at v (expr_kinds x ++ k))
    (first-head c.rest t h) same)

-- one token that is an expression
only-null : (at : ℕ) (x : ExprTree) → first_of x ≡ Some (kind.Word word_is.Null) → ExprAt at x → x ≡ e.Null at
only-null at (e.Null t) h p = ap e.Null p
only-null at (e.Strings t []) h p = cc
only-null at (e.Strings t (s ∷ ss)) h p = cc
only-null at _ h p = cc

only-eof : (at : ℕ) (x : ExprTree) → first_of x ≡ Some (kind.Word word_is.EndOfFile) → ExprAt at x → x ≡ e.EndOfFile at
only-eof at (e.EndOfFile t) h p = ap e.EndOfFile p
only-eof at (e.Strings t []) h p = cc
only-eof at (e.Strings t (s ∷ ss)) h p = cc
only-eof at _ h p = cc

only-constant : (at : ℕ) (c : Kind) (v : ℤ) (x : ExprTree) → first_of x ≡ Some (kind.Constant c v) → ExprAt at x → x ≡ e.Constant at c v
only-constant at c v (e.Constant t c1 v1) h p = let s : kind.Constant c1 v1 ≡ kind.Constant c v = cc in cc
only-constant at c v (e.Strings t []) h p = cc
only-constant at c v (e.Strings t (s ∷ ss)) h p = cc
only-constant at c v _ h p = cc

one-found : (d : ℕ) (c : Cursor) (t : TokenKind) (x : ExprTree) → first_kind c.rest ≡ Some t → IsExpr 16 d c.at x → expr_kinds x ≡ t ∷ []
    → ((y : ExprTree) → first_of y ≡ Some t → ExprAt c.at y → y ≡ x) → Found (expression 16 d) c x (next_cursor c)
one-found d c t x h is spelled only =
    token-found (expression 16 d) c t x is spelled (first-head c.rest t h)
    (λ y k last y_is ends le same. only y (expr-first d c t y k last h y_is same) y_is.placed)

-- parentheses
abbrev Within : (d at : ℕ) (x : ExprTree) → Type 0
Within d at x = (y : ExprTree) × (x ≡ e.Paren at y) × IsInner 0 d (at + 1) y

paren-within : (d at : ℕ) (x : ExprTree) → IsExpr 16 d at x → first_of x ≡ Some (kind.Punctuator sign_is.LeftParen) → Within d at x
paren-within d at (e.Paren t y) is h =
    let nests = is.nests in
    (y, ap (λ (n : ℕ). e.Paren n y) is.placed.0, record { ranks = omega arith; shaped = is.shaped; nests = omega arith; placed = is.placed.1 })
paren-within d at (e.Strings t []) is h = cc
paren-within d at (e.Strings t (s ∷ ss)) is h = cc
paren-within d at _ is h = cc

paren-leads : (d : ℕ) (c : Cursor) → sign_at c.rest ≡ Some sign_is.LeftParen → first_kind c.rest ≡ Some (kind.Punctuator sign_is.LeftParen)
    → Leads (expression 16 d) (rule_before_sign (inner_expression 0 d) sign_is.RightParen) c (next_cursor c) (e.Paren c.at)
paren-leads d c at_s h = record {
  front = a_sign sign_is.LeftParen;
  whole = sign-head c.rest sign_is.LeftParen at_s;
  moved = refl;
  build = λ y is. (let nests = is.nests in record { ranks = omega arith; shaped = is.shaped; nests = omega arith; placed = (refl, is.placed) });
  spelled = λ y. refl;
  back = λ x k last is ends le same.
      (let w : Within d c.at x = paren-within d c.at x is (expr-first d c (kind.Punctuator sign_is.LeftParen) x k last h is same) in
      (w.0, w.1, w.2, record {}));
}

-- where nothing may nest there are none
paren-flat : (c : Cursor) → first_kind c.rest ≡ Some (kind.Punctuator sign_is.LeftParen) → Fails (expression 16 0) c c.at
paren-flat c h = fails-here (expression 16 0) c (λ x k is ends same.
    (let w : Within 0 c.at x = paren-within 0 c.at x is (expr-first 0 c (kind.Punctuator sign_is.LeftParen) x k c.at h is same) in
    let nests = w.2.nests in
    absurd (omega arith)))

pub closes : (s : Sign) (k : Kinds) → kind_binds (kind.Punctuator s) ≡ 0 → EndsAt 0 (a_sign s ++ k)
closes s k h = record { by = omega arith }

pub closed-parses : (r : Rule ExprTree) (f : Cursor → Read ExprTree) → ((v : ExprTree) (k : Kinds) → r.Ends v (a_sign sign_is.RightParen ++ k))
    → ((c : Cursor) → Outcome r c (f c)) → (c : Cursor) → Outcome (rule_before_sign r sign_is.RightParen) c (closed_by f sign_is.RightParen c)
unfolding closed_by
closed-parses r f ends o c = before-parses r sign_is.RightParen c (f c) (omega arith) ends (o c)

paren-parses : (d : ℕ) (deeper : Parsers) → ((c : Cursor) → Outcome (inner_expression 0 d) c (deeper.whole c)) → (c : Cursor) → sign_at c.rest ≡ Some sign_is.LeftParen
    → first_kind c.rest ≡ Some (kind.Punctuator sign_is.LeftParen) → Outcome (expression 16 d) c (paren_by d deeper c)
unfolding paren_by
paren-parses zero deeper o c at_s h = paren-flat c h
paren-parses (suc n) deeper o c at_s h =
    rw (suc_zero_test n) (finish (expression 16 (suc n)) (rule_before_sign (inner_expression 0 (suc n)) sign_is.RightParen) c (next_cursor c) (e.Paren c.at)
    (closed_by deeper.whole sign_is.RightParen (next_cursor c)) (paren-leads (suc n) c at_s h)
    (closed-parses (inner_expression 0 (suc n)) deeper.whole (λ v k. closes sign_is.RightParen k refl) o (next_cursor c)))

-- expressions with commas before them
pub comma-follows : (d at : ℕ) (v : ExprTree) (y : ExprList) (k : Kinds) → IsExpr 1 d at v → AreMore d (at + length (expr_kinds v)) y → EndsAt 0 k
    → EndsAt 1 (more_exprs_kinds y ++ k)
comma-follows d at v e.no_exprs k v_is is ends = ends-more 0 1 k (omega arith) ends
comma-follows d at v (e.more_exprs x rest) k v_is is ends = record { by = omega arith }

comma-back : (d at last : ℕ) (ks k : Kinds) (xs : ExprList) → AreMore d at xs → EndsAt 0 k
    → SameUpTo last at (kind.Punctuator sign_is.Comma ∷ ks) (more_exprs_kinds xs ++ k)
    → (p : ExprTree × ExprList) × (xs ≡ e.more_exprs p.0 p.1) × (sequence_rule (expression 1 d) (λ x. more_expressions d)).Is (at + 1) p × EndsAt 0 k
comma-back d at last ks [] e.no_exprs is ends same = absurd same
comma-back d at last ks (t ∷ k) e.no_exprs is ends same =
    let b : kind_binds (kind.Punctuator sign_is.Comma) ≡ kind_binds t = ap kind_binds same.0 in
    let by = ends.by in
    absurd (omega arith)
comma-back d at last ks k (e.more_exprs x rest) is ends same =
    let nests = is.nests in (
      (x, rest),
      refl,
      (
        record { ranks = is.shaped.0; shaped = is.shaped.1; nests = omega arith; placed = is.placed.0 },
        record { shaped = is.shaped.2; nests = omega arith; placed = is.placed.1 },
      ),
      ends,
    )

comma-leads : (d : ℕ) (c : Cursor) → sign_at c.rest ≡ Some sign_is.Comma
    → Leads (more_expressions d) (sequence_rule (expression 1 d) (λ x. more_expressions d)) c (next_cursor c) (λ p. e.more_exprs p.0 p.1)
comma-leads d c h =
    let whole : c.rest ≡ kind.Punctuator sign_is.Comma ∷ kinds_behind_first c.rest = sign-head c.rest sign_is.Comma h in
    record {
      front = a_sign sign_is.Comma;
      whole = whole;
      moved = refl;
      build =
          λ p is. (let n0 = is.0.nests in let n1 = is.1.nests in record {
            shaped = (is.0.ranks, is.0.shaped, is.1.shaped);
            nests = omega arith;
            placed = (is.0.placed, is.1.placed);
          });
      spelled = λ p. refl;
      back =
          λ xs k last is ends le same. comma-back d c.at last (kinds_behind_first c.rest) k xs is ends
          (subst (λ (v : Kinds). SameUpTo last c.at v (more_exprs_kinds xs ++ k)) whole same);
    }

no-comma : (d : ℕ) (c : Cursor) (xs : ExprList) (k : Kinds) (last : ℕ) → (sign_at c.rest ≡ Some sign_is.Comma → ⊥)
    → SameUpTo last c.at c.rest (more_exprs_kinds xs ++ k) → xs ≡ e.no_exprs
no-comma d c e.no_exprs k last other same = refl
no-comma d c (e.more_exprs x rest) k last other same =
    absurd (other (same-sign last c.at c.rest ((expr_kinds x ++ more_exprs_kinds rest) ++ k) sign_is.Comma same))

more-none : (d : ℕ) (c : Cursor) → (sign_at c.rest ≡ Some sign_is.Comma → ⊥) → Found (more_expressions d) c e.no_exprs c
more-none d c other = record {
  is = record { shaped = tt; nests = omega arith; placed = tt };
  spelled = refl;
  moved = (let e : c.at ≡ c.at + length {A = TokenKind} [] = omega arith in e);
  only = λ xs k last is ends le same. no-comma d c xs k last other same;
}

pub behind-shorter : (k : Kinds) (s : Sign) → sign_at k ≡ Some s → length (kinds_behind_first k) < length k
behind-shorter [] s h = cc
behind-shorter (x ∷ xs) s h = omega arith

read-same : {A : Type 0} (r : Read A) → r >>= (λ p. Ok (p.0, p.1)) ≡ r
read-same (Ok p) = refl
read-same (Err i) = refl

comma-goes : (d : ℕ) (c : Cursor) (r : Read ExprTree) → sign_at c.rest ≡ Some sign_is.Comma → Outcome (expression 1 d) (next_cursor c) r
    → StepIs (more_expressions d) e.more_exprs e.no_exprs c (Some r)
comma-goes d c r h o =
    subst (λ (v : Read ExprTree). StepIs (more_expressions d) e.more_exprs e.no_exprs c (Some v)) (read-same r)
    (link-part (more_expressions d) (expression 1 d) c (next_cursor c) e.more_exprs e.no_exprs (λ x. x) r (comma-follows d) (comma-leads d c h)
    (behind-shorter c.rest sign_is.Comma h) o)

pub comma-listing : (d : ℕ) (item : Cursor → Read ExprTree) → ((c : Cursor) → Outcome (expression 1 d) c (item c))
    → Listing (more_expressions d) (comma_step item) e.more_exprs e.no_exprs
unfolding comma_step
comma-listing d item o = record {
  is = λ c. elim (cases_Bool (begins_with_sign sign_is.Comma c.rest)) [
    | inl t ↦ rw t (comma-goes d c (item (next_cursor c)) (stands-sign sign_is.Comma c.rest (omega arith) t) (o (next_cursor c)))
    | inr f ↦ rw f (more-none d c (λ e. let t = sign-stands sign_is.Comma c.rest e in cc))
  ];
}

-- a list's first expression, and the others
first-back : (d at : ℕ) (xs : ExprList) → AreExprs d at xs
    → (p : ExprTree × ExprList) × (xs ≡ e.more_exprs p.0 p.1) × (sequence_rule (expression 1 d) (λ x. more_expressions d)).Is at p
first-back d at e.no_exprs is = absurd is.some
first-back d at (e.more_exprs x rest) is =
    let nests = is.nests in (
      (x, rest),
      refl,
      (
        record { ranks = is.shaped.0; shaped = is.shaped.1; nests = omega arith; placed = is.placed.0 },
        record { shaped = is.shaped.2; nests = omega arith; placed = is.placed.1 },
      ),
    )

first-leads : (d : ℕ) (c : Cursor) → Leads (expressions d) (sequence_rule (expression 1 d) (λ x. more_expressions d)) c c (λ p. e.more_exprs p.0 p.1)
first-leads d c = leads-here (expressions d) (sequence_rule (expression 1 d) (λ x. more_expressions d)) c (λ p. e.more_exprs p.0 p.1)
    (λ p is. (let n0 = is.0.nests in let n1 = is.1.nests in record {
      some = tt;
      shaped = (is.0.ranks, is.0.shaped, is.1.shaped);
      nests = omega arith;
      placed = (is.0.placed, is.1.placed);
    }))
    (λ p. refl)
    (λ xs k last is ends le same. (let b = first-back d c.at xs is in (b.0, b.1, b.2, ends)))

pub put-exprs : (xs : List ExprTree) → put e.more_exprs xs e.no_exprs ≡ expr_list xs
put-exprs [] = refl
put-exprs (x ∷ xs) = ap (e.more_exprs x) (put-exprs xs)

-- what reading a list gives, as a list of the plain tree
abbrev pub as_list : Read (List ExprTree) → Read ExprList
as_list (Ok p) = Ok (expr_list p.0, p.1)
as_list (Err i) = Err i

as-list : (d : ℕ) (c mid : Cursor) (x : ExprTree) (r : Read (List ExprTree)) → Leads (expressions d) (more_expressions d) c mid (e.more_exprs x)
    → Outcome (more_expressions d) mid (put_all e.more_exprs e.no_exprs r) → Outcome (expressions d) c (as_list (with_front (x ∷ []) r))
as-list d c mid x (Ok p) l o =
    subst (λ (v : ExprList). Found (expressions d) c (e.more_exprs x v) p.1) (put-exprs p.0)
    (leads-found (expressions d) (more_expressions d) c mid p.1 (e.more_exprs x) (put e.more_exprs p.0 e.no_exprs) l o)
as-list d c mid x (Err i) l o = leads-fails (expressions d) (more_expressions d) c mid (e.more_exprs x) i l o

as-list-bind : (d : ℕ) (item : Cursor → Read ExprTree) (c : Cursor) (r : Read ExprTree) → ((c1 : Cursor) → Outcome (expression 1 d) c1 (item c1))
    → Outcome (expression 1 d) c r → Outcome (expressions d) c (as_list (r >>= (λ x. more_by item x.0 x.1)))
unfolding more_by
as-list-bind d item c (Ok p) all o =
    as-list d c p.1 p.0 (all_of (comma_step item) p.1)
    (leads-trans (expressions d) (sequence_rule (expression 1 d) (λ x. more_expressions d)) (more_expressions d) c c p.1 (λ q. e.more_exprs q.0 q.1) (λ y. (p.0, y))
    (first-leads d c)
    (seq-leads (expression 1 d) (λ x. more_expressions d) c p.1 p.0 (comma-follows d) o))
    (all-parses (more_expressions d) (comma_step item) e.more_exprs e.no_exprs (comma-listing d item all) p.1)
as-list-bind d item c (Err i) all o =
    leads-fails (expressions d) (sequence_rule (expression 1 d) (λ x. more_expressions d)) c c (λ q. e.more_exprs q.0 q.1) i (first-leads d c)
    (seq-fails (expression 1 d) (λ x. more_expressions d) c i (comma-follows d) o)

pub list-parses-as : (d : ℕ) (item : Cursor → Read ExprTree) → ((c : Cursor) → Outcome (expression 1 d) c (item c)) → (c : Cursor)
    → Outcome (expressions d) c (as_list (list_by item c))
unfolding list_by
list-parses-as d item o c = as-list-bind d item c (item c) o (o c)

-- a call's arguments, and the parenthesis behind them
nesting-down : (n : ℕ) (xs : ExprList) → arguments_nesting xs ≤ n + 1 → exprs_nesting xs ≤ n
nesting-down n e.no_exprs h = omega arith
nesting-down n (e.more_exprs x rest) h = let r : exprs_nesting rest ≤ n = nesting-down n rest (omega arith) in omega arith

nesting-up : (n : ℕ) (xs : ExprList) → exprs_nesting xs ≤ n → arguments_nesting xs ≤ n + 1
nesting-up n e.no_exprs h = omega arith
nesting-up n (e.more_exprs x rest) h = let r : arguments_nesting rest ≤ n + 1 = nesting-up n rest (omega arith) in omega arith

abbrev arguments_kinds : ExprList → Kinds
arguments_kinds xs = exprs_kinds xs ++ a_sign sign_is.RightParen

starts-arguments : (x : ExprTree) (rest : ExprList) (k : Kinds) → ShapedExpr x → StartsAt (arguments_kinds (e.more_exprs x rest) ++ k)
starts-arguments x rest k h =
    starts-more (arguments_kinds (e.more_exprs x rest)) k (starts-more (exprs_kinds (e.more_exprs x rest)) (a_sign sign_is.RightParen)
    (starts-more (expr_kinds x) (more_exprs_kinds rest) (starts-expr x h)))

no-arguments : (last at : ℕ) (ks k : Kinds) (xs : ExprList) → ShapedExprs xs
    → SameUpTo last at (kind.Punctuator sign_is.RightParen ∷ ks) (arguments_kinds xs ++ k) → xs ≡ e.no_exprs
no-arguments last at ks k e.no_exprs shaped same = refl
no-arguments last at ks k (e.more_exprs x rest) shaped same =
    let b : false ≡ true =
    starts-same last at (kind.Punctuator sign_is.RightParen) ks (arguments_kinds (e.more_exprs x rest) ++ k) (starts-arguments x rest k shaped.1) same in cc

some-arguments : (last at : ℕ) (ks k : Kinds) (xs : ExprList) → (sign_at ks ≡ Some sign_is.RightParen → ⊥) → SameUpTo last at ks (arguments_kinds xs ++ k)
    → HasExpr xs
some-arguments last at ks k e.no_exprs other same = other (same-sign last at ks k sign_is.RightParen same)
some-arguments last at ks k (e.more_exprs x rest) other same = tt

flat-arguments : (xs : ExprList) → HasExpr xs → arguments_nesting xs ≤ 0 → ⊥
flat-arguments e.no_exprs some h = some
flat-arguments (e.more_exprs x rest) some h = omega arith

arguments-empty : (d : ℕ) (c : Cursor) → sign_at c.rest ≡ Some sign_is.RightParen → Found (arguments d) c e.no_exprs (next_cursor c)
arguments-empty d c h =
    token-found (arguments d) c (kind.Punctuator sign_is.RightParen) e.no_exprs (record { shaped = tt; nests = omega arith; placed = tt }) refl
    (sign-head c.rest sign_is.RightParen h)
    (λ xs k last is ends le same. no-arguments last c.at (kinds_behind_first c.rest) k xs is.shaped
    (subst (λ (v : Kinds). SameUpTo last c.at v (arguments_kinds xs ++ k)) (sign-head c.rest sign_is.RightParen h) same))

arguments-leads : (n : ℕ) (c : Cursor) → (sign_at c.rest ≡ Some sign_is.RightParen → ⊥)
    → Leads (arguments (n + 1)) (rule_before_sign (expressions n) sign_is.RightParen) c c (λ xs. xs)
arguments-leads n c other = leads-here (arguments (n + 1)) (rule_before_sign (expressions n) sign_is.RightParen) c (λ xs. xs)
    (λ xs is. record { shaped = is.shaped; nests = nesting-up n xs is.nests; placed = is.placed })
    (λ xs. refl)
    (λ xs k last is ends le same. (
      xs,
      refl,
      record {
        some = some-arguments last c.at c.rest k xs other same;
        shaped = is.shaped;
        nests = nesting-down n xs is.nests;
        placed = is.placed;
      },
      record {},
    ))

arguments-flat : (c : Cursor) → (sign_at c.rest ≡ Some sign_is.RightParen → ⊥) → Fails (arguments 0) c c.at
arguments-flat c other = fails-here (arguments 0) c (λ xs k is ends same. flat-arguments xs (some-arguments c.at c.at c.rest k xs other same) is.nests)

closing-as : (xs : List ExprTree) (r : Read (Unit {0})) → r >>= (λ y. Ok (expr_list xs, y.1)) ≡ as_list (r >>= (λ y. Ok (xs, y.1)))
closing-as xs (Ok y) = refl
closing-as xs (Err i) = refl

list-close : (d : ℕ) (c : Cursor) (r : Read (List ExprTree)) → Outcome (expressions d) c (as_list r)
    → Outcome (rule_before_sign (expressions d) sign_is.RightParen) c (as_list (r >>= (λ xs. the_sign sign_is.RightParen xs.1 >>= (λ y. Ok (xs.0, y.1)))))
list-close d c (Ok p) o =
    subst (λ (v : Read ExprList). Outcome (rule_before_sign (expressions d) sign_is.RightParen) c v) (closing-as p.0 (the_sign sign_is.RightParen p.1))
    (before-parses (expressions d) sign_is.RightParen c (Ok (expr_list p.0, p.1)) (omega arith) (λ v k. closes sign_is.RightParen k refl) o)
list-close d c (Err i) o =
    before-parses (expressions d) sign_is.RightParen c (Err i) (omega arith) (λ v k. closes sign_is.RightParen k refl) o

-- An item of a list is one deeper than what the list stands in.
pub inner-item : (n : ℕ) (item : Cursor → Read ExprTree) → ((c : Cursor) → Outcome (inner_expression 1 (suc n)) c (item c)) → (c : Cursor)
    → Outcome (expression 1 n) c (item c)
inner-item n item o c =
    leads-outcome (expression 1 n) (inner_expression 1 (suc n)) c c (item c)
    (leads-here (expression 1 n) (inner_expression 1 (suc n)) c (λ x. x)
    (λ x is. (let nests = is.nests in record { ranks = is.ranks; shaped = is.shaped; nests = omega arith; placed = is.placed }))
    (λ x. refl)
    (λ x k last is ends le same. (let nests = is.nests in (
      x,
      refl,
      record { ranks = is.ranks; shaped = is.shaped; nests = omega arith; placed = is.placed },
      ends,
    ))))
    (o c)

closed-list-parses : (n : ℕ) (item : Cursor → Read ExprTree) → ((c : Cursor) → Outcome (expression 1 n) c (item c)) → (c : Cursor)
    → Outcome (rule_before_sign (expressions n) sign_is.RightParen) c (as_list (closed_list item c))
unfolding closed_list
closed-list-parses n item o c = list-close n c (list_by item c) (list-parses-as n item o c)

closed-flat : (item : Cursor → Read ExprTree) (c : Cursor) → item c ≡ Err c.at → closed_list item c ≡ Err c.at
unfolding closed_list list_by
closed-flat item c h = rw h refl

arguments-parses : (d : ℕ) (deeper : Parsers) → ((c : Cursor) → Outcome (inner_expression 1 d) c (deeper.assignment c))
    → (d ≡ 0 → (c : Cursor) → deeper.assignment c ≡ Err c.at) → (c : Cursor) → Outcome (arguments d) c (as_list (arguments_by deeper c))
unfolding arguments_by
arguments-parses zero deeper o none c = elim (cases_Bool (begins_with_sign sign_is.RightParen c.rest)) [
  | inl t ↦ rw t (arguments-empty 0 c (stands-sign sign_is.RightParen c.rest (omega arith) t))
  | inr f ↦ rw (f, closed-flat deeper.assignment c (none refl c)) (arguments-flat c (λ h. let t = sign-stands sign_is.RightParen c.rest h in cc))
]
arguments-parses (suc n) deeper o none c = elim (cases_Bool (begins_with_sign sign_is.RightParen c.rest)) [
  | inl t ↦ rw t (arguments-empty (suc n) c (stands-sign sign_is.RightParen c.rest (omega arith) t))
  | inr f ↦ rw f (subst (λ (d : ℕ). Outcome (arguments d) c (as_list (closed_list deeper.assignment c))) (let one : n + 1 ≡ suc n = omega arith in one)
      (leads-outcome (arguments (n + 1)) (rule_before_sign (expressions n) sign_is.RightParen) c c (as_list (closed_list deeper.assignment c))
      (arguments-leads n c (λ h. let t = sign-stands sign_is.RightParen c.rest h in cc))
      (closed-list-parses n deeper.assignment (inner-item n deeper.assignment o) c)))
]

-- a name with a parenthesis behind it is a call
call-back : (d at last : ℕ) (name : List ℕ) (ks k : Kinds) (x : ExprTree) → IsExpr 16 d at x → EndsAt 16 k → first_of x ≡ Some (kind.Name name) → at < last
    → SameUpTo last at (kind.Name name ∷ kind.Punctuator sign_is.LeftParen ∷ ks) (expr_kinds x ++ k)
    → (xs : ExprList) × (x ≡ e.Call at name xs) × AreArguments d (at + 1 + 1) xs
call-back d at last name ks [] (e.Name t n) is ends h below same = absurd (same.1 below)
call-back d at last name ks (y ∷ k) (e.Name t n) is ends h below same =
    let b : kind_binds (kind.Punctuator sign_is.LeftParen) ≡ kind_binds y = ap kind_binds (same.1 below).0 in
    let by = ends.by in
    absurd (omega arith)
call-back d at last name ks k (e.Call t n xs) is ends h below same =
    let s : kind.Name n ≡ kind.Name name = cc in
    let placed = is.placed in
    let two : at + 2 ≡ at + 1 + 1 = omega arith in
    (xs, (let t_at : t ≡ at = placed.0 in cc), record { shaped = is.shaped; nests = is.nests; placed = subst (λ (m : ℕ). ExprsAt m xs) two placed.1 })
call-back d at last name ks k (e.Strings t []) is ends h below same = cc
call-back d at last name ks k (e.Strings t (s ∷ ss)) is ends h below same = cc
call-back d at last name ks k _ is ends h below same = cc

call-leads : (d : ℕ) (c : Cursor) (name : List ℕ) → name_at c.rest ≡ Some name → first_kind c.rest ≡ Some (kind.Name name)
    → sign_at (kinds_behind_first c.rest) ≡ Some sign_is.LeftParen
    → Leads (expression 16 d) (arguments d) c (next_cursor (next_cursor c)) (e.Call c.at name)
call-leads d c name n f p =
    let whole : c.rest ≡ kind.Name name ∷ kind.Punctuator sign_is.LeftParen ∷ kinds_behind_first (kinds_behind_first c.rest) =
    name-head c.rest name n ∙ ap (λ (v : Kinds). kind.Name name ∷ v) (sign-head (kinds_behind_first c.rest) sign_is.LeftParen p) in
    let two : c.at + 1 + 1 ≡ c.at + 2 = omega arith in
    record {
      front = kind.Name name ∷ kind.Punctuator sign_is.LeftParen ∷ [];
      whole = whole;
      moved = omega arith;
      build =
          λ xs is. (let nests = is.nests in record {
            ranks = omega arith;
            shaped = is.shaped;
            nests = is.nests;
            placed = (refl, subst (λ (m : ℕ). ExprsAt m xs) two is.placed);
          });
      spelled = λ xs. refl;
      back = λ x k last is ends le same.
          (let b = call-back d c.at last name (kinds_behind_first (kinds_behind_first c.rest)) k x is ends (expr-first d c (kind.Name name) x k last f is same) (omega arith)
          (subst (λ (v : Kinds). SameUpTo last c.at v (expr_kinds x ++ k)) whole same) in
          (b.0, b.1, b.2, record {}));
    }

call-as : (d : ℕ) (c : Cursor) (name : List ℕ) (r : Read (List ExprTree)) → Leads (expression 16 d) (arguments d) c (next_cursor (next_cursor c)) (e.Call c.at name)
    → Outcome (arguments d) (next_cursor (next_cursor c)) (as_list r)
    → Outcome (expression 16 d) c (r >>= (λ xs. Ok (e.Call c.at name (expr_list xs.0), xs.1)))
call-as d c name (Ok p) l o = leads-found (expression 16 d) (arguments d) c (next_cursor (next_cursor c)) p.1 (e.Call c.at name) (expr_list p.0) l o
call-as d c name (Err i) l o = leads-fails (expression 16 d) (arguments d) c (next_cursor (next_cursor c)) (e.Call c.at name) i l o

call-parses : (d : ℕ) (deeper : Parsers) → ((c : Cursor) → Outcome (inner_expression 1 d) c (deeper.assignment c))
    → (d ≡ 0 → (c : Cursor) → deeper.assignment c ≡ Err c.at)
    → (c : Cursor) (name : List ℕ) → name_at c.rest ≡ Some name → first_kind c.rest ≡ Some (kind.Name name) → sign_at (kinds_behind_first c.rest) ≡ Some sign_is.LeftParen
    → Outcome (expression 16 d) c (call_by deeper c.at name (next_cursor c))
unfolding call_by
call-parses d deeper o none c name n f p =
    call-as d c name (arguments_by deeper (next_cursor (next_cursor c))) (call-leads d c name n f p) (arguments-parses d deeper o none (next_cursor (next_cursor c)))

only-name : (d at last : ℕ) (name : List ℕ) (ks k : Kinds) (x : ExprTree) → IsExpr 16 d at x → first_of x ≡ Some (kind.Name name) → at < last
    → (sign_at ks ≡ Some sign_is.LeftParen → ⊥)
    → SameUpTo last at (kind.Name name ∷ ks) (expr_kinds x ++ k) → x ≡ e.Name at name
only-name d at last name ks k (e.Name t n) is h below other same = let s : kind.Name n ≡ kind.Name name = cc in let t_at : t ≡ at = is.placed in cc
only-name d at last name ks k (e.Call t n xs) is h below other same =
    absurd (other (same-sign last (at + 1) ks ((exprs_kinds xs ++ a_sign sign_is.RightParen) ++ k) sign_is.LeftParen (same.1 below)))
only-name d at last name ks k (e.Strings t []) is h below other same = cc
only-name d at last name ks k (e.Strings t (s ∷ ss)) is h below other same = cc
only-name d at last name ks k _ is h below other same = cc

name-alone : (d : ℕ) (c : Cursor) (name : List ℕ) → name_at c.rest ≡ Some name → first_kind c.rest ≡ Some (kind.Name name)
    → (sign_at (kinds_behind_first c.rest) ≡ Some sign_is.LeftParen → ⊥) → Found (expression 16 d) c (e.Name c.at name) (next_cursor c)
name-alone d c name n f other =
    token-found (expression 16 d) c (kind.Name name) (e.Name c.at name) (record { ranks = omega arith; shaped = tt; nests = omega arith; placed = refl }) refl
    (name-head c.rest name n)
    (λ y k last is ends le same. only-name d c.at last name (kinds_behind_first c.rest) k y is (expr-first d c (kind.Name name) y k last f is same) (omega arith) other
    (subst (λ (v : Kinds). SameUpTo last c.at v (expr_kinds y ++ k)) (name-head c.rest name n) same))

named-parses : (d : ℕ) (deeper : Parsers) → ((c : Cursor) → Outcome (inner_expression 1 d) c (deeper.assignment c))
    → (d ≡ 0 → (c : Cursor) → deeper.assignment c ≡ Err c.at)
    → (c : Cursor) (name : List ℕ) → name_at c.rest ≡ Some name → first_kind c.rest ≡ Some (kind.Name name)
    → Outcome (expression 16 d) c (named_at deeper c.at name (next_cursor c))
unfolding named_at
named-parses d deeper o none c name n f = elim (cases_Bool (begins_with_sign sign_is.LeftParen (kinds_behind_first c.rest))) [
  | inl t ↦ rw t (call-parses d deeper o none c name n f (stands-sign sign_is.LeftParen (kinds_behind_first c.rest) (omega arith) t))
  | inr g ↦ rw g (name-alone d c name n f (λ h. let t = sign-stands sign_is.LeftParen (kinds_behind_first c.rest) h in cc))
]

named-same : (deeper : Parsers) (c : Cursor) (name : List ℕ) → name_at c.rest ≡ Some name → named_by deeper c ≡ named_at deeper c.at name (next_cursor c)
unfolding named_by the_name
named-same deeper c name n = rw n refl

-- strings
text-head : (k : Kinds) (bytes : List ℕ) → first_kind k ≡ Some (kind.Text bytes) → k ≡ kind.Text bytes ∷ kinds_behind_first k
text-head k bytes h = first-head k (kind.Text bytes) h

text-back : (at last : ℕ) (bytes : List ℕ) (ks k : Kinds) (xs : List (List ℕ)) → EndsAt 16 k → SameUpTo last at (kind.Text bytes ∷ ks) (text_kinds xs ++ k)
    → (ys : List (List ℕ)) × (xs ≡ bytes ∷ ys)
text-back at last bytes ks [] [] ends same = absurd same
text-back at last bytes ks (t ∷ k) [] ends same =
    let b : kind_binds (kind.Text bytes) ≡ kind_binds t = ap kind_binds same.0 in
    let by = ends.by in
    absurd (omega arith)
text-back at last bytes ks k (x ∷ xs) ends same = let s : kind.Text bytes ≡ kind.Text x = same.0 in (xs, cc)

text-leads : (c : Cursor) (bytes : List ℕ) → first_kind c.rest ≡ Some (kind.Text bytes) → Leads string_parts string_parts c (next_cursor c) (λ xs. bytes ∷ xs)
text-leads c bytes h = record {
  front = kind.Text bytes ∷ [];
  whole = text-head c.rest bytes h;
  moved = refl;
  build = λ xs is. tt;
  spelled = λ xs. refl;
  back = λ xs k last is ends le same.
      (let b = text-back c.at last bytes (kinds_behind_first c.rest) k xs ends (subst (λ (v : Kinds). SameUpTo last c.at v (text_kinds xs ++ k))
      (text-head c.rest bytes h) same) in
      (b.0, b.1, tt, ends));
}

no-text : (last at : ℕ) (ks k : Kinds) (xs : List (List ℕ)) → ((bytes : List ℕ) → first_kind ks ≡ Some (kind.Text bytes) → ⊥)
    → SameUpTo last at ks (text_kinds xs ++ k) → xs ≡ []
no-text last at ks k [] other same = refl
no-text last at [] k (x ∷ xs) other same = absurd same
no-text last at (t ∷ ks) k (x ∷ xs) other same = absurd (other x (ap Some same.0))

texts-none : (c : Cursor) → ((bytes : List ℕ) → first_kind c.rest ≡ Some (kind.Text bytes) → ⊥) → Found string_parts c [] c
texts-none c other = record {
  is = tt;
  spelled = refl;
  moved = (let e : c.at ≡ c.at + length {A = TokenKind} [] = omega arith in e);
  only = λ xs k last is ends le same. no-text last c.at c.rest k xs other same;
}

first-shorter : (k : Kinds) (t : TokenKind) → first_kind k ≡ Some t → length (kinds_behind_first k) < length k
first-shorter [] t h = cc
first-shorter (x ∷ k) t h = omega arith

text-first : (k : Kinds) (bytes : List ℕ) → text_at k ≡ Some bytes → first_kind k ≡ Some (kind.Text bytes)
text-first [] bytes h = cc
text-first (kind.Text b ∷ k) bytes h = ap (λ (v : List ℕ). Some (kind.Text v)) (let s : b ≡ bytes = cc in s)
text-first (_ ∷ k) bytes h = cc

first-text : (k : Kinds) (bytes : List ℕ) → first_kind k ≡ Some (kind.Text bytes) → text_at k ≡ Some bytes
first-text k bytes h = ap text_at (text-head k bytes h)

text-of : (c : Cursor) (o : Option (List ℕ)) → text_at c.rest ≡ o → StepIs string_parts (λ x xs. x ∷ xs) [] c (text_read c o)
text-of c (Some bytes) h = (text-leads c bytes (text-first c.rest bytes h), first-shorter c.rest (kind.Text bytes) (text-first c.rest bytes h))
text-of c None h = texts-none c (λ bytes s. let both : None ≡ Some bytes = sym h ∙ first-text c.rest bytes s in cc)

pub text-listing : Listing string_parts text_step (λ x xs. x ∷ xs) []
unfolding text_step
text-listing = record { is = λ c. text-of c (text_at c.rest) refl }

-- a loop over strings
text-here : (c : Cursor) (bytes : List ℕ) → text_at c.rest ≡ Some bytes → text_step c ≡ Some (Ok (bytes, next_cursor c))
unfolding text_step
text-here c bytes h = ap (text_read c) h

pub text_turn : (whole : Read (List (List ℕ))) (c to : Cursor) (xs ws : List (List ℕ)) (bytes : List ℕ) → text_at c.rest ≡ Some bytes
    → Front text_step whole c xs → to ≡ next_cursor c → ws ≡ xs ++ bytes ∷ [] → Front text_step whole to ws
text_turn whole c to xs ws bytes h inv moved pushed =
    subst (λ (v : List (List ℕ)). Front text_step whole to v) (sym pushed)
    (front_next text_step whole c to xs bytes (listing-advances string_parts text_step (λ x xs. x ∷ xs) [] text-listing) inv
    (subst (λ (v : Cursor). text_step c ≡ Some (Ok (bytes, v))) (sym moved) (text-here c bytes h)))

pub text_end : (whole : Read (List (List ℕ))) (c : Cursor) (xs : List (List ℕ)) → text_at c.rest ≡ None → Front text_step whole c xs → whole ≡ Ok (xs, c)
unfolding text_step
text_end whole c xs h inv = front_done text_step whole c xs inv (ap (text_read c) h)

put-texts : (xs : List (List ℕ)) → put (λ (x : List ℕ) (ys : List (List ℕ)). x ∷ ys) xs [] ≡ xs
put-texts [] = refl
put-texts (x ∷ xs) = ap (λ (ys : List (List ℕ)). x ∷ ys) (put-texts xs)

strings-back : (d at : ℕ) (bytes : List ℕ) (x : ExprTree) → IsExpr 16 d at x → first_of x ≡ Some (kind.Text bytes)
    → (xs : List (List ℕ)) × (x ≡ e.Strings at (bytes ∷ xs))
strings-back d at bytes (e.Strings t []) is h = cc
strings-back d at bytes (e.Strings t (s ∷ ss)) is h = let same : kind.Text s ≡ kind.Text bytes = cc in let t_at : t ≡ at = is.placed in (ss, cc)
strings-back d at bytes _ is h = cc

strings-leads : (d : ℕ) (c : Cursor) (bytes : List ℕ) → first_kind c.rest ≡ Some (kind.Text bytes)
    → Leads (expression 16 d) string_parts c (next_cursor c) (λ xs. e.Strings c.at (bytes ∷ xs))
strings-leads d c bytes h = record {
  front = kind.Text bytes ∷ [];
  whole = text-head c.rest bytes h;
  moved = refl;
  build = λ xs is. record { ranks = omega arith; shaped = tt; nests = omega arith; placed = refl };
  spelled = λ xs. refl;
  back = λ x k last is ends le same.
      (let b = strings-back d c.at bytes x is (expr-first d c (kind.Text bytes) x k last h is same) in
      (b.0, b.1, tt, ends));
}

strings-as : (d : ℕ) (c : Cursor) (bytes : List ℕ) (r : Read (List (List ℕ))) → Leads (expression 16 d) string_parts c (next_cursor c) (λ xs. e.Strings c.at (bytes ∷ xs))
    → Outcome string_parts (next_cursor c) (put_all (λ (x : List ℕ) (ys : List (List ℕ)). x ∷ ys) [] r)
    → Outcome (expression 16 d) c (with_front (bytes ∷ []) r >>= (λ xs. Ok (e.Strings c.at xs.0, xs.1)))
strings-as d c bytes (Ok p) l o =
    leads-found (expression 16 d) string_parts c (next_cursor c) p.1 (λ xs. e.Strings c.at (bytes ∷ xs)) p.0 l
    (subst (λ (xs : List (List ℕ)). Found string_parts (next_cursor c) xs p.1) (put-texts p.0) o)
strings-as d c bytes (Err i) l o = leads-fails (expression 16 d) string_parts c (next_cursor c) (λ xs. e.Strings c.at (bytes ∷ xs)) i l o

text-step-some : (c : Cursor) (bytes : List ℕ) → first_kind c.rest ≡ Some (kind.Text bytes) → text_step c ≡ Some (Ok (bytes, next_cursor c))
unfolding text_step
text-step-some c bytes h = ap (text_read c) (first-text c.rest bytes h)

strings-parses : (d : ℕ) (c : Cursor) (bytes : List ℕ) → first_kind c.rest ≡ Some (kind.Text bytes) → Outcome (expression 16 d) c (strings_by c)
unfolding strings_by
strings-parses d c bytes h =
    let more : all_of text_step c ≡ with_front (bytes ∷ []) (all_of text_step (next_cursor c)) =
    all_more text_step c (next_cursor c) bytes (listing-advances string_parts text_step (λ x xs. x ∷ xs) [] text-listing) (text-step-some c bytes h) in
    subst (λ (r : Read (List (List ℕ))). Outcome (expression 16 d) c (r >>= (λ xs. Ok (e.Strings c.at xs.0, xs.1)))) (sym more)
    (strings-as d c bytes (all_of text_step (next_cursor c)) (strings-leads d c bytes h) (all-parses string_parts text_step (λ x xs. x ∷ xs) [] text-listing (next_cursor c)))

-- any of them
abbrev begins_some : Option TokenKind → Bool
begins_some None = false
begins_some (Some t) = begins_primary t

no-end-of : (last at : ℕ) (a k : Kinds) → StartsAt a → SameUpTo last at [] (a ++ k) → ⊥
no-end-of last at [] k h same = h
no-end-of last at (x ∷ a) k h same = same

-- an expression has a token
pub no-end : (last at : ℕ) (x : ExprTree) (k : Kinds) → StartsAt (expr_kinds x) → SameUpTo last at [] (expr_kinds x ++ k) → ⊥
no-end last at x k h same = no-end-of last at (expr_kinds x) k h same

begins-here : (last at : ℕ) (ks k : Kinds) (x : ExprTree) → 16 ≤ expression_rank x → ShapedExpr x → SameUpTo last at ks (expr_kinds x ++ k) → begins_some (first_kind ks) ≡ true
begins-here last at [] k x r shaped same = absurd (no-end last at x k (starts-expr x shaped) same)
begins-here last at (t ∷ ks) k x r shaped same = primary-begins x last at t ks k r shaped same

no-primary : (d : ℕ) (c : Cursor) (o : Option TokenKind) → first_kind c.rest ≡ o → begins_some o ≡ false → Fails (expression 16 d) c c.at
no-primary d c o h b = fails-here (expression 16 d) c (λ x k is ends same.
    (let t : begins_some (first_kind c.rest) ≡ true = begins-here c.at c.at c.rest k x is.ranks is.shaped same in
    let u : begins_some o ≡ true = ap begins_some (sym h) ∙ t in cc))

name-first : (k : Kinds) (name : List ℕ) → first_kind k ≡ Some (kind.Name name) → name_at k ≡ Some name
name-first k name h = ap name_at (first-head k (kind.Name name) h)

sign-first : (k : Kinds) (s : Sign) → first_kind k ≡ Some (kind.Punctuator s) → sign_at k ≡ Some s
sign-first k s h = ap sign_at (first-head k (kind.Punctuator s) h)

primary-of : (d : ℕ) (deeper : Parsers) → ((c : Cursor) → Outcome (inner_expression 0 d) c (deeper.whole c))
    → ((c : Cursor) → Outcome (inner_expression 1 d) c (deeper.assignment c)) → (d ≡ 0 → (c : Cursor) → deeper.assignment c ≡ Err c.at)
    → (c : Cursor) (o : Option TokenKind) → first_kind c.rest ≡ o → Outcome (expression 16 d) c (primary_of d deeper c o)
primary-of d deeper w o none c (Some (kind.Word word_is.Null)) h =
    one-found d c (kind.Word word_is.Null) (e.Null c.at) h (record { ranks = omega arith; shaped = tt; nests = omega arith; placed = refl }) refl
    (only-null c.at)
primary-of d deeper w o none c (Some (kind.Word word_is.EndOfFile)) h =
    one-found d c (kind.Word word_is.EndOfFile) (e.EndOfFile c.at) h (record { ranks = omega arith; shaped = tt; nests = omega arith; placed = refl }) refl
    (only-eof c.at)
primary-of d deeper w o none c (Some (kind.Name name)) h =
    subst (λ (r : Read ExprTree). Outcome (expression 16 d) c r) (sym (named-same deeper c name (name-first c.rest name h)))
    (named-parses d deeper o none c name (name-first c.rest name h) h)
primary-of d deeper w o none c (Some (kind.Constant t v)) h =
    one-found d c (kind.Constant t v) (e.Constant c.at t v) h (record { ranks = omega arith; shaped = tt; nests = omega arith; placed = refl }) refl
    (only-constant c.at t v)
primary-of d deeper w o none c (Some (kind.Text bytes)) h = strings-parses d c bytes h
primary-of d deeper w o none c (Some (kind.Punctuator sign_is.LeftParen)) h = paren-parses d deeper w c (sign-first c.rest sign_is.LeftParen h) h
primary-of d deeper w o none c other h = no-primary d c other h refl

pub primary-parses : (d : ℕ) (deeper : Parsers) → ((c : Cursor) → Outcome (inner_expression 0 d) c (deeper.whole c))
    → ((c : Cursor) → Outcome (inner_expression 1 d) c (deeper.assignment c)) → (d ≡ 0 → (c : Cursor) → deeper.assignment c ≡ Err c.at)
    → (c : Cursor) → Outcome (expression 16 d) c (primary_by d deeper c)
unfolding primary_by
primary-parses d deeper w o none c = primary-of d deeper w o none c (first_kind c.rest) refl
