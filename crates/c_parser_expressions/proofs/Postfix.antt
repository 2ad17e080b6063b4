-- Operands with what follows them.
use Rattle.std.proofs.Common.{◌≡◌, ℕ, zero, suc, ◌+◌, ◌≤◌, List, [], ◌∷◌, ◌++◌, length, Option, Some, None}
use Rattle.std.proofs.Common.{Ok, refl, sym, ap, ◌∙◌, subst, length-append, arith}
use Rattle.std.proofs.lemmas.List.{append-nil}
use Rattle.base_lists.proofs.Numbers.{suc_zero_test}
use Rattle.c_syntax.specs.declared.token.Sign.{Sign}
use Rattle.c_syntax.specs.declared.token.Sign.TheVariants as sign_is
use Rattle.c_syntax.specs.declared.token.TokenKind.{TokenKind}
use Rattle.c_syntax.specs.declared.token.TokenKind.TheVariants as kind
use Rattle.c_syntax.specs.ExprTree as e
use Rattle.c_syntax.specs.Words.{ExprTree, PostfixList, postfix_list, Kinds, a_sign, a_name, expr_kinds, postfix_kinds, PostfixAt}
use Rattle.c_parser_expressions.specs.Reading.{Cursor, SameUpTo, Found, Outcome, kinds_behind_first, next_cursor, sign_at, kind_sign, sequence_rule, rule_before_sign, name_rule}
use Rattle.c_parser_expressions.specs.Steps.{the_name}
use Rattle.c_parser_expressions.specs.Expressions.{kind_binds, EndsAt, IsExpr, expression, inner_expression, ArePostfix, postfix_operators}
use Rattle.c_parser_expressions.specs.ExpressionParser.{Parsers, closed_by, primary_by, postfix_sign_of, postfix_sign, index_by, member_by, operator_by}
use Rattle.c_parser_expressions.specs.ExpressionParser.{step_of, postfix_step, operators_by, if_some, operated_by, postfix_by}
use Rattle.c_parser_expressions.proofs.Heads.{sign-head}
use Rattle.c_parser_expressions.proofs.Laws.{Leads, leads-here, part}
use Rattle.c_parser_expressions.proofs.Tokens.{name-parses, before-parses}
use Rattle.c_parser_expressions.proofs.Many.{Listing, StepIs, put, link-part, list-parses, list-none}
use Rattle.c_parser_expressions.proofs.Starts.{chain-low}
use Rattle.c_parser_expressions.proofs.Primary.{ends-more, closes, behind-shorter}

-- an operand with postfix operators, or alone
abbrev postfix_tree : ExprTree → PostfixList → ExprTree
postfix_tree x e.no_postfix = x
postfix_tree x (e.index t y rest) = e.Postfix x (e.index t y rest)
postfix_tree x (e.member t n rest) = e.Postfix x (e.member t n rest)
postfix_tree x (e.arrow t n rest) = e.Postfix x (e.arrow t n rest)
postfix_tree x (e.increment t rest) = e.Postfix x (e.increment t rest)
postfix_tree x (e.decrement t rest) = e.Postfix x (e.decrement t rest)

abbrev Split : (d at : ℕ) (x : ExprTree) → Type 0
Split d at x = (p : ExprTree × PostfixList) × (x ≡ postfix_tree p.0 p.1) × (sequence_rule (expression 16 d) (λ v. postfix_operators d)).Is at p

split-here : (d at : ℕ) (x : ExprTree) (ops : PostfixList) → IsExpr 15 d at (e.Postfix x ops) → e.Postfix x ops ≡ postfix_tree x ops
    → Split d at (e.Postfix x ops)
split-here d at x ops is same =
    let nests = is.nests in (
      (x, ops),
      same,
      (
        record { ranks = is.shaped.0; shaped = is.shaped.1; nests = omega arith; placed = is.placed.0 },
        record { shaped = is.shaped.3; nests = omega arith; placed = is.placed.1 },
      ),
    )

split : (d at : ℕ) (x : ExprTree) → IsExpr 15 d at x → Split d at x
split d at (e.Postfix x e.no_postfix) is = absurd is.shaped.2
split d at (e.Postfix x (e.index t y rest)) is = split-here d at x (e.index t y rest) is refl
split d at (e.Postfix x (e.member t n rest)) is = split-here d at x (e.member t n rest) is refl
split d at (e.Postfix x (e.arrow t n rest)) is = split-here d at x (e.arrow t n rest) is refl
split d at (e.Postfix x (e.increment t rest)) is = split-here d at x (e.increment t rest) is refl
split d at (e.Postfix x (e.decrement t rest)) is = split-here d at x (e.decrement t rest) is refl
split d at (e.Comma token xs) is = let r = is.ranks in absurd (omega arith)
split d at (e.Assign token s x y) is = let r = is.ranks in absurd (omega arith)
split d at (e.Conditional token x y z) is = let r = is.ranks in absurd (omega arith)
split d at (e.Chain l x ls) is = let r = is.ranks in absurd (chain-low l x ls (omega arith) is.shaped)
split d at (e.Cast token b stars x) is = let r = is.ranks in absurd (omega arith)
split d at (e.Prefix token o x) is = let r = is.ranks in absurd (omega arith)
split d at (e.SizeOfType token b stars) is = let r = is.ranks in absurd (omega arith)
split d at x is = (
  (x, e.no_postfix),
  refl,
  (
    record { ranks = omega arith; shaped = is.shaped; nests = is.nests; placed = is.placed },
    record { shaped = tt; nests = omega arith; placed = tt },
  ),
)

build : (d at : ℕ) (x : ExprTree) (ops : PostfixList) → IsExpr 16 d at x → ArePostfix d (at + length (expr_kinds x)) ops → IsExpr 15 d at (postfix_tree x ops)
build d at x e.no_postfix is are = let r = is.ranks in record { ranks = omega arith; shaped = is.shaped; nests = is.nests; placed = is.placed }
build d at x ops is are =
    let n1 = is.nests in
    let n2 = are.nests in
    record { ranks = omega arith; shaped = (is.ranks, is.shaped, tt, are.shaped); nests = omega arith; placed = (is.placed, are.placed) }

spelled : (x : ExprTree) (ops : PostfixList) → expr_kinds (postfix_tree x ops) ≡ expr_kinds x ++ postfix_kinds ops
spelled x e.no_postfix = sym (append-nil (expr_kinds x))
spelled x _ = refl

follows : (d at : ℕ) (v : ExprTree) (ops : PostfixList) (k : Kinds) → EndsAt 15 k → EndsAt 16 (postfix_kinds ops ++ k)
follows d at v e.no_postfix k ends = ends-more 15 16 k (omega arith) ends
follows d at v _ k ends = record { by = omega arith }

postfix-leads : (d : ℕ) (c : Cursor) → Leads (expression 15 d) (sequence_rule (expression 16 d) (λ v. postfix_operators d)) c c (λ p. postfix_tree p.0 p.1)
postfix-leads d c = leads-here (expression 15 d) (sequence_rule (expression 16 d) (λ v. postfix_operators d)) c (λ p. postfix_tree p.0 p.1)
    (λ p is. build d c.at p.0 p.1 is.0 is.1) (λ p. spelled p.0 p.1) (λ x k last is ends le same. (let b = split d c.at x is in (b.0, b.1, b.2, ends)))

-- which sign an operator begins with
abbrev operator_sign : PostfixList → Option Sign
operator_sign e.no_postfix = None
operator_sign (e.index t x rest) = Some sign_is.LeftBracket
operator_sign (e.member t n rest) = Some sign_is.Dot
operator_sign (e.arrow t n rest) = Some sign_is.Arrow
operator_sign (e.increment t rest) = Some sign_is.PlusPlus
operator_sign (e.decrement t rest) = Some sign_is.MinusMinus

operator-same : (last at : ℕ) (ks k : Kinds) (ops : PostfixList) (s : Sign) → operator_sign ops ≡ Some s → SameUpTo last at ks (postfix_kinds ops ++ k)
    → sign_at ks ≡ operator_sign ops
operator-same last at [] k e.no_postfix s h same = cc
operator-same last at (t ∷ ks) k e.no_postfix s h same = cc
operator-same last at [] k _ s h same = absurd same
operator-same last at (t ∷ ks) k _ s h same = ap kind_sign same.0

none-of : (d : ℕ) (c : Cursor) (ops : PostfixList) (k : Kinds) (last : ℕ) → postfix_sign_of d (sign_at c.rest) ≡ None → ArePostfix d c.at ops
    → SameUpTo last c.at c.rest (postfix_kinds ops ++ k) → ops ≡ e.no_postfix
none-of d c e.no_postfix k last h are same = refl
none-of zero c (e.index t x rest) k last h are same = let nests = are.nests in absurd (omega arith)
none-of (suc n) c (e.index t x rest) k last h are same =
    let s : sign_at c.rest ≡ Some sign_is.LeftBracket = operator-same last c.at c.rest k (e.index t x rest) sign_is.LeftBracket refl same in
    let b : postfix_sign_of (suc n) (Some sign_is.LeftBracket) ≡ Some sign_is.LeftBracket = rw (suc_zero_test n) refl in
    let u : postfix_sign_of (suc n) (sign_at c.rest) ≡ Some sign_is.LeftBracket = ap (postfix_sign_of (suc n)) s ∙ b in cc
none-of d c (e.member t x rest) k last h are same =
    let u : postfix_sign_of d (sign_at c.rest) ≡ Some sign_is.Dot =
    ap (postfix_sign_of d) (operator-same last c.at c.rest k (e.member t x rest) sign_is.Dot refl same) in cc
none-of d c (e.arrow t x rest) k last h are same =
    let u : postfix_sign_of d (sign_at c.rest) ≡ Some sign_is.Arrow =
    ap (postfix_sign_of d) (operator-same last c.at c.rest k (e.arrow t x rest) sign_is.Arrow refl same) in cc
none-of d c (e.increment t rest) k last h are same =
    let u : postfix_sign_of d (sign_at c.rest) ≡ Some sign_is.PlusPlus =
    ap (postfix_sign_of d) (operator-same last c.at c.rest k (e.increment t rest) sign_is.PlusPlus refl same) in cc
none-of d c (e.decrement t rest) k last h are same =
    let u : postfix_sign_of d (sign_at c.rest) ≡ Some sign_is.MinusMinus =
    ap (postfix_sign_of d) (operator-same last c.at c.rest k (e.decrement t rest) sign_is.MinusMinus refl same) in cc

operators-none : (d : ℕ) (c : Cursor) → postfix_sign_of d (sign_at c.rest) ≡ None → Found (postfix_operators d) c e.no_postfix c
operators-none d c h = record {
  is = record { shaped = tt; nests = omega arith; placed = tt };
  spelled = refl;
  moved = (let e : c.at ≡ c.at + length {A = TokenKind} [] = omega arith in e);
  only = λ ops k last are ends le same. none-of d c ops k last h are same;
}

-- what begins with an operator's sign has that operator
some-of : (last at : ℕ) (ks k : Kinds) (ops : PostfixList) (s : Sign) → kind_binds (kind.Punctuator s) ≡ 16 → EndsAt 15 k
    → SameUpTo last at (kind.Punctuator s ∷ ks) (postfix_kinds ops ++ k) → operator_sign ops ≡ Some s
some-of last at ks [] e.no_postfix s b ends same = absurd same
some-of last at ks (t ∷ k) e.no_postfix s b ends same =
    let u : kind_binds (kind.Punctuator s) ≡ kind_binds t = ap kind_binds same.0 in
    let by = ends.by in
    absurd (omega arith)
some-of last at ks k _ s b ends same = sym (ap kind_sign same.0)

index-back : (d at : ℕ) (ops : PostfixList) → ArePostfix d at ops → operator_sign ops ≡ Some sign_is.LeftBracket
    → (p : ExprTree × PostfixList) × (ops ≡ e.index at p.0 p.1) × (sequence_rule (rule_before_sign (inner_expression 0 d) sign_is.RightBracket) (λ v. postfix_operators d)).Is (at + 1) p
index-back d at (e.index t x rest) are h =
    let nests = are.nests in
    let placed = are.placed in
    let here : at + 1 + length (expr_kinds x) + 1 ≡ at + 1 + length (expr_kinds x ++ a_sign sign_is.RightBracket) =
    omega (arith, length-append (expr_kinds x) (a_sign sign_is.RightBracket)) in (
      (x, rest),
      ap (λ (n : ℕ). e.index n x rest) placed.0,
      (
        record { ranks = omega arith; shaped = are.shaped.0; nests = omega arith; placed = placed.1 },
        record { shaped = are.shaped.1; nests = omega arith; placed = subst (λ (m : ℕ). PostfixAt m rest) here placed.2 },
      ),
    )
index-back d at _ are h = cc

index-leads : (d : ℕ) (c : Cursor) → sign_at c.rest ≡ Some sign_is.LeftBracket
    → Leads (postfix_operators d) (sequence_rule (rule_before_sign (inner_expression 0 d) sign_is.RightBracket) (λ v. postfix_operators d)) c (next_cursor c) (λ p. e.index c.at p.0 p.1)
index-leads d c h =
    let whole : c.rest ≡ kind.Punctuator sign_is.LeftBracket ∷ kinds_behind_first c.rest = sign-head c.rest sign_is.LeftBracket h in
    record {
      front = a_sign sign_is.LeftBracket;
      whole = whole;
      moved = refl;
      build = λ p is. (let n0 = is.0.nests in let n1 = is.1.nests in
          let here : c.at + 1 + length (expr_kinds p.0 ++ a_sign sign_is.RightBracket) ≡ c.at + 1 + length (expr_kinds p.0) + 1 =
          omega (arith, length-append (expr_kinds p.0) (a_sign sign_is.RightBracket)) in
          record {
            shaped = (is.0.shaped, is.1.shaped);
            nests = omega arith;
            placed = (refl, is.0.placed, subst (λ (m : ℕ). PostfixAt m p.1) here is.1.placed);
          });
      spelled = λ p. refl;
      back = λ ops k last are ends le same.
          (let s = some-of last c.at (kinds_behind_first c.rest) k ops sign_is.LeftBracket refl ends
          (subst (λ (v : Kinds). SameUpTo last c.at v (postfix_kinds ops ++ k)) whole same) in
          let b = index-back d c.at ops are s in
          (b.0, b.1, b.2, ends));
    }

member-back : (d at : ℕ) (ops : PostfixList) → ArePostfix d at ops → operator_sign ops ≡ Some sign_is.Dot
    → (p : List ℕ × PostfixList) × (ops ≡ e.member at p.0 p.1) × (sequence_rule name_rule (λ v. postfix_operators d)).Is (at + 1) p
member-back d at (e.member t n rest) are h =
    let placed = are.placed in
    let here : at + 2 ≡ at + 1 + length (a_name n) = omega arith in (
      (n, rest),
      ap (λ (m : ℕ). e.member m n rest) placed.0,
      (
        tt,
        record {
          shaped = are.shaped;
          nests = are.nests;
          placed = subst
              (λ (m : ℕ). PostfixAt m rest) here placed.1;
        },
      ),
    )
member-back d at _ are h = cc

member-leads : (d : ℕ) (c : Cursor) → sign_at c.rest ≡ Some sign_is.Dot
    → Leads (postfix_operators d) (sequence_rule name_rule (λ v. postfix_operators d)) c (next_cursor c) (λ p. e.member c.at p.0 p.1)
member-leads d c h =
    let whole : c.rest ≡ kind.Punctuator sign_is.Dot ∷ kinds_behind_first c.rest = sign-head c.rest sign_is.Dot h in
    record {
      front = a_sign sign_is.Dot;
      whole = whole;
      moved = refl;
      build = λ p is. (let here : c.at + 1 + length (a_name p.0) ≡ c.at + 2 = omega arith in
          record { shaped = is.1.shaped; nests = is.1.nests; placed = (refl, subst (λ (m : ℕ). PostfixAt m p.1) here is.1.placed) });
      spelled = λ p. refl;
      back = λ ops k last are ends le same.
          (let s = some-of last c.at (kinds_behind_first c.rest) k ops sign_is.Dot refl ends
          (subst (λ (v : Kinds). SameUpTo last c.at v (postfix_kinds ops ++ k)) whole same) in
          let b = member-back d c.at ops are s in
          (b.0, b.1, b.2, ends));
    }

arrow-back : (d at : ℕ) (ops : PostfixList) → ArePostfix d at ops → operator_sign ops ≡ Some sign_is.Arrow
    → (p : List ℕ × PostfixList) × (ops ≡ e.arrow at p.0 p.1) × (sequence_rule name_rule (λ v. postfix_operators d)).Is (at + 1) p
arrow-back d at (e.arrow t n rest) are h =
    let placed = are.placed in
    let here : at + 2 ≡ at + 1 + length (a_name n) = omega arith in (
      (n, rest),
      ap (λ (m : ℕ). e.arrow m n rest) placed.0,
      (
        tt,
        record {
          shaped = are.shaped;
          nests = are.nests;
          placed = subst
              (λ (m : ℕ). PostfixAt m rest) here placed.1;
        },
      ),
    )
arrow-back d at _ are h = cc

arrow-leads : (d : ℕ) (c : Cursor) → sign_at c.rest ≡ Some sign_is.Arrow
    → Leads (postfix_operators d) (sequence_rule name_rule (λ v. postfix_operators d)) c (next_cursor c) (λ p. e.arrow c.at p.0 p.1)
arrow-leads d c h =
    let whole : c.rest ≡ kind.Punctuator sign_is.Arrow ∷ kinds_behind_first c.rest = sign-head c.rest sign_is.Arrow h in
    record {
      front = a_sign sign_is.Arrow;
      whole = whole;
      moved = refl;
      build = λ p is. (let here : c.at + 1 + length (a_name p.0) ≡ c.at + 2 = omega arith in
          record { shaped = is.1.shaped; nests = is.1.nests; placed = (refl, subst (λ (m : ℕ). PostfixAt m p.1) here is.1.placed) });
      spelled = λ p. refl;
      back = λ ops k last are ends le same.
          (let s = some-of last c.at (kinds_behind_first c.rest) k ops sign_is.Arrow refl ends
          (subst (λ (v : Kinds). SameUpTo last c.at v (postfix_kinds ops ++ k)) whole same) in
          let b = arrow-back d c.at ops are s in
          (b.0, b.1, b.2, ends));
    }

increment-back : (d at : ℕ) (ops : PostfixList) → ArePostfix d at ops → operator_sign ops ≡ Some sign_is.PlusPlus
    → (rest : PostfixList) × (ops ≡ e.increment at rest) × ArePostfix d (at + 1) rest
increment-back d at (e.increment t rest) are h =
    (rest, ap (λ (m : ℕ). e.increment m rest) are.placed.0, record { shaped = are.shaped; nests = are.nests; placed = are.placed.1 })
increment-back d at _ are h = cc

increment-leads : (d : ℕ) (c : Cursor) → sign_at c.rest ≡ Some sign_is.PlusPlus
    → Leads (postfix_operators d) (postfix_operators d) c (next_cursor c) (e.increment c.at)
increment-leads d c h =
    let whole : c.rest ≡ kind.Punctuator sign_is.PlusPlus ∷ kinds_behind_first c.rest = sign-head c.rest sign_is.PlusPlus h in
    record {
      front = a_sign sign_is.PlusPlus;
      whole = whole;
      moved = refl;
      build = λ rest is. record { shaped = is.shaped; nests = is.nests; placed = (refl, is.placed) };
      spelled = λ rest. refl;
      back = λ ops k last are ends le same.
          (let s = some-of last c.at (kinds_behind_first c.rest) k ops sign_is.PlusPlus refl ends
          (subst (λ (v : Kinds). SameUpTo last c.at v (postfix_kinds ops ++ k)) whole same) in
          let b = increment-back d c.at ops are s in
          (b.0, b.1, b.2, ends));
    }

decrement-back : (d at : ℕ) (ops : PostfixList) → ArePostfix d at ops → operator_sign ops ≡ Some sign_is.MinusMinus
    → (rest : PostfixList) × (ops ≡ e.decrement at rest) × ArePostfix d (at + 1) rest
decrement-back d at (e.decrement t rest) are h =
    (rest, ap (λ (m : ℕ). e.decrement m rest) are.placed.0, record { shaped = are.shaped; nests = are.nests; placed = are.placed.1 })
decrement-back d at _ are h = cc

decrement-leads : (d : ℕ) (c : Cursor) → sign_at c.rest ≡ Some sign_is.MinusMinus
    → Leads (postfix_operators d) (postfix_operators d) c (next_cursor c) (e.decrement c.at)
decrement-leads d c h =
    let whole : c.rest ≡ kind.Punctuator sign_is.MinusMinus ∷ kinds_behind_first c.rest = sign-head c.rest sign_is.MinusMinus h in
    record {
      front = a_sign sign_is.MinusMinus;
      whole = whole;
      moved = refl;
      build = λ rest is. record { shaped = is.shaped; nests = is.nests; placed = (refl, is.placed) };
      spelled = λ rest. refl;
      back = λ ops k last are ends le same.
          (let s = some-of last c.at (kinds_behind_first c.rest) k ops sign_is.MinusMinus refl ends
          (subst (λ (v : Kinds). SameUpTo last c.at v (postfix_kinds ops ++ k)) whole same) in
          let b = decrement-back d c.at ops are s in
          (b.0, b.1, b.2, ends));
    }

-- a step, by its operator
index-parses : (d : ℕ) (deeper : Parsers) → ((c : Cursor) → Outcome (inner_expression 0 d) c (deeper.whole c)) → (c : Cursor) → sign_at c.rest ≡ Some sign_is.LeftBracket
    → StepIs (postfix_operators d) (λ f. f) e.no_postfix c (Some (index_by deeper c))
unfolding index_by closed_by
index-parses d deeper o c h =
    link-part (postfix_operators d) (rule_before_sign (inner_expression 0 d) sign_is.RightBracket) c (next_cursor c) (λ f. f) e.no_postfix (e.index c.at)
    (closed_by deeper.whole sign_is.RightBracket (next_cursor c)) (λ at v y k v_is y_is ends. record {})
    (index-leads d c h) (behind-shorter c.rest sign_is.LeftBracket h) (before-parses (inner_expression 0 d) sign_is.RightBracket (next_cursor c) (deeper.whole (next_cursor c))
    (omega arith) (λ v k. closes sign_is.RightBracket k refl) (o (next_cursor c)))

member-parses : (d : ℕ) (c : Cursor) → sign_at c.rest ≡ Some sign_is.Dot → StepIs (postfix_operators d) (λ f. f) e.no_postfix c (Some (member_by e.member c))
unfolding member_by
member-parses d c h =
    link-part (postfix_operators d) name_rule c (next_cursor c) (λ f. f) e.no_postfix (e.member c.at) (the_name (next_cursor c)) (λ at v y k v_is y_is ends. record {})
    (member-leads d c h) (behind-shorter c.rest sign_is.Dot h) (name-parses (next_cursor c))

arrow-parses : (d : ℕ) (c : Cursor) → sign_at c.rest ≡ Some sign_is.Arrow → StepIs (postfix_operators d) (λ f. f) e.no_postfix c (Some (member_by e.arrow c))
unfolding member_by
arrow-parses d c h =
    link-part (postfix_operators d) name_rule c (next_cursor c) (λ f. f) e.no_postfix (e.arrow c.at) (the_name (next_cursor c)) (λ at v y k v_is y_is ends. record {})
    (arrow-leads d c h) (behind-shorter c.rest sign_is.Arrow h) (name-parses (next_cursor c))

bracket-of : (d : ℕ) (deeper : Parsers) → ((c : Cursor) → Outcome (inner_expression 0 d) c (deeper.whole c)) → (c : Cursor) → sign_at c.rest ≡ Some sign_is.LeftBracket
    → StepIs (postfix_operators d) (λ f. f) e.no_postfix c (step_of (λ s. operator_by deeper s c) (postfix_sign_of d (Some sign_is.LeftBracket)))
unfolding operator_by
bracket-of zero deeper o c h = operators-none zero c (ap (postfix_sign_of 0) h)
bracket-of (suc n) deeper o c h = rw (suc_zero_test n) (index-parses (suc n) deeper o c h)

step-of : (d : ℕ) (deeper : Parsers) → ((c : Cursor) → Outcome (inner_expression 0 d) c (deeper.whole c)) → (c : Cursor) (o : Option Sign) → sign_at c.rest ≡ o
    → StepIs (postfix_operators d) (λ f. f) e.no_postfix c (step_of (λ s. operator_by deeper s c) (postfix_sign_of d o))
unfolding operator_by
step-of d deeper o c (Some sign_is.LeftBracket) h = bracket-of d deeper o c h
step-of d deeper o c (Some sign_is.Dot) h = member-parses d c h
step-of d deeper o c (Some sign_is.Arrow) h = arrow-parses d c h
step-of d deeper o c (Some sign_is.PlusPlus) h = (increment-leads d c h, behind-shorter c.rest sign_is.PlusPlus h)
step-of d deeper o c (Some sign_is.MinusMinus) h = (decrement-leads d c h, behind-shorter c.rest sign_is.MinusMinus h)
step-of d deeper o c s h = operators-none d c (ap (postfix_sign_of d) h)

pub postfix-listing : (d : ℕ) (deeper : Parsers) → ((c : Cursor) → Outcome (inner_expression 0 d) c (deeper.whole c))
    → Listing (postfix_operators d) (postfix_step d deeper) (λ f. f) e.no_postfix
unfolding postfix_step postfix_sign
postfix-listing d deeper o = record { is = λ c. step-of d deeper o c (sign_at c.rest) refl }

put-operators : (fs : List (PostfixList → PostfixList)) → put (λ (f : PostfixList → PostfixList). f) fs e.no_postfix ≡ postfix_list fs
put-operators [] = refl
put-operators (f ∷ fs) = ap f (put-operators fs)

-- what follows an operand
pub step-none : (d : ℕ) (deeper : Parsers) (c : Cursor) → postfix_sign d c.rest ≡ None → postfix_step d deeper c ≡ None
unfolding postfix_step
step-none d deeper c h = ap (step_of (λ s. operator_by deeper s c)) h

pub step-some : (d : ℕ) (deeper : Parsers) (c : Cursor) (s : Sign) → postfix_sign d c.rest ≡ Some s → postfix_step d deeper c ≡ Some (operator_by deeper s c)
unfolding postfix_step
step-some d deeper c s h = ap (step_of (λ t. operator_by deeper t c)) h

some-operators : (x : ExprTree) (ops : PostfixList) → 1 ≤ length (postfix_kinds ops) → postfix_tree x ops ≡ e.Postfix x ops
some-operators x e.no_postfix h = absurd (omega arith)
some-operators x _ h = refl

operators-parse : (d : ℕ) (deeper : Parsers) → ((c : Cursor) → Outcome (inner_expression 0 d) c (deeper.whole c)) → (c mid : Cursor) (x : ExprTree) (s : Sign)
    → Leads (expression 15 d) (postfix_operators d) c mid (postfix_tree x)
    → postfix_sign d mid.rest ≡ Some s → Outcome (expression 15 d) c (operators_by d deeper x mid)
unfolding operators_by
operators-parse d deeper o c mid x s l h =
    list-parses (expression 15 d) (postfix_operators d) (postfix_step d deeper) c mid (postfix_tree x) (e.Postfix x) (λ f. f) e.no_postfix postfix_list
    (operator_by deeper s mid)
    (postfix-listing d deeper o) l (some-operators x) put-operators (step-some d deeper mid s h)

operated-of : (d : ℕ) (deeper : Parsers) → ((c : Cursor) → Outcome (inner_expression 0 d) c (deeper.whole c)) → (c mid : Cursor) (x : ExprTree) (s : Option Sign)
    → Leads (expression 15 d) (postfix_operators d) c mid (postfix_tree x)
    → postfix_sign d mid.rest ≡ s → Outcome (expression 15 d) c (if_some s (Ok (x, mid)) (operators_by d deeper x mid))
operated-of d deeper o c mid x None l h =
    list-none (expression 15 d) (postfix_operators d) (postfix_step d deeper) c mid (postfix_tree x) (λ f. f) e.no_postfix (postfix-listing d deeper o) l
    (step-none d deeper mid h)
operated-of d deeper o c mid x (Some s) l h = operators-parse d deeper o c mid x s l h

pub postfix-parses : (d : ℕ) (deeper : Parsers) → ((c : Cursor) → Outcome (inner_expression 0 d) c (deeper.whole c))
    → ((c : Cursor) → Outcome (expression 16 d) c (primary_by d deeper c)) → (c : Cursor) → Outcome (expression 15 d) c (postfix_by d deeper c)
unfolding postfix_by operated_by
postfix-parses d deeper o primary c =
    part (expression 15 d) (expression 16 d) (λ v. postfix_operators d) c c (λ p. postfix_tree p.0 p.1) (primary_by d deeper c)
    (λ x. operated_by d deeper x.0 x.1) (λ at v y k v_is y_is ends. follows d at v y k ends) (postfix-leads d c) (primary c)
    (λ x to found l. operated-of d deeper o c to x (postfix_sign d to.rest) l refl)
