-- What stands before an operator behind an operand, and whether one stands behind it.
use Rattle.std.proofs.Common.{◌≡◌, ℕ, zero, suc, ◌+◌, ◌<◌, ◌≤◌, ◌∙◌, ap, sym, refl, arith, List, [], ◌∷◌, length, drop, get_or, Option, Bool, true, false}
use Rattle.c_syntax.specs.ExprTree as e
use Rattle.c_syntax.specs.Words.{PostfixList, plain_operators, plain_postfix}
use Rattle.c_syntax.specs.declared.expr.PostfixOperator.{PostfixOperator}
use Rattle.c_syntax.specs.declared.expr.PostfixOperator.TheVariants as postfix
use Rattle.c_syntax.proofs.PlainExprs.{plain_arrow_before, plain_decrement_before, plain_increment_before, plain_index_before, plain_member_before}
use Rattle.c_meaning.specs.declared.value_type.ValueType.{ValueType}
use Rattle.c_meaning.specs.Facts.{Facts, Sites}
use Rattle.lower_relation.specs.Expressions.{has_more}
use Rattle.lower_operators.specs.Spots.{operators_after_first, place_after, place_before, token_after, type_behind}

pub others_plain : (x : PostfixOperator) (rest : PostfixList) → operators_after_first (plain_postfix x rest) ≡ rest
others_plain (postfix.Index token i) rest = ap operators_after_first (plain_index_before token i rest)
others_plain (postfix.Member token name) rest = ap operators_after_first (plain_member_before token name rest)
others_plain (postfix.Arrow token name) rest = ap operators_after_first (plain_arrow_before token name rest)
others_plain (postfix.Increment token) rest = ap operators_after_first (plain_increment_before token rest)
others_plain (postfix.Decrement token) rest = ap operators_after_first (plain_decrement_before token rest)

-- what an operator is doesn't rest on what follows
pub place_alone : (x : PostfixOperator) (rest : PostfixList) → place_after (plain_postfix x rest) ≡ place_after (plain_postfix x e.no_postfix)
place_alone (postfix.Index token i) rest = rw (plain_index_before token i rest, plain_index_before token i e.no_postfix) refl
place_alone (postfix.Member token name) rest = rw (plain_member_before token name rest, plain_member_before token name e.no_postfix) refl
place_alone (postfix.Arrow token name) rest = rw (plain_arrow_before token name rest, plain_arrow_before token name e.no_postfix) refl
place_alone (postfix.Increment token) rest = rw (plain_increment_before token rest, plain_increment_before token e.no_postfix) refl
place_alone (postfix.Decrement token) rest = rw (plain_decrement_before token rest, plain_decrement_before token e.no_postfix) refl

pub token_alone : (x : PostfixOperator) (rest : PostfixList) → token_after (plain_postfix x rest) ≡ token_after (plain_postfix x e.no_postfix)
token_alone (postfix.Index token i) rest = rw (plain_index_before token i rest, plain_index_before token i e.no_postfix) refl
token_alone (postfix.Member token name) rest = rw (plain_member_before token name rest, plain_member_before token name e.no_postfix) refl
token_alone (postfix.Arrow token name) rest = rw (plain_arrow_before token name rest, plain_arrow_before token name e.no_postfix) refl
token_alone (postfix.Increment token) rest = rw (plain_increment_before token rest, plain_increment_before token e.no_postfix) refl
token_alone (postfix.Decrement token) rest = rw (plain_decrement_before token rest, plain_decrement_before token e.no_postfix) refl

-- whether operators are left
has_one : (x : PostfixOperator) (rest : PostfixList) → has_more (plain_postfix x rest) ≡ true
has_one (postfix.Index token i) rest = rw (plain_index_before token i rest) refl
has_one (postfix.Member token name) rest = rw (plain_member_before token name rest) refl
has_one (postfix.Arrow token name) rest = rw (plain_arrow_before token name rest) refl
has_one (postfix.Increment token) rest = rw (plain_increment_before token rest) refl
has_one (postfix.Decrement token) rest = rw (plain_decrement_before token rest) refl

pub some_left : (xs : List PostfixOperator) (m : ℕ) → m < length xs → has_more (plain_operators (drop m xs)) ≡ true
some_left [] m low = absurd (omega (arith, low))
some_left (x ∷ xs) zero low = has_one x (plain_operators xs)
some_left (x ∷ xs) (suc m) low = some_left xs m (omega (arith, low))

pub none_left : (xs : List PostfixOperator) (m : ℕ) → length xs ≤ m → has_more (plain_operators (drop m xs)) ≡ false
none_left [] zero high = refl
none_left [] (suc m) high = refl
none_left (x ∷ xs) zero high = absurd (omega (arith, high))
none_left (x ∷ xs) (suc m) high = none_left xs m (omega (arith, high))

place_suc : (known : Bool) (xs : List PostfixOperator) (j : ℕ) (d : PostfixOperator) → j < length xs → d ≡ get_or xs j d →
    place_before known (plain_operators xs) (suc j) ≡ place_after (plain_postfix d e.no_postfix)
place_suc known [] j d low at = absurd (omega (arith, low))
place_suc known (x ∷ xs) zero d low at = place_alone x (plain_operators xs) ∙ ap (λ z. place_after (plain_postfix z e.no_postfix)) (sym at)
place_suc known (x ∷ xs) (suc j) d low at =
    ap (λ l. place_before (place_after (plain_postfix x (plain_operators xs))) l (suc j)) (others_plain x (plain_operators xs))
    ∙ place_suc (place_after (plain_postfix x (plain_operators xs))) xs j d (omega (arith, low)) at

pub place_next : (known : Bool) (xs : List PostfixOperator) (j : ℕ) (d : PostfixOperator) → j < length xs → d ≡ get_or xs j d →
    place_before known (plain_operators xs) (j + 1) ≡ place_after (plain_postfix d e.no_postfix)
place_next known xs j d low at =
    let more : j + 1 ≡ suc j = omega arith in
    ap (place_before known (plain_operators xs)) more ∙ place_suc known xs j d low at

module _ (facts : Facts) (sites : Sites) where
  type_suc : (of : Option ValueType) (xs : List PostfixOperator) (j : ℕ) (d : PostfixOperator) → j < length xs → d ≡ get_or xs j d →
      type_behind facts of (plain_operators xs) (suc j) ≡ facts.type_at (token_after (plain_postfix d e.no_postfix))
  type_suc of [] j d low at = absurd (omega (arith, low))
  type_suc of (x ∷ xs) zero d low at =
      ap facts.type_at (token_alone x (plain_operators xs) ∙ ap (λ z. token_after (plain_postfix z e.no_postfix)) (sym at))
  type_suc of (x ∷ xs) (suc j) d low at =
      ap (λ l. type_behind facts (facts.type_at (token_after (plain_postfix x (plain_operators xs)))) l (suc j)) (others_plain x (plain_operators xs))
      ∙ type_suc (facts.type_at (token_after (plain_postfix x (plain_operators xs)))) xs j d (omega (arith, low)) at

  pub type_next : (of : Option ValueType) (xs : List PostfixOperator) (j : ℕ) (d : PostfixOperator) → j < length xs → d ≡ get_or xs j d →
      type_behind facts of (plain_operators xs) (j + 1) ≡ facts.type_at (token_after (plain_postfix d e.no_postfix))
  type_next of xs j d low at =
      let more : j + 1 ≡ suc j = omega arith in
      ap (type_behind facts of (plain_operators xs)) more ∙ type_suc of xs j d low at
