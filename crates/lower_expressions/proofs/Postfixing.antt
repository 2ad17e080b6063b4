-- Operators behind an operand.
use Rattle.std.proofs.Common.{◌≡◌, ℕ, zero, suc, ◌+◌, ◌<◌, ◌≤◌, ◌∙◌, ◌||◌, ap, subst, sym, refl, arith, List, [], ◌∷◌, length, drop, get_or, Option, Bool}
use Rattle.std.proofs.lemmas.List.{drop_more}
use Rattle.c_syntax.specs.ExprTree as e
use Rattle.c_syntax.specs.Words.{PostfixList, plain_operators, plain_postfix}
use Rattle.c_syntax.specs.declared.expr.PostfixOperator.{PostfixOperator}
use Rattle.c_syntax.specs.declared.expr.PostfixOperator.TheVariants as postfix
use Rattle.c_syntax.proofs.PlainExprs.{plain_arrow_before, plain_decrement_before, plain_increment_before, plain_index_before, plain_member_before}
use Rattle.flow.specs.declared.node.Node.{Node}
use Rattle.c_meaning.specs.declared.value_type.ValueType.{ValueType}
use Rattle.c_meaning.specs.Facts.{Facts, Sites}
use Rattle.lower_relation.specs.Expressions.{PostfixOperatorsDo, has_more}
use Rattle.lower_relation.specs.Paths.{Graph, ◌then◌}
use Rattle.lower_nodes.specs.Made.{Made}
use Rattle.lower_operators.specs.Spots.{first_part, operators_after_first, place_after, place_before, token_after, type_behind}
use Rattle.lower_expressions.specs.Weights.{postfix_weight}
use Rattle.lower_operators.proofs.Spotted.{others_plain, place_alone, place_next, token_alone, type_next}
use Rattle.lower_nodes.specs.Standing.{Allowed}
use Rattle.lower_nodes.proofs.Building.{both_ways, nothing_made, then_made}

-- what is left to emit
weighs : (x : PostfixOperator) (rest : PostfixList) → postfix_weight (plain_postfix x e.no_postfix) ≤ postfix_weight (plain_postfix x rest)
weighs (postfix.Index token i) rest = rw (plain_index_before token i rest, plain_index_before token i e.no_postfix) (omega arith)
weighs (postfix.Member token name) rest = rw (plain_member_before token name rest, plain_member_before token name e.no_postfix) (omega arith)
weighs (postfix.Arrow token name) rest = rw (plain_arrow_before token name rest, plain_arrow_before token name e.no_postfix) (omega arith)
weighs (postfix.Increment token) rest = rw (plain_increment_before token rest, plain_increment_before token e.no_postfix) (omega arith)
weighs (postfix.Decrement token) rest = rw (plain_decrement_before token rest, plain_decrement_before token e.no_postfix) (omega arith)

follows : (x : PostfixOperator) (rest : PostfixList) → postfix_weight rest ≤ postfix_weight (plain_postfix x rest)
follows (postfix.Index token i) rest = rw (plain_index_before token i rest) (omega arith)
follows (postfix.Member token name) rest = rw (plain_member_before token name rest) (omega arith)
follows (postfix.Arrow token name) rest = rw (plain_arrow_before token name rest) (omega arith)
follows (postfix.Increment token) rest = rw (plain_increment_before token rest) (omega arith)
follows (postfix.Decrement token) rest = rw (plain_decrement_before token rest) (omega arith)

drop_all : (xs : List PostfixOperator) → drop (length xs) xs ≡ []
drop_all [] = refl
drop_all (x ∷ xs) = drop_all xs

-- the operators from this one on
pub operators_split : (xs : List PostfixOperator) (j : ℕ) (d : PostfixOperator) → j < length xs → d ≡ get_or xs j d →
    plain_operators (drop j xs) ≡ plain_postfix d (plain_operators (drop (j + 1) xs))
operators_split xs j d low at = ap plain_operators (drop_more xs j d low ∙ ap (λ z. z ∷ drop (j + 1) xs) (sym at))

pub operator_weighs : (xs : List PostfixOperator) (j : ℕ) (d : PostfixOperator) → j < length xs → d ≡ get_or xs j d →
    postfix_weight (plain_postfix d e.no_postfix) ≤ postfix_weight (plain_operators xs)
operator_weighs [] j d low at = absurd (omega (arith, low))
operator_weighs (x ∷ xs) zero d low at = rw at (weighs x (plain_operators xs))
operator_weighs (x ∷ xs) (suc j) d low at = omega (arith, operator_weighs xs j d (omega (arith, low)) at, follows x (plain_operators xs))

module _ (facts : Facts) (sites : Sites) where
  -- the first operator, and then the others
  first_then : (G : Graph) (taken known : Bool) (of : Option ValueType) (l : PostfixList) (i k : ℕ) →
      (first_part facts sites (taken || has_more (operators_after_first l)) known of l G then PostfixOperatorsDo G facts sites taken (place_after l) (facts.type_at (token_after l)) (operators_after_first l)) i k →
      PostfixOperatorsDo G facts sites taken known of l i k
  first_then G taken known of e.no_postfix i k h = h.1 ∙ h.2
  first_then G taken known of (e.index token x rest) i k h = (h.1.0, h.1.1, (h.1.2.0, h.1.2.1, (h.0, h.1.2.2, h.2)))
  first_then G taken known of (e.arrow token name rest) i k h = (h.1.0, h.1.1, (h.0, h.1.2, h.2))
  first_then G taken known of l i k h = h

  then_first : (G : Graph) (taken known : Bool) (of : Option ValueType) (l : PostfixList) (i k : ℕ) → PostfixOperatorsDo G facts sites taken known of l i k →
      (first_part facts sites (taken || has_more (operators_after_first l)) known of l G then PostfixOperatorsDo G facts sites taken (place_after l) (facts.type_at (token_after l)) (operators_after_first l)) i k
  then_first G taken known of e.no_postfix i k h = (i, refl, h)
  then_first G taken known of (e.index token x rest) i k h = (h.2.2.0, (h.0, h.1, (h.2.0, h.2.1, h.2.2.1)), h.2.2.2)
  then_first G taken known of (e.arrow token name rest) i k h = (h.2.0, (h.0, h.1, h.2.1), h.2.2)
  then_first G taken known of l i k h = h

  -- one more operator before those that were put
  pub behind_step : (taken known : Bool) (of : Option ValueType) (xs : List PostfixOperator) (m j : ℕ) (d : PostfixOperator) (n0 n1 n2 : List Node) (entry i k : ℕ) →
      m ≡ j + 1 → j < length xs → d ≡ get_or xs j d →
      Made (λ G. PostfixOperatorsDo G facts sites taken (place_before known (plain_operators xs) m) (type_behind facts of (plain_operators xs) m) (plain_operators (drop m xs))) n0 n1 entry k →
      Made (first_part facts sites (taken || has_more (plain_operators (drop m xs))) (place_before known (plain_operators xs) j) (type_behind facts of (plain_operators xs) j)
      (plain_postfix d (plain_operators (drop m xs)))) n1 n2 i entry →
      Made (λ G. PostfixOperatorsDo G facts sites taken (place_before known (plain_operators xs) j) (type_behind facts of (plain_operators xs) j) (plain_operators (drop j xs))) n0 n2 i k
  behind_step taken known of xs m j d n0 n1 n2 entry i k e low at rest made =
      let all : PostfixList = plain_operators xs in
      let more : PostfixList = plain_operators (drop (j + 1) xs) in
      let whole : PostfixList = plain_postfix d more in
      let first : Made (first_part facts sites (taken || has_more more) (place_before known all j) (type_behind facts of all j) whole) n1 n2 i entry =
      subst (λ q. Made (first_part facts sites (taken || has_more (plain_operators (drop q xs))) (place_before known all j) (type_behind facts of all j)
      (plain_postfix d (plain_operators (drop q xs)))) n1 n2 i entry) e made in
      let first' : Made (first_part facts sites (taken || has_more (operators_after_first whole)) (place_before known all j) (type_behind facts of all j) whole) n1 n2 i entry =
      subst (λ l. Made (first_part facts sites (taken || has_more l) (place_before known all j) (type_behind facts of all j) whole) n1 n2 i entry) (sym (others_plain d more)) first in
      let last : Made (λ G. PostfixOperatorsDo G facts sites taken (place_before known all (j + 1)) (type_behind facts of all (j + 1)) more) n0 n1 entry k =
      subst (λ q. Made (λ G. PostfixOperatorsDo G facts sites taken (place_before known all q) (type_behind facts of all q) (plain_operators (drop q xs))) n0 n1 entry k) e rest in
      let last1 : Made (λ G. PostfixOperatorsDo G facts sites taken (place_after whole) (type_behind facts of all (j + 1)) more) n0 n1 entry k =
      subst (λ b. Made (λ G. PostfixOperatorsDo G facts sites taken b (type_behind facts of all (j + 1)) more) n0 n1 entry k) (place_next known xs j d low at ∙ sym (place_alone d more)) last in
      let last2 : Made (λ G. PostfixOperatorsDo G facts sites taken (place_after whole) (facts.type_at (token_after whole)) more) n0 n1 entry k =
      subst (λ t. Made (λ G. PostfixOperatorsDo G facts sites taken (place_after whole) t more) n0 n1 entry k)
      (type_next facts sites of xs j d low at ∙ ap facts.type_at (sym (token_alone d more))) last1 in
      let last3 : Made (λ G. PostfixOperatorsDo G facts sites taken (place_after whole) (facts.type_at (token_after whole)) (operators_after_first whole)) n0 n1 entry k =
      subst (λ l. Made (λ G. PostfixOperatorsDo G facts sites taken (place_after whole) (facts.type_at (token_after whole)) l) n0 n1 entry k) (sym (others_plain d more)) last2 in
      subst (λ l. Made (λ G. PostfixOperatorsDo G facts sites taken (place_before known all j) (type_behind facts of all j) l) n0 n2 i k) (sym (operators_split xs j d low at))
      (both_ways (λ G. first_part facts sites (taken || has_more (operators_after_first whole)) (place_before known all j) (type_behind facts of all j) whole G
      then PostfixOperatorsDo G facts sites taken (place_after whole) (facts.type_at (token_after whole)) (operators_after_first whole))
      (λ G. PostfixOperatorsDo G facts sites taken (place_before known all j) (type_behind facts of all j) whole) k
      (λ G i k h. first_then G taken (place_before known all j) (type_behind facts of all j) whole i k h)
      (λ s i k h. then_first (Allowed s) taken (place_before known all j) (type_behind facts of all j) whole i k h) n0 n2 i
      (then_made (first_part facts sites (taken || has_more (operators_after_first whole)) (place_before known all j) (type_behind facts of all j) whole)
      (λ G. PostfixOperatorsDo G facts sites taken (place_after whole) (facts.type_at (token_after whole)) (operators_after_first whole)) n0 n1 n2 i entry k last3 first'))

  -- none is put yet
  pub behind_none : (taken known : Bool) (of : Option ValueType) (xs : List PostfixOperator) (n : List Node) (k : ℕ) →
      Made (λ G. PostfixOperatorsDo G facts sites taken (place_before known (plain_operators xs) (length xs)) (type_behind facts of (plain_operators xs) (length xs))
      (plain_operators (drop (length xs) xs))) n n k k
  behind_none taken known of xs n k =
      subst (λ l. Made (λ G. PostfixOperatorsDo G facts sites taken (place_before known (plain_operators xs) (length xs)) (type_behind facts of (plain_operators xs) (length xs)) (plain_operators l)) n n k k)
      (sym (drop_all xs)) (nothing_made n k)

  -- all are put
  pub behind_whole : (taken known : Bool) (of : Option ValueType) (xs : List PostfixOperator) (m : ℕ) (n0 n1 : List Node) (i k : ℕ) → m ≡ 0 →
      Made (λ G. PostfixOperatorsDo G facts sites taken (place_before known (plain_operators xs) m) (type_behind facts of (plain_operators xs) m) (plain_operators (drop m xs))) n0 n1 i k →
      Made (λ G. PostfixOperatorsDo G facts sites taken known of (plain_operators xs)) n0 n1 i k
  behind_whole taken known of xs m n0 n1 i k e made =
      subst (λ q. Made (λ G. PostfixOperatorsDo G facts sites taken (place_before known (plain_operators xs) q) (type_behind facts of (plain_operators xs) q) (plain_operators (drop q xs))) n0 n1 i k) e made
