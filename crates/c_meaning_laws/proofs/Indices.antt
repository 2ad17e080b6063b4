-- What an index finds.
use Rattle.std.proofs.Common.{◌≡◌, ℕ, Bool, true, false, Option, Some, None, refl, ap, ap₂, sym, ◌∙◌, inl, inr}
use Rattle.std.proofs.Math.Path.{fun_ext}
use Rattle.cbi_base.specs.declared.scalar.Scalar.{Scalar}
use Rattle.cbi_base.specs.declared.operators.Binary.TheVariants as op
use Rattle.c_syntax.specs.ExprTree as e
use Rattle.c_syntax.specs.ExprTree.{ExprTree, PostfixList}
use Rattle.flow.specs.declared.site.Slot.{Slot}
use Rattle.c_meaning.specs.declared.operation.Operation.{Operation}
use Rattle.c_meaning.specs.declared.operation.Operation.TheVariants.{MoveLeft, MoveRight}
use Rattle.c_meaning.specs.declared.value_type.ValueType.{ValueType}
use Rattle.c_meaning.specs.declared.value_type.ValueType.TheVariants as type
use Rattle.c_meaning.specs.Words.{is_pointer_value, Sense, sense_of_place, postfixed_sense, loaded_operand, place_or_value, Setting, expr, value_after_postfix, operation, operation_result, member_place}
use Rattle.c_meaning.specs.Words.{pointed_place, stepped_behind, ends_as_place, is_place, postfix_token, token_of, type_of, World, Out, Go, answer_or_trap, bind}
use Rattle.c_meaning.specs.Words.{chosen_part, stuck_run}
use Rattle.c_meaning_laws.specs.Rules.{IsPointing, Moves}
use Rattle.c_meaning_laws.specs.Typed.{Typed, TypedPostfix, variable_named}
use Rattle.c_meaning_laws.specs.Indexing.{FollowedIndexMeansSum, HasPointer, IndexIsPlaceOfSum, IndexMeansSum, TypedIndexMeets, at_sum, with_postfix_operators, then_more}
use Rattle.c_meaning_laws.specs.Parentheses.{IsWritten, KeepsType}
use Rattle.c_meaning_laws.proofs.Parts.{bind_behind}
use Rattle.c_meaning_laws.proofs.Places.{typed_keeps, value_settled, written}
use Rattle.c_meaning_laws.proofs.Sums.{points, sum_place}

-- what further operators end as, and the token of the last one
ends_more : (b : Bool) (operators more : PostfixList) → ends_as_place b (then_more operators more) ≡ ends_as_place (ends_as_place b operators) more
ends_more b e.no_postfix more = refl
ends_more b (e.index token i rest) more = ends_more true rest more
ends_more b (e.member token name rest) more = ends_more true rest more
ends_more b (e.arrow token name rest) more = ends_more true rest more
ends_more b (e.increment token rest) more = ends_more false rest more
ends_more b (e.decrement token rest) more = ends_more false rest more

token_more : (token : ℕ) (operators more : PostfixList) → postfix_token token (then_more operators more) ≡ postfix_token (postfix_token token operators) more
token_more token e.no_postfix more = refl
token_more token (e.index next i rest) more = token_more next rest more
token_more token (e.member next name rest) more = token_more next rest more
token_more token (e.arrow next name rest) more = token_more next rest more
token_more token (e.increment next rest) more = token_more next rest more
token_more token (e.decrement next rest) more = token_more next rest more

-- tokens of one type, with the same operators behind them
type_more : (s : Setting) (token other : ℕ) (more : PostfixList) → s.facts.type_at token ≡ s.facts.type_at other
    → s.facts.type_at (postfix_token token more) ≡ s.facts.type_at (postfix_token other more)
type_more s token other e.no_postfix same = same
type_more s token other more same = refl

behind_more : (s : Setting) (operators more : PostfixList) (known : Bool) (token : ℕ) (v : Scalar) (w : World)
    → value_after_postfix s known (s.facts.type_at token) (then_more operators more) v w
    ≡ bind (value_after_postfix s known (s.facts.type_at token) operators v w)
    (value_after_postfix s (ends_as_place known operators) (s.facts.type_at (postfix_token token operators)) more)
behind_more s e.no_postfix more known token v w = refl
behind_more s (e.index next i rest) more known token v w =
    bind_behind (loaded_operand known (s.facts.type_at token) v w) _ _ _ (λ p u. bind_behind ((expr s i).value u) _ _ _ (λ x y.
    bind_behind (answer_or_trap (operation_result (operation op.Add (s.facts.type_at token) (type_of s.facts i)) p x y.objects) y) _ _ _
    (behind_more s rest more true next)))
behind_more s (e.member next name rest) more known token v w =
    bind_behind (member_place (s.facts.offset_at next) v w) _ _ _ (behind_more s rest more true next)
behind_more s (e.arrow next name rest) more known token v w =
    bind_behind (loaded_operand known (s.facts.type_at token) v w) _ _ _ (λ p u.
    bind_behind (member_place (s.facts.offset_at next) p u) _ _ _ (behind_more s rest more true next))
behind_more s (e.increment next rest) more known token v w =
    bind_behind (chosen_part known (stepped_behind s true next (s.facts.type_at token) v) stuck_run w) _ _ _ (behind_more s rest more false next)
behind_more s (e.decrement next rest) more known token v w =
    bind_behind (chosen_part known (stepped_behind s false next (s.facts.type_at token) v) stuck_run w) _ _ _ (behind_more s rest more false next)

spot_postfixed : (b : Bool) (of : Option ValueType) (m : World → Out Scalar) (w : World) → m w ≡ place_or_value b (postfixed_sense b of m) w
spot_postfixed true of m w = refl
spot_postfixed false of m w = refl

-- what an expression finds or gives, and then the operators behind it
abbrev pub reached : Setting → ExprTree → PostfixList → World → Out Scalar
reached s x more w = bind (place_or_value (is_place x) (expr s x) w) (value_after_postfix s (is_place x) (type_of s.facts x) more)

pub followed_sense : (s : Setting) (x : ExprTree) (more : PostfixList)
    → expr s (with_postfix_operators x more) ≡ postfixed_sense (ends_as_place (is_place x) more) (s.facts.type_at (postfix_token (token_of x) more)) (reached s x more)
followed_sense s (e.Postfix primary operators) more =
    let x : ExprTree = e.Postfix primary operators in
    let m : World → Out Scalar = reached s primary operators in
    let n : World → Out Scalar = reached s primary (then_more operators more) in
    let whole : ℕ = postfix_token (token_of primary) (then_more operators more) in
    ap (λ b. postfixed_sense b (s.facts.type_at whole) n) (ends_more (is_place primary) operators more)
    ∙ ap (λ token. postfixed_sense (ends_as_place (is_place x) more) (s.facts.type_at token) n) (token_more (token_of primary) operators more)
    ∙ ap (λ r. postfixed_sense (ends_as_place (is_place x) more) (s.facts.type_at (postfix_token (token_of x) more)) r) (fun_ext (λ w.
    bind_behind (place_or_value (is_place primary) (expr s primary) w) _ _ (value_after_postfix s (is_place x) (type_of s.facts x) more)
    (behind_more s operators more (is_place primary) (token_of primary))
    ∙ ap (λ o. bind o (value_after_postfix s (is_place x) (type_of s.facts x) more)) (spot_postfixed (is_place x) (type_of s.facts x) m w)))
followed_sense s x more = refl

module _ (s : Setting) (bracket : ℕ) (i : ExprTree) where
  abbrev alone : PostfixList
  alone = e.index bracket i e.no_postfix

  -- the sum of two expressions as a place
  abbrev summed : Sense → Sense → Option ValueType → Option ValueType → World → Out Scalar
  summed m n left right w =
      bind (bind (m.value w) (λ p u. bind (bind (n.value u) (λ x y. answer_or_trap (operation_result (operation op.Add left right) p x y.objects) y)) (λ v. Go v)))
      (λ v u. answer_or_trap (pointed_place v) u)

  -- what is added to what, and then found
  pub index_value : (a : ExprTree) (w : World) → KeepsType s.facts a
      → reached s a alone w ≡ bind ((expr s a).value w) (λ p u. bind ((expr s i).value u) (λ x y.
      bind (answer_or_trap (operation_result (operation op.Add (type_of s.facts a) (type_of s.facts i)) p x y.objects) y) (λ v. Go v)))
  index_value a w h =
      bind_behind (place_or_value (is_place a) (expr s a) w) (loaded_operand (is_place a) (type_of s.facts a)) _ _ (λ v u. refl)
      ∙ ap (λ o. bind o (λ p u. bind ((expr s i).value u) (λ x y.
      bind (answer_or_trap (operation_result (operation op.Add (type_of s.facts a) (type_of s.facts i)) p x y.objects) y) (λ v. Go v)))) (sym (value_settled s a w h))

  index_found : (a : ExprTree) (w : World) → KeepsType s.facts a → HasPointer s.facts a i
      → reached s a alone w ≡ summed (expr s a) (expr s i) (type_of s.facts a) (type_of s.facts i) w
  index_found a w h k =
      index_value a w h
      ∙ points (expr s i).value (operation_result (operation op.Add (type_of s.facts a) (type_of s.facts i))) (sum_place (type_of s.facts a) (type_of s.facts i) k)
      ((expr s a).value w)

  -- the same where each may stand within parentheses
  written_sum : (star paren plus : ℕ) (a left right : ExprTree) (w : World) → IsWritten s.facts a left → IsWritten s.facts i right
      → summed (expr s a) (expr s i) (type_of s.facts a) (type_of s.facts i) w ≡ (expr s (at_sum star paren plus left right)).place w
  written_sum star paren plus a left right w h k =
      let l : (expr s left ≡ expr s a) × (type_of s.facts left ≡ type_of s.facts a) = written s a left h in
      let r : (expr s right ≡ expr s i) × (type_of s.facts right ≡ type_of s.facts i) = written s i right k in
      sym (ap₂ (λ m of. summed m (expr s right) of (type_of s.facts right) w) l.0 l.1 ∙ ap₂ (λ m of. summed (expr s a) m (type_of s.facts a) of w) r.0 r.1)

  pointing_pointer : (of : Option ValueType) → IsPointing of → is_pointer_value of ≡ true
  pointing_pointer (Some (type.Pointer size)) h = refl
  pointing_pointer (Some (type.Array size)) h = refl
  pointing_pointer of h = absurd h

  moves_pointer : (o : Operation) (a : ExprTree) → Moves o (type_of s.facts a) (type_of s.facts i) → HasPointer s.facts a i
  moves_pointer (MoveLeft size) a h = inl (pointing_pointer (type_of s.facts a) h.0)
  moves_pointer (MoveRight size) a h = inr (pointing_pointer (type_of s.facts i) h.1)
  moves_pointer o a h = absurd h

  typed_behind : (count : ℕ) (operators more : PostfixList) (known : Bool) (named : Option Slot) (token : ℕ)
      → TypedPostfix s.facts s.sites count known named (s.facts.type_at token) (then_more operators (e.index bracket i more))
      → Moves (operation op.Add (s.facts.type_at (postfix_token token operators)) (type_of s.facts i)) (s.facts.type_at (postfix_token token operators))
      (type_of s.facts i)
  typed_behind count e.no_postfix more known named token h = h.1
  typed_behind count (e.index next j rest) more known named token h = typed_behind count rest more true None next h.2
  typed_behind count (e.member next name rest) more known named token h = typed_behind count rest more true None next h.2
  typed_behind count (e.arrow next name rest) more known named token h = typed_behind count rest more true None next h.2
  typed_behind count (e.increment next rest) more known named token h = typed_behind count rest more false None next h.2
  typed_behind count (e.decrement next rest) more known named token h = typed_behind count rest more false None next h.2

  typed_index : (count : ℕ) (a : ExprTree) (more : PostfixList) → Typed s.facts s.sites count (with_postfix_operators a (e.index bracket i more))
      → (KeepsType s.facts a) × (HasPointer s.facts a i)
  typed_index count (e.Postfix primary operators) more h =
      let a : ExprTree = e.Postfix primary operators in (
        tt,
        moves_pointer (operation op.Add (type_of s.facts a) (type_of s.facts i)) a
            (typed_behind count operators more (is_place primary) (variable_named s.facts primary) (token_of primary) h.1),
      )
  typed_index count a more h =
      (typed_keeps s count a h.0, moves_pointer (operation op.Add (type_of s.facts a) (type_of s.facts i)) a h.1.1)

module _ (s : Setting) (bracket star paren plus : ℕ) (a i left right : ExprTree) (keeps : KeepsType s.facts a) (has : HasPointer s.facts a i)
    (l : IsWritten s.facts a left) (r : IsWritten s.facts i right) where
  reached_place : (w : World) → reached s a (e.index bracket i e.no_postfix) w ≡ (expr s (at_sum star paren plus left right)).place w
  reached_place w = index_found s bracket i a w keeps has ∙ written_sum s bracket i star paren plus a left right w l r

  reached_more : (outer : ℕ) (more : PostfixList) (w : World) → s.facts.type_at bracket ≡ s.facts.type_at outer
      → reached s a (e.index bracket i more) w ≡ reached s (e.Paren outer (at_sum star paren plus left right)) more w
  reached_more outer more w same =
      bind_behind (place_or_value (is_place a) (expr s a) w) (value_after_postfix s (is_place a) (type_of s.facts a) (e.index bracket i e.no_postfix)) _
      (value_after_postfix s true (s.facts.type_at bracket) more) (behind_more s (e.index bracket i e.no_postfix) more (is_place a) (token_of a))
      ∙ ap₂ (λ o of. bind o (value_after_postfix s true of more)) (reached_place w) same

pub index_is_place_of_sum : IndexIsPlaceOfSum
index_is_place_of_sum s bracket star paren plus a i left right w keeps has l r =
    ap (λ (m : Sense). m.place w) (followed_sense s a (e.index bracket i e.no_postfix)) ∙ reached_place s bracket star paren plus a i left right keeps has l r w

pub index_means_sum : IndexMeansSum
index_means_sum s bracket star paren plus a i left right keeps has l r same =
    followed_sense s a (e.index bracket i e.no_postfix)
    ∙ ap₂ sense_of_place same (fun_ext (λ w. reached_place s bracket star paren plus a i left right keeps has l r w))

pub followed_index_means_sum : FollowedIndexMeansSum
followed_index_means_sum s bracket outer star paren plus a i left right more keeps has l r same =
    followed_sense s a (e.index bracket i more)
    ∙ ap₂ (λ of m. postfixed_sense (ends_as_place true more) of m) (type_more s bracket outer more same)
    (fun_ext (λ w. reached_more s bracket star paren plus a i left right keeps has l r outer more w same))

pub typed_index_meets : TypedIndexMeets
typed_index_meets s count bracket a i more h = typed_index s bracket i count a more h
