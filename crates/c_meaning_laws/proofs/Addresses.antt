-- The address of what an index finds, and of what a pointer leads to.
use Rattle.std.proofs.Common.{◌≡◌, ℕ, refl, ap, sym, ◌∙◌}
use Rattle.std.proofs.Math.Path.{fun_ext}
use Rattle.cbi_base.specs.declared.operators.Binary.TheVariants as op
use Rattle.cbi_base.specs.declared.scalar.Scalar.{Scalar}
use Rattle.c_syntax.specs.declared.token.Sign.TheVariants as sign
use Rattle.c_syntax.specs.ExprTree as e
use Rattle.c_syntax.specs.ExprTree.{ExprTree}
use Rattle.c_meaning.specs.declared.value_type.ValueType.{ValueType}
use Rattle.c_meaning.specs.Words.{Sense, sense_of_value, Setting, expr, operation, operation_result, pointed_place, type_of, World, Out, Go, answer_or_trap, bind}
use Rattle.std.proofs.Common.{Option}
use Rattle.c_meaning_laws.specs.Addresses.{AddressOfIndexIsSum, AddressOfTargetIsPointer}
use Rattle.c_meaning_laws.specs.Parentheses.{IsWritten}
use Rattle.c_meaning_laws.proofs.Indices.{followed_sense, index_value}
use Rattle.c_meaning_laws.proofs.Parts.{bind_alike, bind_behind}
use Rattle.c_meaning_laws.proofs.Places.{written}

module _ (s : Setting) where
  -- a sum of two parts of these types
  abbrev added : Sense → Sense → Option ValueType → Option ValueType → World → Out Scalar
  added m n left right w =
      bind (m.value w) (λ p u. bind (n.value u) (λ x y. bind (answer_or_trap (operation_result (operation op.Add left right) p x y.objects) y) (λ v. Go v)))

  sum_value : (level plus : ℕ) (left right : ExprTree) (w : World) → added (expr s left) (expr s right) (type_of s.facts left) (type_of s.facts right) w
      ≡ (expr s (e.Chain level left (e.more_links plus sign.Plus right e.no_links))).value w
  sum_value level plus left right w =
      bind_alike ((expr s left).value w) _ _ (λ p u.
      bind_behind ((expr s right).value u) (λ x y. answer_or_trap (operation_result (operation op.Add (type_of s.facts left) (type_of s.facts right)) p x y.objects) y) _
      (λ v. Go v) (λ x y. refl))

  written_added : (a i left right : ExprTree) (w : World) → IsWritten s.facts a left → IsWritten s.facts i right
      → added (expr s a) (expr s i) (type_of s.facts a) (type_of s.facts i) w
      ≡ added (expr s left) (expr s right) (type_of s.facts left) (type_of s.facts right) w
  written_added a i left right w h k =
      let l : (expr s left ≡ expr s a) × (type_of s.facts left ≡ type_of s.facts a) = written s a left h in
      let r : (expr s right ≡ expr s i) × (type_of s.facts right ≡ type_of s.facts i) = written s i right k in
      sym (ap (λ m. added m (expr s right) (type_of s.facts left) (type_of s.facts right) w) l.0
      ∙ ap (λ of. added (expr s a) (expr s right) of (type_of s.facts right) w) l.1
      ∙ ap (λ m. added (expr s a) m (type_of s.facts a) (type_of s.facts right) w) r.0
      ∙ ap (λ of. added (expr s a) (expr s i) (type_of s.facts a) of w) r.1)

pub address_of_index_is_sum : AddressOfIndexIsSum
address_of_index_is_sum s address bracket level plus a i left right keeps has l r =
    ap sense_of_value (fun_ext (λ w.
    ap (λ (m : Sense). m.place w) (followed_sense s a (e.index bracket i e.no_postfix))
    ∙ index_value s bracket i a w keeps
    ∙ written_added s a i left right w l r
    ∙ sum_value s level plus left right w))

pub address_of_target_is_pointer : AddressOfTargetIsPointer
address_of_target_is_pointer s address star p number offset w u h = ap (λ out. bind out (λ v y. answer_or_trap (pointed_place v) y)) h
