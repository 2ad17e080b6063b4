-- A member of what a pointer leads to.
use Rattle.std.proofs.Common.{◌≡◌, ℕ, ℤ, Bool, true, false, List, Option, Some, None, refl, ap, sym, ◌∙◌}
use Rattle.std.proofs.Math.Path.{fun_ext}
use Rattle.std.proofs.lemmas.Bool.{false≢true}
use Rattle.std.specs.Prelude.{IsSome}
use Rattle.cbi_base.specs.declared.scalar.Kind.{Kind}
use Rattle.cbi_base.specs.declared.scalar.Scalar.{Scalar}
use Rattle.cbi_base.specs.declared.scalar.Scalar.TheVariants.{Number}
use Rattle.cbi_base.specs.Words.{is_zero, moved_pointer}
use Rattle.c_syntax.specs.declared.expr.PrefixOperator.TheVariants as prefix
use Rattle.c_syntax.specs.ExprTree as e
use Rattle.c_syntax.specs.ExprTree.{ExprTree, PostfixList}
use Rattle.flow.specs.declared.site.Slot.{Slot}
use Rattle.c_meaning.specs.Words.{Sense, postfixed_sense, loaded_operand, place_or_value, Setting, expr, value_after_postfix, member_place, pointed_place, unless_zero, ends_as_place, is_place}
use Rattle.c_meaning.specs.Words.{postfix_token, token_of, type_of, World, Out, answer_or_trap, bind}
use Rattle.c_meaning_laws.specs.Typed.{Typed, TypedPostfix, variable_named}
use Rattle.c_meaning_laws.specs.Indexing.{with_postfix_operators, then_more}
use Rattle.c_meaning_laws.specs.Members.{ArrowIsMember, TypedArrowMeets}
use Rattle.c_meaning_laws.specs.Parentheses.{IsWritten, KeepsType}
use Rattle.c_meaning_laws.proofs.Indices.{followed_sense, reached}
use Rattle.c_meaning_laws.proofs.Parts.{bind_alike, bind_behind}
use Rattle.c_meaning_laws.proofs.Places.{typed_keeps, value_settled, written}

-- a member is sought after the pointer is followed
module _ (rest : Scalar → World → Out Scalar) (offset : ℕ) (w : World) where
  abbrev sought : Scalar → World → Out Scalar
  sought q u = bind (member_place (Some offset) q u) rest

  number_sought : (b : Bool) (kind : Kind) (n : ℤ) → sought (Number kind n) w ≡ bind (answer_or_trap (unless_zero b (Number kind n)) w) sought
  unfolding moved_pointer
  number_sought true kind n = refl
  number_sought false kind n = refl

  pointer_sought : (q : Scalar) → sought q w ≡ bind (answer_or_trap (pointed_place q) w) sought
  unfolding moved_pointer
  pointer_sought (Number kind n) = number_sought (is_zero n) kind n
  pointer_sought q = refl

follows : (offset : Option ℕ) (rest : Scalar → World → Out Scalar) (q : Scalar) (w : World) → IsSome offset
    → bind (member_place offset q w) rest ≡ bind (answer_or_trap (pointed_place q) w) (λ p u. bind (member_place offset p u) rest)
follows None rest q w known = absurd (false≢true known)
follows (Some offset) rest q w known = pointer_sought rest offset w q

module _ (s : Setting) (arrow : ℕ) (name : List ℕ) where
  arrow_found : (p left : ExprTree) (paren star : ℕ) (more : PostfixList) (w : World) → KeepsType s.facts p → IsSome (s.facts.offset_at arrow)
      → IsWritten s.facts p left
      → reached s p (e.arrow arrow name more) w ≡ reached s (e.Paren paren (e.Prefix star prefix.Indirection left)) (e.member arrow name more) w
  arrow_found p left paren star more w keeps known l =
      let rest : Scalar → World → Out Scalar = λ q u. bind (member_place (s.facts.offset_at arrow) q u) (value_after_postfix s true (s.facts.type_at arrow) more) in
      bind_behind (place_or_value (is_place p) (expr s p) w) (loaded_operand (is_place p) (type_of s.facts p)) _ rest (λ v u. refl)
      ∙ ap (λ out. bind out rest) (sym (value_settled s p w keeps))
      ∙ bind_alike ((expr s p).value w) rest (λ v u. bind (answer_or_trap (pointed_place v) u) rest)
      (λ v u. follows (s.facts.offset_at arrow) (value_after_postfix s true (s.facts.type_at arrow) more) v u known)
      ∙ bind_behind ((expr s p).value w) (λ v u. answer_or_trap (pointed_place v) u) _ rest (λ v u. refl)
      ∙ ap (λ (m : Sense). bind (bind (m.value w) (λ v u. answer_or_trap (pointed_place v) u)) rest) (sym (written s p left l).0)

  typed_offset : (count : ℕ) (operators more : PostfixList) (known : Bool) (named : Option Slot) (token : ℕ)
      → TypedPostfix s.facts s.sites count known named (s.facts.type_at token) (then_more operators (e.arrow arrow name more))
      → IsSome (s.facts.offset_at arrow)
  typed_offset count e.no_postfix more known named token h = h.1
  typed_offset count (e.index next j rest) more known named token h = typed_offset count rest more true None next h.2
  typed_offset count (e.member next other rest) more known named token h = typed_offset count rest more true None next h.2
  typed_offset count (e.arrow next other rest) more known named token h = typed_offset count rest more true None next h.2
  typed_offset count (e.increment next rest) more known named token h = typed_offset count rest more false None next h.2
  typed_offset count (e.decrement next rest) more known named token h = typed_offset count rest more false None next h.2

  typed_arrow : (count : ℕ) (p : ExprTree) (more : PostfixList) → Typed s.facts s.sites count (with_postfix_operators p (e.arrow arrow name more))
      → (KeepsType s.facts p) × (IsSome (s.facts.offset_at arrow))
  typed_arrow count (e.Postfix primary operators) more h =
      (tt, typed_offset count operators more (is_place primary) (variable_named s.facts primary) (token_of primary) h.1)
  typed_arrow count p more h = (typed_keeps s count p h.0, h.1.1)

pub arrow_is_member : ArrowIsMember
arrow_is_member s arrow paren star name p left more keeps known l =
    followed_sense s p (e.arrow arrow name more)
    ∙ ap (postfixed_sense (ends_as_place true more) (s.facts.type_at (postfix_token arrow more)))
    (fun_ext (λ w. arrow_found s arrow name p left paren star more w keeps known l))

pub typed_arrow_meets : TypedArrowMeets
typed_arrow_meets s count arrow name p more h = typed_arrow s arrow name count p more h
