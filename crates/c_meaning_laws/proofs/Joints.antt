-- `&&` and `||`, and the conditionals that they are.
use Rattle.std.proofs.Common.{◌≡◌, ℕ, Bool, true, false, Option, Some, refl, ap, ap₂, sym, ◌∙◌}
use Rattle.std.proofs.Math.Path.{fun_ext}
use Rattle.cbi_base.specs.declared.scalar.Kind.TheVariants.{Int}
use Rattle.cbi_base.specs.declared.scalar.Scalar.{Scalar}
use Rattle.c_syntax.specs.declared.token.Sign.TheVariants as sign
use Rattle.c_syntax.specs.ExprTree as e
use Rattle.c_syntax.specs.ExprTree.{ExprTree}
use Rattle.c_meaning.specs.declared.value_type.ValueType.{ValueType}
use Rattle.c_meaning.specs.declared.value_type.ValueType.TheVariants as type
use Rattle.c_meaning.specs.Words.{is_null_as, Sense, arm_effect, arm_value, as_flag, conditional, sense_of_value, Setting, expr, flag_value, type_of, visited_truth, site_list}
use Rattle.c_meaning.specs.Words.{truth_value, sites_visited, World, Out, Go, OutDone, bind, chosen_part, value_discarded, stuck_run}
use Rattle.c_meaning_laws.specs.Constants.{one_at, zero_at}
use Rattle.c_meaning_laws.specs.Joints.{AndIsConditional, AreInts, OrIsConditional, flag_of, joined_by}
use Rattle.c_meaning_laws.proofs.Effects.{arm_goes, conditional_goes}
use Rattle.c_meaning_laws.proofs.Parts.{bind_alike, bind_behind, bind_go}

-- two senses that are no places, of which the second lets its value go
same_sense : (first second : World → Out Scalar) (act : World → OutDone) → ((w : World) → first w ≡ second w) → ((w : World) → act w ≡ value_discarded (second w))
    → sense_of_value first ≡ record { value = second; place = stuck_run; effect = act }
same_sense first second act same goes =
    ap₂ (λ (v : World → Out Scalar) (a : World → OutDone). record { value = v; place = stuck_run; effect = a }) (fun_ext same)
    (fun_ext (λ w. ap value_discarded (same w) ∙ sym (goes w)))

-- the type of the whole, and of its arms
abbrev int : Option ValueType
int = Some (type.Number Int)

module _ (s : Setting) where
  -- an arm of a conditional of this type, where the arm has that one
  abbrev arm : Option ValueType → Option ValueType → ExprTree → World → Out Scalar
  arm of own x = arm_value (is_null_as of x) own of (expr s x)

  abbrev act : Option ValueType → Option ValueType → ExprTree → World → OutDone
  act of own x = arm_effect (is_null_as of x) own of (expr s x)

  abbrev choice : Option ValueType → Option ValueType → Option ValueType → ℕ → ExprTree → ExprTree → ExprTree → Sense
  choice of own other token c x y = conditional s token (expr s c) (arm of own x) (arm of other y) (act of own x) (act of other y)

  -- of two arms that are `int`s
  abbrev int_choice : ℕ → ExprTree → ExprTree → ExprTree → Sense
  int_choice token c x y = choice int int int token c x y

  choice_is : (token : ℕ) (c x y : ExprTree) → s.facts.type_at token ≡ int → type_of s.facts x ≡ int → type_of s.facts y ≡ int
      → expr s (e.Conditional token c x y) ≡ int_choice token c x y
  choice_is token c x y whole left right =
      ap (λ of. choice of (type_of s.facts x) (type_of s.facts y) token c x y) whole
      ∙ ap (λ of. choice int of (type_of s.facts y) token c x y) left ∙ ap (λ of. choice int int of token c x y) right

  choice_goes : (token : ℕ) (c x y : ExprTree) (w : World) → (int_choice token c x y).effect w ≡ value_discarded ((int_choice token c x y).value w)
  choice_goes token c x y w =
      conditional_goes s 0 token (expr s c) (arm int int x) (arm int int y) (act int int x) (act int int y)
      (λ u. arm_goes (is_null_as int x) int int (expr s x) u tt) (λ u. arm_goes (is_null_as int y) int int (expr s y) u tt) w

  module _ (token question first second other : ℕ) (b : ExprTree) (ints : AreInts s token question first second other) where
    abbrev flag : ExprTree
    flag = flag_of question b first second

    flag_chosen : (holds : Bool) (w : World)
        → Go (flag_value holds) w ≡ bind (chosen_part holds (arm int int (one_at first)) (arm int int (zero_at second)) w) (λ v. Go v)
    flag_chosen true w = refl
    flag_chosen false w = refl

    -- the truth of the value as an `int` is the arm `b ? 1 : 0`
    flag_arm : (w : World) → as_flag (expr s b).value w ≡ arm int int flag w
    flag_arm w =
        bind_behind ((expr s b).value w) (λ v u. bind (truth_value v u) (λ holds. chosen_part holds (arm int int (one_at first)) (arm int int (zero_at second)))) _
        (λ v. Go v) (λ v u. bind_behind (truth_value v u) (λ holds. chosen_part holds (arm int int (one_at first)) (arm int int (zero_at second)))
        (λ holds. Go (flag_value holds)) (λ v. Go v) flag_chosen)
        ∙ ap (λ (at : Option ℕ). bind (bind ((expr s b).value w) (λ v u. bind (bind (sites_visited s (site_list at) v u) truth_value) (λ holds.
        chosen_part holds (arm int int (one_at first)) (arm int int (zero_at second))))) (λ v. Go v)) (sym ints.bare)
        ∙ ap (λ (m : Sense). bind (m.value w) (λ v. Go v)) (sym (choice_is question b (one_at first) (zero_at second) ints.flag ints.one ints.nought))

    both_chosen : (holds : Bool) (w : World)
        → bind (chosen_part holds (as_flag (expr s b).value) (Go (flag_value false)) w) (λ v. Go v) ≡ chosen_part holds (arm int int flag) (arm int int (zero_at other)) w
    both_chosen true w = bind_go (as_flag (expr s b).value w) ∙ flag_arm w
    both_chosen false w = refl

    either_chosen : (holds : Bool) (w : World)
        → bind (chosen_part holds (Go (flag_value true)) (as_flag (expr s b).value) w) (λ v. Go v) ≡ chosen_part holds (arm int int (one_at other)) (arm int int flag) w
    either_chosen true w = refl
    either_chosen false w = bind_go (as_flag (expr s b).value w) ∙ flag_arm w

    -- the operator, and the outer conditional
    joint_value : (a : ExprTree) (x y : World → Out Scalar) (left right : ExprTree)
        → ((holds : Bool) (w : World) → bind (chosen_part holds x y w) (λ v. Go v) ≡ chosen_part holds (arm int int left) (arm int int right) w) → (w : World)
        → bind ((expr s a).value w) (λ v u. bind (bind (visited_truth s token v u) (λ holds. chosen_part holds x y)) (λ r. Go r))
        ≡ (int_choice token a left right).value w
    joint_value a x y left right same w =
        bind_alike ((expr s a).value w) _ _ (λ v u.
        sym (bind_behind (visited_truth s token v u) (λ holds. chosen_part holds x y) (λ holds. chosen_part holds (arm int int left) (arm int int right)) (λ r. Go r)
        (λ holds y. sym (same holds y))))

    and_is : (level : ℕ) (a : ExprTree) → expr s (joined_by sign.AndAnd level token a b) ≡ expr s (e.Conditional token a flag (zero_at other))
    and_is level a =
        same_sense (expr s (joined_by sign.AndAnd level token a b)).value (int_choice token a flag (zero_at other)).value
        (int_choice token a flag (zero_at other)).effect
        (joint_value a (as_flag (expr s b).value) (Go (flag_value false)) flag (zero_at other) both_chosen)
        (choice_goes token a flag (zero_at other))
        ∙ sym (choice_is token a flag (zero_at other) ints.whole ints.flag ints.beside)

    or_is : (level : ℕ) (a : ExprTree) → expr s (joined_by sign.OrOr level token a b) ≡ expr s (e.Conditional token a (one_at other) flag)
    or_is level a =
        same_sense (expr s (joined_by sign.OrOr level token a b)).value (int_choice token a (one_at other) flag).value
        (int_choice token a (one_at other) flag).effect
        (joint_value a (Go (flag_value true)) (as_flag (expr s b).value) (one_at other) flag either_chosen)
        (choice_goes token a (one_at other) flag)
        ∙ sym (choice_is token a (one_at other) flag ints.whole ints.beside ints.flag)

pub and_is_conditional : AndIsConditional
and_is_conditional s level token question first second other a b ints = and_is s token question first second other b ints level a

pub or_is_conditional : OrIsConditional
or_is_conditional s level token question first second other a b ints = or_is s token question first second other b ints level a
