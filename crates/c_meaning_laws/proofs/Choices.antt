-- Commas, conditionals and conditions as statements.
use Rattle.std.proofs.Common.{◌≡◌, ℕ, Bool, true, false, Option, Some, None, Result, Ok, Err, refl, ap, sym, ◌∙◌}
use Rattle.cbi_base.specs.declared.operators.Unary.TheVariants as unary
use Rattle.cbi_base.specs.declared.scalar.Scalar.{Scalar}
use Rattle.cbi_base.specs.declared.trap.Trap.{Trap}
use Rattle.cbi_base.specs.Scalars.{applied_to_one, logical_negation, truth_of}
use Rattle.c_syntax.specs.ExprTree as e
use Rattle.c_syntax.specs.ExprTree.{ExprTree}
use Rattle.c_meaning.specs.declared.value_type.ValueType.{ValueType}
use Rattle.c_meaning.specs.declared.value_type.ValueType.TheVariants as type
use Rattle.c_meaning.specs.Words.{is_null_as, arm_effect, Setting, expr, last_sense, after_entry, exec, exec_all, type_of, visited_truth, site_list, truth_value, sites_visited}
use Rattle.c_meaning.specs.Words.{World, Out, Go, Stop, OutDone, Flow, Next, answer_or_trap, bind, chosen_part}
use Rattle.c_meaning_laws.specs.Choices.{CommaIsSequence, ConditionalIsIf, NegatedConditionSwaps, in_sequence}
use Rattle.c_meaning_laws.proofs.Parts.{bind_behind}

-- the last operand of a comma, and one with others behind it
last_operand : (out : OutDone) → bind out (λ _. Go Next) ≡ bind (bind out (λ _. Go Next)) (after_entry (Go Next))
last_operand (Go x w) = refl
last_operand (Stop outcome w) = refl

next_operand : (out : OutDone) (rest : World → OutDone) (more : World → Out Flow) → ((w : World) → bind (rest w) (λ _. Go Next) ≡ more w)
    → bind (bind out (λ _. rest)) (λ _. Go Next) ≡ bind (bind out (λ _. Go Next)) (after_entry more)
next_operand (Go x w) rest more h = h w
next_operand (Stop outcome w) rest more h = refl

pub comma_is_sequence : CommaIsSequence
comma_is_sequence s n result token comma x e.no_exprs w = last_operand ((expr s x).effect w)
comma_is_sequence s n result token comma x (e.more_exprs y rest) w =
    next_operand ((expr s x).effect w) (last_sense s (e.more_exprs y rest)).effect (exec_all s n result (in_sequence token (e.more_exprs y rest)))
    (comma_is_sequence s n result token comma y rest)

chosen_next : (b : Bool) (first second : World → OutDone) (w : World)
    → bind (chosen_part b first second w) (λ _. Go Next) ≡ chosen_part b (λ u. bind (first u) (λ _. Go Next)) (λ u. bind (second u) (λ _. Go Next)) w
chosen_next true first second w = refl
chosen_next false first second w = refl

module _ (s : Setting) (token : ℕ) (c x y : ExprTree) where
  abbrev act : Option ValueType → ExprTree → World → OutDone
  act of z = arm_effect (is_null_as of z) (type_of s.facts z) of (expr s z)

  -- what is done for an arm whose value isn't taken
  abbrev either : Option ValueType → World → OutDone
  either of w = bind ((expr s c).value w) (λ v u. bind (visited_truth s token v u) (λ holds. chosen_part holds (act of x) (act of y)))

  either_next : (w : World) → bind (either (Some type.Void) w) (λ _. Go Next) ≡ bind (bind ((expr s c).value w) (visited_truth s token)) (λ holds.
      chosen_part holds (λ u. bind ((expr s x).effect u) (λ _. Go Next)) (λ u. bind ((expr s y).effect u) (λ _. Go Next)))
  either_next w =
      sym (bind_behind ((expr s c).value w) (λ v u. bind (visited_truth s token v u) (λ holds. chosen_part holds (act (Some type.Void) x) (act (Some type.Void) y)))
      (λ v u. bind (visited_truth s token v u) (λ holds.
      chosen_part holds (λ z. bind ((expr s x).effect z) (λ _. Go Next)) (λ z. bind ((expr s y).effect z) (λ _. Go Next))))
      (λ _. Go Next) (λ v u.
      bind_behind (visited_truth s token v u) (λ holds. chosen_part holds (act (Some type.Void) x) (act (Some type.Void) y)) _ (λ _. Go Next) (λ holds z.
      sym (chosen_next holds (expr s x).effect (expr s y).effect z))))
      ∙ bind_behind ((expr s c).value w) (visited_truth s token) _ _ (λ v u. refl)

pub conditional_is_if : ConditionalIsIf
conditional_is_if s n result statement token first second c x y w void =
    ap (λ of. bind (either s token c x y of w) (λ _. Go Next)) void ∙ either_next s token c x y w

-- a truth turned round
turned : (r : Result Bool Trap) (x y : World → Out Flow) (w : World)
    → bind (bind (answer_or_trap (logical_negation r) w) truth_value) (λ holds. chosen_part holds x y) ≡ bind (answer_or_trap r w) (λ holds. chosen_part holds y x)
turned (Ok true) x y w = refl
turned (Ok false) x y w = refl
turned (Err t) x y w = refl

negated : (v : Scalar) (x y : World → Out Flow) (w : World)
    → bind (bind (answer_or_trap (applied_to_one unary.Not v) w) truth_value) (λ holds. chosen_part holds x y) ≡ bind (truth_value v w) (λ holds. chosen_part holds y x)
unfolding applied_to_one
negated v x y w = turned (truth_of v) x y w

module _ (s : Setting) (c : ExprTree) (x y : World → Out Flow) where
  -- the condition and its negation, with the site that there may be
  abbrev plain : Option ℕ → World → Out Flow
  plain at w = bind (bind ((expr s c).value w) (λ v u. bind (sites_visited s (site_list at) v u) truth_value)) (λ holds. chosen_part holds y x)

  abbrev opposed : Option ℕ → World → Out Flow
  opposed at w =
      bind (bind (bind ((expr s c).value w) (λ v u. answer_or_trap (applied_to_one unary.Not v) u)) (λ v u. bind (sites_visited s (site_list at) v u) truth_value)) (λ holds.
      chosen_part holds x y)

  unseen_same : (w : World) → opposed None w ≡ plain None w
  unseen_same w = by_value ((expr s c).value w)
    where
      by_value : (out : Out Scalar) → bind (bind (bind out (λ v u. answer_or_trap (applied_to_one unary.Not v) u)) truth_value) (λ holds. chosen_part holds x y)
          ≡ bind (bind out truth_value) (λ holds. chosen_part holds y x)
      by_value (Go v u) = negated v x y u
      by_value (Stop outcome u) = refl

pub negated_condition_swaps : NegatedConditionSwaps
negated_condition_swaps s n result token negation c x y w bare =
    ap (λ at. opposed s c (exec s n result x) (exec s n result y) at w) bare
    ∙ unseen_same s c (exec s n result x) (exec s n result y) w
    ∙ ap (λ at. plain s c (exec s n result x) (exec s n result y) at w) (sym bare)
