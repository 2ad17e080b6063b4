-- Declarations with initialisers, and the assignments that they are.
use Rattle.std.proofs.Common.{◌≡◌, ℕ, List, [], ◌∷◌, ◌++◌, Option, Some, refl, ap, sym, ◌∙◌}
use Rattle.cbi_base.specs.declared.scalar.Scalar.{Scalar}
use Rattle.c_syntax.specs.ExprTree as e
use Rattle.c_syntax.specs.Words.{ExprTree, StartTree}
use Rattle.c_syntax.specs.declared.token.Sign.TheVariants as sign
use Rattle.c_syntax.specs.StatementTree as tree
use Rattle.flow.specs.declared.site.Slot.{Slot}
use Rattle.c_meaning.specs.declared.value_type.ValueType.{ValueType}
use Rattle.c_meaning.specs.declared.value_type.ValueType.TheVariants as type
use Rattle.c_meaning.specs.Words.{is_null_as, wanted_value, Setting, all_started, variable_cleared, equals_token, on_local, scalar_set, variable_started, value_set, expr, store_at}
use Rattle.c_meaning.specs.Words.{variable, after_entry, exec_all, type_of, sites_visited, World, Out, Go, Stop, OutDone, Flow, Next, bind, value_discarded, no_effect}
use Rattle.c_meaning_laws.specs.Rules.{IsScalar}
use Rattle.c_meaning_laws.specs.Initialising.{DeclarationIsOneOfEach, InitialiserIsAssignment, NamesDeclared, set_to}
use Rattle.c_meaning_laws.proofs.Parts.{bind_alike, bind_behind}

scalar_value : (s : Setting) (token : ℕ) (of : Option ValueType) (value : ExprTree) (w : World) → IsScalar of
    → value_set s token of value w ≡ scalar_set s token value w
scalar_value s token (Some (type.Number kind)) value w h = refl
scalar_value s token (Some (type.Pointer size)) value w h = refl
scalar_value s token of value w h = absurd h

module _ (s : Setting) (value : ExprTree) where
  -- the variable is found, and then the value, which is stored and seen by these sites
  abbrev set_with : Option Slot → Option ValueType → List ℕ → World → Out Scalar
  set_with at of sites w =
      bind (variable s at w) (λ p u. bind (wanted_value (is_null_as of value) (type_of s.facts value) of (expr s value) u) (λ x y.
      bind (store_at p x y) (sites_visited s sites)))

  set_done : (token : ℕ) (w : World)
      → scalar_set s token value w ≡ value_discarded (set_with (s.facts.slot_at token) (s.facts.declared_at token) (s.sites.pairs_at (equals_token token)) w)
  set_done token w =
      bind_behind (variable s (s.facts.slot_at token) w) _ _ (λ _. no_effect) (λ p u.
      bind_behind (wanted_value (is_null_as (s.facts.declared_at token) value) (type_of s.facts value) (s.facts.declared_at token) (expr s value) u) _ _
      (λ _. no_effect) (λ x y. refl))

  named_set : (declared at equals : ℕ) (name : List ℕ) (w : World) → NamesDeclared s declared at equals
      → scalar_set s declared value w ≡ (expr s (e.Assign equals sign.Equal (e.Name at name) value)).effect w
  named_set declared at equals name w names =
      set_done declared w
      ∙ ap (λ (t : Option Slot). value_discarded (set_with t (s.facts.declared_at declared) (s.sites.pairs_at (equals_token declared)) w)) (sym names.slot)
      ∙ ap (λ (of : Option ValueType). value_discarded (set_with (s.facts.slot_at at) of (s.sites.pairs_at (equals_token declared)) w)) (sym names.typed)
      ∙ ap (λ (sites : List ℕ). value_discarded (set_with (s.facts.slot_at at) (s.facts.type_at at) sites w)) (sym names.sites)

-- what goes on behind a part that gives nothing
then_rest : {A : Type 0} (out : OutDone) (f : World → OutDone) (rest : World → Out A)
    → bind (bind (bind out (λ _. f)) (λ _. no_effect)) (λ _. rest) ≡ bind out (λ _ u. bind (f u) (λ _. rest))
then_rest (Stop outcome w) f rest = refl
then_rest (Go x w) f rest = behind (f w)
  where
    behind : (out : OutDone) → bind (bind out (λ _. no_effect)) (λ _. rest) ≡ bind out (λ _. rest)
    behind (Go y u) = refl
    behind (Stop outcome u) = refl

next_entry : (out : OutDone) (rest : World → Out Flow) → bind (bind out (λ _. Go Next)) (after_entry rest) ≡ bind out (λ _. rest)
next_entry (Go x w) rest = refl
next_entry (Stop outcome w) rest = refl

pub initialiser_is_assignment : InitialiserIsAssignment
initialiser_is_assignment s n result d x value statement equals at name rest w names scalar =
    let token : ℕ = x.declarator.name_token in
    let more : World → Out Flow = exec_all s n result rest in
    let last : World → Out Flow = exec_all s n result (tree.stated (set_to statement equals at name value) rest) in
    then_rest (on_local s token variable_cleared w) (value_set s token (s.facts.declared_at token) value) more
    ∙ bind_alike (on_local s token variable_cleared w) (λ _ u. bind (value_set s token (s.facts.declared_at token) value u) (λ _. more)) (λ _. last) (λ _ u.
    ap (λ out. bind out (λ _. more)) (scalar_value s token (s.facts.declared_at token) value u scalar ∙ named_set s value token at equals name u names)
    ∙ sym (next_entry ((expr s (e.Assign equals sign.Equal (e.Name at name) value)).effect u) more))
    ∙ sym (then_rest (on_local s token variable_cleared w) no_effect last)

all_more : (s : Setting) (before after : List StartTree) (w : World)
    → all_started s (before ++ after) w ≡ bind (all_started s before w) (λ _. all_started s after)
all_more s [] after w = refl
all_more s (x ∷ before) after w =
    bind_behind (variable_started s x w) (λ _. all_started s before) (λ _. all_started s (before ++ after)) (λ _. all_started s after)
    (λ _ u. all_more s before after u)

pub declaration_is_one_of_each : DeclarationIsOneOfEach
declaration_is_one_of_each s n result d before after rest w =
    ap (λ out. bind out (λ _. exec_all s n result rest)) (all_more s before after w)
    ∙ sym (bind_behind (all_started s before w) (λ _. all_started s after) _ (λ _. exec_all s n result rest) (λ _ u. refl))
