-- Nodes for declared variables and their initialisers.
use Rattle.std.proofs.Common.{ℕ, suc, ◌+◌, refl, arith, List, [], ◌∷◌, Option, Some, None}
use Rattle.std.proofs.lemmas.List.Sums.{sum_by-cons}
use Rattle.cbi_base.specs.declared.scalar.Want.{Want}
use Rattle.c_syntax.specs.ExprTree as e
use Rattle.c_syntax.specs.Words.{ExprTree, ExprList, InitialTree, StartTree, DeclarationTree}
use Rattle.c_syntax.specs.StatementTree as tree
use Rattle.flow.specs.declared.node.Node.TheVariants as node
use Rattle.flow.specs.declared.program.Text.{Text}
use Rattle.flow.specs.declared.site.Slot.{Slot}
use Rattle.flow.specs.declared.site.Slot.TheVariants as slot
use Rattle.c_meaning.specs.declared.value_type.ValueType.{ValueType}
use Rattle.c_meaning.specs.declared.value_type.ValueType.TheVariants as type
use Rattle.c_meaning.specs.Words.{is_null_as, Facts, Sites, equals_token, want_of, text_of_string, type_of}
use Rattle.lower_relation.specs.Expressions.{number_of_text}
use Rattle.lower_relation.specs.Initialisers as i
use Rattle.lower_relation.specs.Paths.{Graph, Path}
use Rattle.lower_relation.specs.Room.{declaration_room, expr_room, exprs_room, initial_room, pair_visits, start_room}
use Rattle.compiler_exists.specs.Built.{Builds}
use Rattle.lower_nodes.specs.Ends.{one_end}
use Rattle.compiler_exists.proofs.Building.{◌before◌, does, fits, nothing, stuck}
use Rattle.compiler_exists.proofs.Expressions.{expression}
use Rattle.compiler_exists.proofs.Operators.{assigned, member, variable}
use Rattle.compiler_exists.proofs.Values.{dropped, wanted}

on_local : {R : Graph → ℕ → Path ℕ} (at : Option Slot) → ((index : ℕ) → Builds one_end (λ G. R G index) 2) → Builds one_end (λ G. i.OnLocal G at (R G)) 2
on_local None r = stuck
on_local (Some (slot.Global index)) r = stuck
on_local (Some (slot.Local index)) r = r index

clears : (index : ℕ) → Builds one_end (λ G. i.Clears G index) 2
clears index = fits (does (node.Clear index) (λ k. refl)) (omega arith)

zeroes : (kind : Option Want) (index : ℕ) → Builds one_end (λ G. i.Zeroes G kind index) 2
zeroes None index = stuck
zeroes (Some kind) index = fits (does (node.Zero index kind) (λ k. refl)) (omega arith)

spells : (number : Option ℕ) (text : Option Text) (index : ℕ) → Builds one_end (λ G. i.Spells G number text index) 2
spells (Some number) (Some text) index = fits (does (node.Spell index number) (λ k. refl)) (omega arith)
spells None None index = stuck
spells None (Some text) index = stuck
spells (Some number) None index = stuck

module _ (facts : Facts) (sites : Sites) where
  scalar : (token : ℕ) (value : ExprTree) →
      Builds one_end (λ G. i.ScalarSet G facts sites token value) (6 + pair_visits sites (equals_token token) + expr_room sites value)
  scalar token value =
      fits (variable (facts.slot_at token)
      before wanted (is_null_as (facts.declared_at token) value) (type_of facts value) (facts.declared_at token) (expression facts sites value)
      before dropped (assigned facts sites (equals_token token))) (omega arith)

  element : (token index : ℕ) (value : ExprTree) → Builds one_end (λ G. i.ElementSet G facts sites token index value) (8 + expr_room sites value)
  element token index value =
      fits (variable (facts.slot_at token) before member (Some index)
      before wanted (is_null_as (facts.element_at token) value) (type_of facts value) (facts.element_at token) (expression facts sites value)
      before dropped (does node.Store (λ k. refl))) (omega arith)

  elements : (token index : ℕ) (y : ExprList) → Builds one_end (λ G. i.ElementsSet G facts sites token index y) (exprs_room sites 8 y)
  elements token index e.no_exprs = nothing
  elements token index (e.more_exprs value rest) = element token index value before elements token (suc index) rest

  zeroed : (token : ℕ) → Builds one_end (λ G. i.ArrayZeroed G facts sites token) 2
  zeroed token = on_local (facts.slot_at token) (zeroes (want_of (facts.element_at token)))

  value_set : (token : ℕ) (of : Option ValueType) (value : ExprTree) →
      Builds one_end (λ G. i.ValueSet G facts sites token of value) (6 + pair_visits sites (equals_token token) + expr_room sites value)
  value_set token (Some (type.Array size)) value =
      fits (zeroed token before on_local (facts.slot_at token) (spells (number_of_text facts value) (text_of_string facts value))) (omega arith)
  value_set token of value = scalar token value

  initialised : (token : ℕ) (y : Option InitialTree) → Builds one_end (λ G. i.Initialised G facts sites token y) (initial_room sites token y)
  initialised token None = nothing
  initialised token (Some (tree.Value value)) = value_set token (facts.declared_at token) value
  initialised token (Some (tree.Braced at items comma)) = zeroed token before elements token 0 items

  starts : (y : StartTree) → Builds one_end (λ G. i.VariableStarts G facts sites y) (start_room sites y)
  starts y = on_local (facts.slot_at y.declarator.name_token) clears before initialised y.declarator.name_token y.initial

  all_start : (ys : List StartTree) (d : DeclarationTree) →
      Builds one_end (λ G. i.VariablesStart G facts sites ys) (declaration_room sites (record d { starts = ys }))
  all_start [] d = fits nothing (omega arith)
  all_start (y ∷ ys) d = fits (starts y before all_start ys d) (omega (arith, sum_by-cons (start_room sites) y ys))

  pub declares : (d : DeclarationTree) → Builds one_end (λ G. i.DeclarationPath G facts sites d) (declaration_room sites d)
  declares d = all_start d.starts d
