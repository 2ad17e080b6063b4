-- Nodes that fit.
use Rattle.std.proofs.Common.{◌≡◌, ℕ, ◌≤◌, ◌<◌, refl, sym, subst, arith, Some, length}
use Rattle.std.specs.Prelude.{ℤ, Option, IsTrue, slice_get}
use Rattle.std.proofs.lemmas.Bool.{false≢true, le-leb, lt-ltb}
use Rattle.std.proofs.lemmas.Bool.Decides.{nat_tests}
use Rattle.cbi_base.specs.declared.scalar.Kind.{Kind}
use Rattle.cbi_base.specs.declared.scalar.Want.{Want}
use Rattle.cbi_base.specs.Kind.{lies_in}
use Rattle.flow.specs.declared.node.Node.{Node}
use Rattle.flow.specs.declared.node.Node.TheVariants as node
use Rattle.flow.specs.declared.scope.Bounds.{Bounds}
use Rattle.flow.specs.declared.scope.Names.{Names}
use Rattle.flow.specs.Words.{view, is_format, is_own, names_fit, step_limit}
use Rattle.c_meaning.specs.declared.operation.Operation.TheVariants.{MoveLeft, Span}
use Rattle.lower_fits.specs.Fitting.{fits_view}
use Rattle.lower_fits.proofs.Numbers.{Steps}

-- nodes that name nothing and have no number
abbrev pub IsFree : Node → Type 0
IsFree (node.Push kind value next) = ⊥
IsFree (node.Local index next) = ⊥
IsFree (node.Global index next) = ⊥
IsFree (node.Text index next) = ⊥
IsFree (node.Move size next) = ⊥
IsFree (node.Member offset next) = ⊥
IsFree (node.Span size next) = ⊥
IsFree (node.Call function next) = ⊥
IsFree (node.Format text count next) = ⊥
IsFree (node.Clear index next) = ⊥
IsFree (node.Zero index want next) = ⊥
IsFree (node.Spell index text next) = ⊥
IsFree (node.Mark site next) = ⊥
IsFree (node.Test site next) = ⊥
IsFree (node.Skip by next) = ⊥
IsFree (node.Choose weight fast slow) = ⊥
IsFree other = Unit {0}

module _ (names : Names) (bounds : Bounds) where
  -- they fit
  pub free_fits : (op : Node) → IsFree op → IsTrue (names_fit names bounds op)
  unfolding names_fit
  free_fits (node.Push kind value next) h = absurd h
  free_fits (node.Local index next) h = absurd h
  free_fits (node.Global index next) h = absurd h
  free_fits (node.Text index next) h = absurd h
  free_fits (node.Move size next) h = absurd h
  free_fits (node.Member offset next) h = absurd h
  free_fits (node.Span size next) h = absurd h
  free_fits (node.Call function next) h = absurd h
  free_fits (node.Format text count next) h = absurd h
  free_fits (node.Clear index next) h = absurd h
  free_fits (node.Zero index want next) h = absurd h
  free_fits (node.Spell index text next) h = absurd h
  free_fits (node.Mark site next) h = absurd h
  free_fits (node.Test site next) h = absurd h
  free_fits (node.Skip by next) h = absurd h
  free_fits (node.Choose weight fast slow) h = absurd h
  free_fits other h = refl

  -- a number of its kind may be pushed
  pub push_fits : (kind : Kind) (value : ℤ) → IsTrue (lies_in kind value) → IsTrue (names_fit names bounds (node.Push kind value 0))
  unfolding names_fit
  push_fits kind value h = h

  -- a variable of the function
  pub local_fits : (index : ℕ) → index < bounds.locals → IsTrue (names_fit names bounds (node.Local index 0))
  unfolding names_fit
  local_fits index h = lt-ltb index bounds.locals h

  -- a global
  pub global_fits : (index : ℕ) → index < names.globals → IsTrue (names_fit names bounds (node.Global index 0))
  unfolding names_fit
  global_fits index h = lt-ltb index names.globals h

  -- a member that isn't too far
  pub member_fits : (offset : ℕ) → offset ≤ step_limit → IsTrue (names_fit names bounds (node.Member offset 0))
  unfolding names_fit
  member_fits offset h = le-leb offset step_limit h

  -- a string
  pub text_fits : (index : ℕ) → index < length names.conversions → IsTrue (names_fit names bounds (node.Text index 0))
  unfolding names_fit
  text_fits index h = lt-ltb index (length names.conversions) h

  -- a step
  pub move_fits : (size : ℤ) → Steps (MoveLeft size) → IsTrue (names_fit names bounds (node.Move size 0))
  unfolding names_fit
  move_fits size h = h

  -- as many cells as a step
  pub span_fits : (size : ℕ) → Steps (Span size) → IsTrue (names_fit names bounds (node.Span size 0))
  unfolding names_fit
  span_fits size h = h

  -- as many arguments as a format has conversions
  pub format_fits : (index n : ℕ) → IsTrue (is_format (slice_get names.conversions index) n) → IsTrue (names_fit names bounds (node.Format index n 0))
  unfolding names_fit
  format_fits index n h = h

  -- a variable of the function becomes undefined, or zero, or a string is stored in it
  pub clear_fits : (index : ℕ) → index < bounds.locals → IsTrue (names_fit names bounds (node.Clear index 0))
  unfolding names_fit
  clear_fits index h = lt-ltb index bounds.locals h

  -- all cells of a variable of the function become zero
  pub zero_fits : (index : ℕ) (want : Want) → index < bounds.locals → IsTrue (names_fit names bounds (node.Zero index want 0))
  unfolding names_fit
  zero_fits index want h = lt-ltb index bounds.locals h

  -- a string is stored in a variable of the function
  pub spell_fits : (index text : ℕ) → index < bounds.locals → text < length names.conversions → IsTrue (names_fit names bounds (node.Spell index text 0))
  unfolding names_fit
  spell_fits index text h k = grind (arith, nat_tests)

  -- a site of the function
  pub own_fits : (owner : Option ℕ) → owner ≡ Some bounds.function → IsTrue (is_own bounds owner)
  own_fits owner e = subst (λ (x : Option ℕ). IsTrue (is_own bounds x)) (sym e) (grind (arith, nat_tests))

  -- a node whose view fits names what is there
  pub view_fits : (op : Node) → IsTrue (fits_view names bounds (view op)) → IsTrue (names_fit names bounds op)
  unfolding names_fit
  view_fits (node.Skip by next) h = absurd (false≢true h)
  view_fits (node.Test site next) h = absurd (false≢true h)
  view_fits (node.Choose weight fast slow) h = absurd (false≢true h)
  view_fits (node.Import next) h = absurd (false≢true h)
  view_fits (node.Export next) h = absurd (false≢true h)
  view_fits op h = h
