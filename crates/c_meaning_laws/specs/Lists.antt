-- An array is zero behind the list that initialises it (C99 6.7.8p21).
use Rattle.std.specs.Prelude.{◌≡◌, ℕ, suc, ◌≤◌, ◌<◌, Bool, length, Some, Ok}
use Rattle.std.specs.FinMap.{get}
use Rattle.cbi_base.specs.Words.{zero_value, object_filled, Object, loaded_value}
use Rattle.cbi_base.specs.declared.scalar.Scalar.{Scalar}
use Rattle.cbi_base.specs.declared.scalar.Scalar.TheVariants.{Place}
use Rattle.cbi_base.specs.declared.scalar.Want.{Want}
use Rattle.c_syntax.specs.ExprTree as e
use Rattle.c_syntax.specs.ExprTree.{ExprTree, ExprList}
use Rattle.c_syntax.specs.StatementTree as tree
use Rattle.c_meaning.specs.Words.{Setting, element_set, variable_initialised, object_of, want_of, expr, expression_count, World, Go}

module _ (s : Setting) (token : ℕ) (wanted : Want) (number place : ℕ) where
  -- a load of this cell finds the same in both states
  abbrev pub LoadsAlike : World → World → Type 0
  LoadsAlike w u = loaded_value wanted (Place number place) u.objects ≡ loaded_value wanted (Place number place) w.objects

  -- Each item, evaluated in the state in which it stands, leaves the cell as it is, whatever else it does: the first one in this state, and each
  -- other one in the state behind the item before it.
  abbrev pub ItemsLeave : ℕ → ExprList → World → Type 0
  ItemsLeave index e.no_exprs w = Unit {0}
  ItemsLeave index (e.more_exprs x rest) w =
      ((v : Scalar) (u : World) → (expr s x).value w ≡ Go v u → LoadsAlike w u)
      × ((u : World) → element_set s token index x w ≡ Go tt u → ItemsLeave (suc index) rest u)

-- A load of a cell behind the list gives zero, or null, whatever the array held before: all its cells are zero before the first item is evaluated.
abbrev pub ListLeavesZero : Type 0
ListLeavesZero =
    (s : Setting) (token at number place : ℕ) (items : ExprList) (comma : Bool) (wanted : Want) (object : Object) (w u : World) →
    object_of s (s.facts.slot_at token) ≡ Some number → want_of (s.facts.element_at token) ≡ Some wanted →
    get w.objects.live number ≡ Some object → expression_count items ≤ place → place < length object.cells →
    ItemsLeave s token wanted number place 0 items (record w { objects = object_filled number (zero_value wanted) w.objects }) →
    variable_initialised s token (Some (tree.Braced at items comma)) w ≡ Go tt u → loaded_value wanted (Place number place) u.objects ≡ Ok (zero_value wanted)
