-- Declared variables and their initialisers (C99 6.7.8).
use Rattle.std.specs.Prelude.{ℕ, suc, ◌+◌, List, [], ◌∷◌, Option, Some, None}
use Rattle.cbi_base.specs.Words.{zero_value, object_filled, local_at, object_made_undefined, stored_bytes}
use Rattle.cbi_base.specs.declared.scalar.Want.{Want}
use Rattle.cbi_base.specs.declared.scalar.Want.TheVariants as want
use Rattle.c_syntax.specs.ExprTree as e
use Rattle.c_syntax.specs.Words.{ExprTree, ExprList, InitialTree, StartTree, DeclarationTree}
use Rattle.c_syntax.specs.StatementTree as tree
use Rattle.flow.specs.declared.program.Text.{Text}
use Rattle.flow.specs.declared.site.Slot.{Slot}
use Rattle.flow.specs.declared.site.Slot.TheVariants as slot
use Rattle.c_meaning.specs.declared.value_type.ValueType.{ValueType}
use Rattle.c_meaning.specs.declared.value_type.ValueType.TheVariants as type
use Rattle.c_meaning.specs.Conversions.{is_null_as}
use Rattle.c_meaning.specs.Expressions.{wanted_value}
use Rattle.c_meaning.specs.Facts.{Setting}
use Rattle.c_meaning.specs.Meaning.{expr, text_of_string}
use Rattle.c_meaning.specs.Places.{assigned_at, member_place, store_at, variable}
use Rattle.c_meaning.specs.Trees.{type_of}
use Rattle.c_meaning.specs.World.{World, Go, OutDone, bind, answer_or_trap, value_discarded, stuck_run}

-- what an array's elements are, where it is set to zero
abbrev pub want_of : Option ValueType → Option Want
want_of (Some (type.Number kind)) = Some (want.Number kind)
want_of (Some (type.Pointer size)) = Some want.Pointer
want_of other = None

-- the `=` behind the name of a variable, which has no bounds where it takes one value
abbrev pub equals_token : ℕ → ℕ
equals_token name = name + 1

-- the variable's object, with something done to it
abbrev pub on_object : Option ℕ → (ℕ → World → OutDone) → World → OutDone
on_object None act w = stuck_run w
on_object (Some number) act w = act number w

abbrev pub variable_cleared : ℕ → World → OutDone
variable_cleared number w = Go tt (record w { objects = object_made_undefined number w.objects })

-- all cells of the object are zero, or null
abbrev pub array_zeroed : Option Want → ℕ → World → OutDone
array_zeroed None number w = stuck_run w
array_zeroed (Some wanted) number w = Go tt (record w { objects = object_filled number (zero_value wanted) w.objects })

-- the bytes of a string are stored from the first cell on, without the closing zero
abbrev pub string_stored : Option Text → ℕ → World → OutDone
string_stored None number w = stuck_run w
string_stored (Some text) number w = bind (answer_or_trap (stored_bytes number 0 text.bytes w.objects) w) (λ objects u. Go tt (record u { objects = objects }))

module _ (s : Setting) where
  abbrev pub object_of : Option Slot → Option ℕ
  object_of (Some (slot.Local index)) = local_at index s.locals
  object_of other = None

  -- the local variable that the name at the token declares
  abbrev pub on_local : ℕ → (ℕ → World → OutDone) → World → OutDone
  on_local token act w = on_object (object_of (s.facts.slot_at token)) act w

  -- a scalar is stored as by assignment, with the visits of the sites at the `=`
  abbrev pub scalar_set : ℕ → ExprTree → World → OutDone
  scalar_set token value w =
      bind (variable s (s.facts.slot_at token) w) (λ p u.
      bind (wanted_value (is_null_as (s.facts.declared_at token) value) (type_of s.facts value) (s.facts.declared_at token) (expr s value) u) (λ x y.
      value_discarded (assigned_at s (equals_token token) p x y)))

  -- an element with this number is stored as by assignment
  abbrev pub element_set : ℕ → ℕ → ExprTree → World → OutDone
  element_set token index value w =
      bind (variable s (s.facts.slot_at token) w) (λ a u. bind (member_place (Some index) a u) (λ p y.
      bind (wanted_value (is_null_as (s.facts.element_at token) value) (type_of s.facts value) (s.facts.element_at token) (expr s value) y) (λ x z.
      value_discarded (store_at p x z))))

  -- the items of a list, the first of them for the element with this number
  abbrev pub elements_set : ℕ → ℕ → ExprList → World → OutDone
  elements_set token index e.no_exprs w = Go tt w
  elements_set token index (e.more_exprs value rest) w = bind (element_set token index value w) (λ _. elements_set token (suc index) rest)

  -- an array is zero in all cells before its list or its string is stored
  abbrev pub value_set : ℕ → Option ValueType → ExprTree → World → OutDone
  value_set token (Some (type.Array size)) value w =
      bind (on_local token (array_zeroed (want_of (s.facts.element_at token))) w) (λ _. on_local token (string_stored (text_of_string s.facts value)))
  value_set token of value w = scalar_set token value w

  abbrev pub variable_initialised : ℕ → Option InitialTree → World → OutDone
  variable_initialised token None w = Go tt w
  variable_initialised token (Some (tree.Value value)) w = value_set token (s.facts.declared_at token) value w
  variable_initialised token (Some (tree.Braced at items comma)) w =
      bind (on_local token (array_zeroed (want_of (s.facts.element_at token))) w) (λ _. elements_set token 0 items)

  -- a declaration makes its variable undefined, each time that it is reached, and then initialises it
  abbrev pub variable_started : StartTree → World → OutDone
  variable_started x w = bind (on_local x.declarator.name_token variable_cleared w) (λ _. variable_initialised x.declarator.name_token x.initial)

  abbrev pub all_started : List StartTree → World → OutDone
  all_started [] w = Go tt w
  all_started (x ∷ xs) w = bind (variable_started x w) (λ _. all_started xs)

  abbrev pub declaration_done : DeclarationTree → World → OutDone
  declaration_done d w = all_started d.starts w
