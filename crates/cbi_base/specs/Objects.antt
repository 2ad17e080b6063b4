-- Objects of cells: what memory is to a program (C99 3.14 and 6.2.4, with sizes counted in cells). A cell keeps the kind that was stored.
use Rattle.std.specs.Prelude.{◌≡◌, ◌⊎◌, ◌<◌, ◌≤◌, ℕ, ◌+◌, ◌^◌, Bool, true, false, not, ◌&&◌, ◌==◌, nat_le, nat_lt, if◌then◌else◌, ℤ, pos, ◌+ℤ◌, ◌-ℤ◌}
use Rattle.std.specs.Prelude.{int_le, int_div, int_rem, ◌*ℤ◌, List, [], ◌∷◌, length, map, Option, None, Some, Result, Ok, Err, slice_get, slice_set}
use Rattle.std.specs.Prelude.{replicate, unsigned_abs}
use Rattle.std.specs.List.{sum_by}
use Rattle.std.specs.Ordering.{nat_cmp, int_eq}
use Rattle.std.specs.FinMap.{FinMap, get, insert, remove, values, empty}
use Rattle.cbi_base.specs.declared.scalar.Kind.TheVariants as kind
use Rattle.cbi_base.specs.declared.scalar.Scalar.{Scalar}
use Rattle.cbi_base.specs.declared.scalar.Scalar.TheVariants.{Number, Place, Null, Undefined}
use Rattle.cbi_base.specs.declared.scalar.Class.{Class}
use Rattle.cbi_base.specs.declared.scalar.Class.TheVariants.{Text, Heap}
use Rattle.cbi_base.specs.declared.scalar.Want.{Want}
use Rattle.cbi_base.specs.declared.scalar.Want.TheVariants as want
use Rattle.cbi_base.specs.Scalars.{char_of}
use Rattle.cbi_base.specs.declared.operators.Order.{Order}
use Rattle.cbi_base.specs.declared.operators.Order.TheVariants.{Lt, Le, Gt, Ge, Eq, Ne}
use Rattle.cbi_base.specs.declared.trap.Trap.{Trap}
use Rattle.cbi_base.specs.declared.trap.Trap.TheVariants as trap

pub record Object : Type 0 where
  pub class : Class
  pub cells : List Scalar

-- how many were made so far, and those that live, by their numbers; any other number is dead
pub record Objects : Type 0 where
  pub made : ℕ
  pub live : FinMap nat_cmp Object

abbrev pub no_objects : Objects
no_objects = record { made = 0; live = empty }

-- the most live cells, and the most objects that are made
abbrev pub cell_limit : ℕ
cell_limit = 4194304

abbrev pub object_limit : ℕ
object_limit = 2 ^ 62

abbrev pub live_cells : Objects → ℕ
live_cells o = sum_by (λ object. length object.cells) (values o.live)

abbrev pub has_room : ℕ → Objects → Bool
has_room cells o = nat_le (live_cells o + cells) cell_limit && nat_lt o.made object_limit

abbrev pub with_object : Objects → ℕ → Object → Objects
with_object o number object = record o { live = insert o.live number object }

-- one more object, with the number of objects made before it
abbrev pub one_object_more : Class → List Scalar → Objects → Objects
one_object_more class cells o = record { made = o.made + 1; live = insert o.live o.made (record { class = class; cells = cells }) }

-- the same where there is room for it
abbrev pub made_with : Class → List Scalar → Objects → Option Objects
made_with class cells o = if has_room (length cells) o then Some (one_object_more class cells o) else None

-- the new object's first cell, or null where none was made
abbrev pub place_or_null : ℕ → Objects → Option Objects → Scalar × Objects
place_or_null number o None = (Null, o)
place_or_null number o (Some objects) = (Place number 0, objects)

-- an object of `malloc` more, of so many undefined cells
abbrev pub new_undefined : ℕ → Objects → Objects
new_undefined cells o = one_object_more Heap (replicate cells Undefined) o

-- `malloc` has nothing to give: no cells are asked for, the live cells would pass their limit, or the greatest number of objects was made
abbrev pub GivesNull : ℕ → Objects → Type 0
GivesNull cells o = (cells ≡ 0) ⊎ ((cell_limit < live_cells o + cells) ⊎ (object_limit ≤ o.made))

-- what `malloc` gives (C99 7.20.3.3): null for no cells and where there is no room, else a new object of so many undefined cells
unfoldable pub object_allocated : ℕ → Objects → Scalar × Objects
object_allocated cells o = if cells == 0 then (Null, o) else place_or_null o.made o (made_with Heap (replicate cells Undefined) o)

-- the object is dead from now on
abbrev pub object_killed : ℕ → Objects → Objects
object_killed number o = record o { live = remove o.live number }

-- an object whose cells are all undefined
abbrev pub undefined_in : Objects → ℕ → Option Object → Objects
undefined_in o number None = o
undefined_in o number (Some object) = with_object o number (record object { cells = map (λ _. Undefined) object.cells })

abbrev pub object_made_undefined : ℕ → Objects → Objects
object_made_undefined number o = undefined_in o number (get o.live number)

-- a live object, or the trap of a dead one
abbrev pub live_or : Option Object → Result Object Trap
live_or None = Err trap.Dead
live_or (Some object) = Ok object

infixl 10 ◌>>=◌
abbrev pub ◌>>=◌ : {A B : Type 0} → Result A Trap → (A → Result B Trap) → Result B Trap
(Ok x) >>= f = f x
(Err t) >>= f = Err t

-- a number is no pointer, and null and a dead object can't be used
abbrev pub used_at : {A : Type 0} → Scalar → Objects → (ℕ → ℕ → Object → Result A Trap) → Result A Trap
used_at Undefined o use_it = Err trap.Undefined
used_at (Number kind value) o use_it = Err trap.Internal
used_at Null o use_it = Err trap.NullUse
used_at (Place number offset) o use_it = live_or (get o.live number) >>= use_it number offset

-- what a load finds, of the kind that it wants
abbrev pub is_wanted : Want → Scalar → Bool
is_wanted (want.Number kind.Char) (Number kind.Char value) = true
is_wanted (want.Number kind.Int) (Number kind.Int value) = true
is_wanted (want.Number kind.Unsigned) (Number kind.Unsigned value) = true
is_wanted want.Pointer (Place number offset) = true
is_wanted want.Pointer Null = true
is_wanted wanted value = false

abbrev pub found_cell : Want → Option Scalar → Result Scalar Trap
found_cell wanted None = Err trap.Bounds
found_cell wanted (Some Undefined) = Err trap.Undefined
found_cell wanted (Some value) = if is_wanted wanted value then Ok value else Err trap.WrongKind

-- the value at a pointer: null, dead, out of bounds, undefined and another kind are traps, in this order
unfoldable pub loaded_value : Want → Scalar → Objects → Result Scalar Trap
loaded_value wanted pointer o = used_at pointer o (λ number offset object. found_cell wanted (slice_get object.cells offset))

abbrev pub is_text : Class → Bool
is_text Text = true
is_text class = false

abbrev pub set_in : ℕ → ℕ → Scalar → Objects → Object → Result Objects Trap
set_in number offset value o object =
    if nat_lt offset (length object.cells)
    then (if is_text object.class then Err trap.ReadOnly else Ok (with_object o number (record object { cells = slice_set object.cells offset value })))
    else Err trap.Bounds

-- a value is stored at a pointer: null, dead, out of bounds and a text are traps, in this order
unfoldable pub value_stored : Scalar → Scalar → Objects → Result Objects Trap
value_stored pointer Undefined o = Err trap.Undefined
value_stored pointer value o = used_at pointer o (λ number offset object. set_in number offset value o object)

-- a pointer moved by so many cells, within its object or to its end
abbrev pub moved_in : ℕ → ℤ → Object → Result Scalar Trap
moved_in number to object =
    if int_le (pos 0) to && int_le to (pos (length object.cells)) then Ok (Place number (unsigned_abs to)) else Err trap.Bounds

unfoldable pub moved_pointer : Scalar → ℤ → Objects → Result Scalar Trap
moved_pointer pointer cells o = used_at pointer o (λ number offset object. moved_in number (pos offset +ℤ cells) object)

abbrev pub is_heap : Class → Bool
is_heap Heap = true
is_heap class = false

abbrev pub is_heap_start : ℕ → Option Object → Bool
is_heap_start offset None = false
is_heap_start offset (Some object) = (offset == 0) && is_heap object.class

-- `free`: null does nothing, and anything but the start of a live object of `malloc` is a trap
unfoldable pub object_released : Scalar → Objects → Result Objects Trap
object_released Undefined o = Err trap.Undefined
object_released (Number kind value) o = Err trap.Internal
object_released Null o = Ok o
object_released (Place number offset) o = if is_heap_start offset (get o.live number) then Ok (object_killed number o) else Err trap.BadFree

-- two pointers: an undefined one stops first, and then a number
abbrev pub of_pointers : {A : Type 0} → Scalar → Scalar → Result A Trap → Result A Trap
of_pointers Undefined right answer = Err trap.Undefined
of_pointers left Undefined answer = Err trap.Undefined
of_pointers (Number kind value) right answer = Err trap.Internal
of_pointers left (Number kind value) answer = Err trap.Internal
of_pointers left right answer = answer

-- the same object and offset, or null twice
abbrev pub same_place : Scalar → Scalar → Bool
same_place Null Null = true
same_place (Place number offset) (Place other at) = (number == other) && (offset == at)
same_place left right = false

-- two places in one object: null of either is a trap, then a dead one, then another object
abbrev pub within_one : {A : Type 0} → Scalar → Scalar → Objects → (ℕ → ℕ → Result A Trap) → Result A Trap
within_one (Place number offset) (Place other at) o use_them =
    live_or (get o.live number) >>= λ _. live_or (get o.live other) >>= λ _. if number == other then use_them offset at else Err trap.Unrelated
within_one left right o use_them = Err trap.NullUse

abbrev pub in_order : Order → ℕ → ℕ → Bool
in_order Lt left right = nat_lt left right
in_order Le left right = nat_le left right
in_order Gt left right = nat_lt right left
in_order Ge left right = nat_le right left
in_order Eq left right = left == right
in_order Ne left right = not (left == right)

-- pointers compared (C99 6.5.8 and 6.5.9): equality never traps on pointers
unfoldable pub pointer_comparison : Order → Scalar → Scalar → Objects → Result Bool Trap
pointer_comparison Eq left right o = of_pointers left right (Ok (same_place left right))
pointer_comparison Ne left right o = of_pointers left right (Ok (not (same_place left right)))
pointer_comparison order left right o = of_pointers left right (within_one left right o (λ i j. Ok (in_order order i j)))

-- how many elements of so many cells lie between two places (C99 6.5.6p9)
abbrev pub elements_between : ℕ → ℤ → Result ℤ Trap
elements_between size cells = if int_eq (int_rem cells (pos size)) (pos 0) then Ok (int_div cells (pos size)) else Err trap.Bounds

unfoldable pub pointer_difference : Scalar → Scalar → ℕ → Objects → Result ℤ Trap
pointer_difference left right size o = of_pointers left right (within_one left right o (λ i j. elements_between size (pos i -ℤ pos j)))

-- a pointer moved by a number times so many cells; an undefined value of the two stops first
unfoldable pub moved_by : ℤ → Scalar → Scalar → Objects → Result Scalar Trap
moved_by size Undefined by o = Err trap.Undefined
moved_by size pointer Undefined o = Err trap.Undefined
moved_by size pointer (Number kind by) o = moved_pointer pointer (by *ℤ size) o
moved_by size pointer other o = Err trap.Internal

-- bytes are stored as `char` one after another, from this place of an object on
abbrev pub stored_bytes : ℕ → ℕ → List ℕ → Objects → Result Objects Trap
stored_bytes number offset [] o = Ok o
stored_bytes number offset (byte ∷ bytes) o = value_stored (Place number offset) (char_of byte) o >>= stored_bytes number (offset + 1) bytes
