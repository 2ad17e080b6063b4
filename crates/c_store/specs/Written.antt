-- What a store into an object gives.
use Rattle.std.specs.Prelude.{ℕ, length, nat_lt, if◌then◌else◌, map, slice_set, Option, None, Some, Result, Ok, Err}
use Rattle.std.specs.Ordering.{nat_cmp}
use Rattle.std.specs.FinMap.{FinMap, insert}
use Rattle.cbi_base.specs.declared.scalar.Scalar.{Scalar}
use Rattle.cbi_base.specs.declared.trap.Trap.{Trap}
use Rattle.cbi_base.specs.declared.trap.Trap.TheVariants as trap
use Rattle.cbi_base.specs.Objects.{Object, is_text}

abbrev pub with_cell : ℕ → Scalar → Object → Object
with_cell offset value object = record object { cells = slice_set object.cells offset value }

abbrev pub with_each : Scalar → Object → Object
with_each value object = record object { cells = map (λ _. value) object.cells }

-- a value stored at an offset into an object, or the trap
abbrev pub written_at : ℕ → Scalar → Object → Result Object Trap
written_at offset value object =
    if nat_lt offset (length object.cells)
    then (if is_text object.class then Err trap.ReadOnly else Ok (with_cell offset value object))
    else Err trap.Bounds

-- the same in a map of objects
abbrev pub put_back : FinMap nat_cmp Object → ℕ → Result Object Trap → Result (FinMap nat_cmp Object) Trap
put_back m number (Ok object) = Ok (insert m number object)
put_back m number (Err t) = Err t

abbrev pub stored_in : ℕ → ℕ → Scalar → Option Object → FinMap nat_cmp Object → Result (FinMap nat_cmp Object) Trap
stored_in number offset value None m = Err trap.Dead
stored_in number offset value (Some object) m = put_back m number (written_at offset value object)

-- each cell of a number's object, where it lives, has this value
abbrev pub filled_map : ℕ → Scalar → Option Object → FinMap nat_cmp Object → FinMap nat_cmp Object
filled_map number value None m = m
filled_map number value (Some object) m = insert m number (with_each value object)

-- what stands after a call that changes it, or its trap
abbrev pub state_or_trap : {A B : Type 0} → Result A Trap → B → Result B Trap
state_or_trap (Ok done) new = Ok new
state_or_trap (Err t) new = Err t
