-- The objects of a function's variables: they are made as it is entered, filled and die as it is left.
use Rattle.std.specs.Prelude.{ℕ, zero, suc, ◌+◌, ◌-◌, nat_lt, if◌then◌else◌, List, [], ◌∷◌, map, replicate, Option, None, Some}
use Rattle.std.specs.FinMap.{get}
use Rattle.std.specs.Option.{option_and_then}
use Rattle.cbi_base.specs.declared.scalar.Class.TheVariants.{Local}
use Rattle.cbi_base.specs.declared.scalar.Scalar.{Scalar}
use Rattle.cbi_base.specs.declared.scalar.Scalar.TheVariants.{Undefined}
use Rattle.cbi_base.specs.Objects.{Object, Objects, made_with, with_object, object_killed}

-- the objects of a function's locals: so many, with the numbers from this one on
pub record Locals : Type 0 where
  pub first : ℕ
  pub count : ℕ

-- the object of a local
abbrev pub local_at : ℕ → Locals → Option ℕ
local_at index locals = if nat_lt index locals.count then Some (locals.first + index) else None

-- the cells of each variable at the start: an argument in the first cell of each of the first ones, and undefined cells
abbrev pub first_cells : List Scalar → List ℕ → List (List Scalar)
first_cells arguments [] = []
first_cells [] (size ∷ sizes) = replicate size Undefined ∷ first_cells [] sizes
first_cells (argument ∷ arguments) (size ∷ sizes) = (argument ∷ replicate (size - 1) Undefined) ∷ first_cells arguments sizes

-- objects with these cells, made one after another; None where there is no room for one of them
abbrev pub all_made : List (List Scalar) → Objects → Option Objects
all_made [] o = Some o
all_made (cells ∷ rest) o = option_and_then (all_made rest) (made_with Local cells o)

-- so many objects are dead from now on, from this number on
abbrev pub all_killed : ℕ → ℕ → Objects → Objects
all_killed first zero o = o
all_killed first (suc count) o = object_killed (first + count) (all_killed first count o)

abbrev pub filled_in : Objects → ℕ → Scalar → Option Object → Objects
filled_in o number value None = o
filled_in o number value (Some object) = with_object o number (record object { cells = map (λ _. value) object.cells })

-- each cell of the object, where it lives, has this value
abbrev pub object_filled : ℕ → Scalar → Objects → Objects
object_filled number value o = filled_in o number value (get o.live number)

-- these objects, made one after another; None where there is no room for one of them
abbrev pub each_made : List Object → Objects → Option Objects
each_made [] o = Some o
each_made (object ∷ rest) o = option_and_then (each_made rest) (made_with object.class object.cells o)
