-- The types of declared names (C99 6.7.5).
use Rattle.std.specs.Prelude.{Bool, false, ◌&&◌, ◌==◌, if◌then◌else◌, pos, int_le, unsigned_abs, List, [], ◌∷◌, Option, Some, None, option_map, option_and_then}
use Rattle.c_syntax.specs.declared.parts.Bound.{Bound}
use Rattle.c_syntax.specs.declared.parts.Constant.{Constant}
use Rattle.c_syntax.specs.declared.parts.Declarator.{Declarator}
use Rattle.c_types_rules.specs.declared.layout.StructType.{StructType}
use Rattle.c_types_rules.specs.Words.{TypeTree, Array, is_object, most_cells}
use Rattle.c_types_expressions.specs.ExprWalk.{with_stars}

-- A bound is from 1 on. A longer array than the greatest object has more cells than fit, whatever its elements are.
abbrev pub is_bound : Constant → Bool
is_bound c = int_le (pos 1) c.value && int_le c.value (pos most_cells)

abbrev pub array_of : Constant → TypeTree → Option TypeTree
array_of c element = if is_bound c then Some (Array element (unsigned_abs c.value)) else None

abbrev pub bounded_by : Option Constant → Option TypeTree → Option TypeTree
bounded_by None element = None
bounded_by (Some c) element = option_and_then (array_of c) element

-- the array with these bounds, the last one innermost; none where a bound is missing or no length
abbrev pub bounded_array : List Bound → TypeTree → Option TypeTree
bounded_array [] t = Some t
bounded_array (b ∷ bs) t = bounded_by b.length (bounded_array bs t)

-- an array of a length that isn't known yet
abbrev pub unbounded_array : TypeTree → TypeTree
unbounded_array element = Array element 0

abbrev pub first_bounded : Option Constant → Option TypeTree → Option TypeTree
first_bounded None element = option_map unbounded_array element
first_bounded (Some c) element = option_and_then (array_of c) element

-- as before, but the first bound may be missing
abbrev pub with_bounds : List Bound → TypeTree → Option TypeTree
with_bounds [] t = Some t
with_bounds (b ∷ bs) t = first_bounded b.length (bounded_array bs t)

abbrev pub declared_type : Declarator → TypeTree → Option TypeTree
declared_type d b = with_bounds d.bounds (with_stars d.stars b)

-- whether it is an array whose length an initialiser is to give, and its elements may be objects
abbrev pub is_open : List StructType → TypeTree → Bool
is_open structs (Array element size) = size == 0 && is_object structs element
is_open structs t = false
