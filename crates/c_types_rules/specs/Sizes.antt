-- Sizes, counted in cells: a scalar has one. This is a rule of this project's own, since C99 6.5.3.4 counts bytes. Every object may begin at
-- every cell, so no cell is left out between the members of a struct.
use Rattle.std.specs.Prelude.{ℕ, ◌+◌, ◌*◌, min, nat_lt, nat_le, Bool, true, false, ◌&&◌, List, [], ◌∷◌, ◌++◌, length, slice_get, Option, Some, None}
use Rattle.c_types_rules.specs.declared.layout.StructType.{StructType}
use Rattle.c_types_rules.specs.TypeTree.{TypeTree, Void, Array, Struct}

-- how many cells an object has at most, and so have all globals together
abbrev pub most_cells : ℕ
most_cells = 1048576

-- Whether objects of the type are known whole (C99 6.2.5p1), where these structs are.
abbrev pub is_complete : List StructType → TypeTree → Bool
is_complete structs Void = false
is_complete structs (Array element size) = nat_lt 0 size && is_complete structs element
is_complete structs (Struct tag) = nat_lt tag (length structs)
is_complete structs t = true

abbrev pub struct_cells : Option StructType → ℕ
struct_cells None = 0
struct_cells (Some s) = s.cells

-- an array has its length times its element, a struct the sum of its members
abbrev pub cells_of : List StructType → TypeTree → ℕ
cells_of structs Void = 0
cells_of structs (Array element size) = size * cells_of structs element
cells_of structs (Struct tag) = struct_cells (slice_get structs tag)
cells_of structs t = 1

-- A number of cells, where all over the limit are one: what has so many is refused.
abbrev pub capped_cells : ℕ → ℕ
capped_cells n = min n (most_cells + 1)

-- whether an object may have the type: it is complete, and its size within the limit
abbrev pub is_object : List StructType → TypeTree → Bool
is_object structs t = is_complete structs t && nat_le (cells_of structs t) most_cells

-- a struct without members yet
abbrev pub empty_struct : StructType
empty_struct = record { members = []; cells = 0 }

-- a struct with one more member, which stands behind the others
abbrev pub with_member : List StructType → List ℕ → TypeTree → StructType → StructType
with_member structs name t s = record {
  members = s.members ++ record { name = name; ctype = t; offset = s.cells } ∷ [];
  cells = capped_cells (s.cells + cells_of structs t);
}
