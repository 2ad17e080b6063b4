-- Zero in each cell of an object.
use Rattle.std.specs.Prelude.{ℕ, List, replicate}
use Rattle.std.specs.List.{flat_map}
use Rattle.cbi_base.specs.declared.scalar.Scalar.{Scalar}
use Rattle.c_types_rules.specs.declared.layout.Member.{Member}
use Rattle.c_meaning.specs.Globals.{zero_cells}

-- the cells, so many times
abbrev pub cells_repeated : ℕ → List Scalar → List Scalar
cells_repeated count cells = flat_map (λ cells. cells) (replicate count cells)

-- zeros in the cells of several members
abbrev pub member_zeros : List (List Scalar) → List Member → List Scalar
member_zeros before members = flat_map (λ m. zero_cells before m.ctype) members
