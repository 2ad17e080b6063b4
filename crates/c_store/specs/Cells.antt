-- The cells of an object, as the code keeps them.
use Rattle.std.specs.Prelude.{List, [], ◌∷◌}
use Rattle.cbi_base.specs.declared.scalar.Scalar.{Scalar}
use Rattle.c_store.specs.declared.block.Cells.{Cells}
use Rattle.c_store.specs.declared.block.Cells.TheVariants.{One, Many}

abbrev pub cells_of : Cells → List Scalar
cells_of (One cell) = cell ∷ []
cells_of (Many cells) = cells.items
