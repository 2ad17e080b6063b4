-- The trees of the grammar, and those of them that nest at most 200 deep.
use Rattle.std.specs.Prelude.{◌≡◌, ◌≤◌, length}
use Rattle.std.specs.List.{AllByRecursion}
use Rattle.c_syntax.specs.ItemTree.{SourceTree}
use Rattle.c_syntax.specs.Spelling.{item_kinds, tree_kinds}
use Rattle.c_syntax.specs.Nesting.{tree_nesting}
use Rattle.c_syntax.specs.Shape.{HasOne, ShapedItem}
use Rattle.c_syntax.specs.Place.{EachAt, ItemAt}

pub record IsShaped (t : SourceTree) : Type 0 where
  pub has_item : HasOne t.items
  pub items : AllByRecursion ShapedItem t.items
  pub placed : EachAt ItemAt item_kinds 0 0 t.items
  pub lines : length t.lines ≡ length (tree_kinds t)

pub record IsWellFormed (t : SourceTree) : Type 0 where
  pub shaped : IsShaped t
  pub nests : tree_nesting t ≤ 200
