-- The rules of items.
use Rattle.std.specs.Prelude.{◌≡◌, ℕ, ◌≤◌, List, []}
use Rattle.std.specs.List.{AllByRecursion, flat_map}
use Rattle.c_syntax.specs.Words.{ItemTree, Kinds, item_kinds, deepest_nesting, item_nesting, ShapedItem, EachAt, ItemAt}
use Rattle.c_parser_expressions.specs.Reading.{Rule, AnythingFollows}

pub record IsItem (d at : ℕ) (x : ItemTree) : Type 0 where
  pub shaped : ShapedItem x
  pub nests : item_nesting x ≤ d
  pub placed : ItemAt at x

abbrev pub item : (d : ℕ) → Rule ItemTree
item d = record { Is = IsItem d; spell = item_kinds; Ends = λ x k. AnythingFollows k }

-- items one after another, up to the end
pub record AreItems (d at : ℕ) (xs : List ItemTree) : Type 0 where
  pub shaped : AllByRecursion ShapedItem xs
  pub nests : deepest_nesting item_nesting xs ≤ d
  pub placed : EachAt ItemAt item_kinds 0 at xs

pub record IsEnd (k : Kinds) : Type 0 where
  pub none : k ≡ []

abbrev pub items : (d : ℕ) → Rule (List ItemTree)
items d = record { Is = AreItems d; spell = λ xs. flat_map item_kinds xs; Ends = λ xs k. IsEnd k }
