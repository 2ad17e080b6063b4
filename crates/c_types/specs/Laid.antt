-- Sizes as sums: the members of a struct lie one behind another, and no cell is left out.
use Rattle.std.specs.Prelude.{◌≡◌, ℕ, ◌+◌, true, List, [], ◌∷◌, sum_by}
use Rattle.std.specs.List.{AllByRecursion}
use Rattle.c_types_rules.specs.declared.layout.Member.{Member}
use Rattle.c_types_rules.specs.declared.layout.StructType.{StructType}
use Rattle.c_types_rules.specs.Sizes.{cells_of, is_complete}

-- the members lie one behind another from the first cell on, and the last one ends before the cell `end`
abbrev pub AreLaid : List StructType → ℕ → List Member → ℕ → Type 0
AreLaid structs first [] end = first ≡ end
AreLaid structs first (m ∷ ms) end = (m.offset ≡ first) × AreLaid structs (first + cells_of structs m.ctype) ms end

-- the size of a member
abbrev pub member_cells : List StructType → Member → ℕ
member_cells structs m = cells_of structs m.ctype

-- the type of the member is known whole
abbrev pub IsKnown : List StructType → Member → Type 0
IsKnown structs m = is_complete structs m.ctype ≡ true

-- The struct has the sum of its members' sizes; each of them has a size, and lies behind those before it.
pub record IsSummed (structs : List StructType) (s : StructType) : Type 0 where
  pub sum : s.cells ≡ sum_by (member_cells structs) s.members
  pub laid : AreLaid structs 0 s.members s.cells
  pub known : AllByRecursion (IsKnown structs) s.members
