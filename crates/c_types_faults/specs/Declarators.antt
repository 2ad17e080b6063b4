-- The type that a declarator gives a name (C99 6.7.5).
use Rattle.std.specs.Prelude.{◌≡◌, ℕ, ◌≤◌, pos, List, [], ◌∷◌, Option, Some, None}
use Rattle.c_syntax.specs.declared.parts.Bound.{Bound}
use Rattle.c_syntax.specs.declared.parts.Constant.{Constant}
use Rattle.c_syntax.specs.declared.parts.Declarator.{Declarator}
use Rattle.c_types_rules.specs.Words.{TypeTree, Array, most_cells}
use Rattle.c_types_expressions.specs.ExprWalk.{with_stars}

-- The length of an array is from 1 on (6.7.5.2p1); a longer one than the greatest object has more cells than that, whatever its elements are.
abbrev pub IsLength : Constant → ℕ → Type 0
IsLength c n = (c.value ≡ pos n) × (1 ≤ n) × (n ≤ most_cells)

-- an array of such elements with this bound
abbrev pub IsArray : Option Constant → TypeTree → TypeTree → Type 0
IsArray None element t = ⊥
IsArray (Some c) element t = (n : ℕ) × (IsLength c n × (t ≡ Array element n))

-- with these bounds, the last one innermost
abbrev pub HasBounds : List Bound → TypeTree → TypeTree → Type 0
HasBounds [] element t = t ≡ element
HasBounds (b ∷ bs) element t = (inner : TypeTree) × (HasBounds bs element inner × IsArray b.length inner t)

-- the first bound may be missing: the length isn't known then, which is told by 0
abbrev pub IsFirstArray : Option Constant → TypeTree → TypeTree → Type 0
IsFirstArray None element t = t ≡ Array element 0
IsFirstArray (Some c) element t = IsArray (Some c) element t

abbrev pub HasFirstBounds : List Bound → TypeTree → TypeTree → Type 0
HasFirstBounds [] element t = t ≡ element
HasFirstBounds (b ∷ bs) element t = (inner : TypeTree) × (HasBounds bs element inner × IsFirstArray b.length inner t)

-- with this base
abbrev pub DeclaresAs : Declarator → TypeTree → TypeTree → Type 0
DeclaresAs d base t = HasFirstBounds d.bounds (with_stars d.stars base) t
