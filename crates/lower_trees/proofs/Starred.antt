-- The cells of a pointer to a named type.
use Rattle.std.proofs.Common.{◌≡◌, ◌≢◌, ℕ, zero, suc, true, List, Option, Some, None, is_some, refl, sym}
use Rattle.std.specs.Option.{option_and_then}
use Rattle.c_types_rules.specs.declared.layout.StructType.{StructType}
use Rattle.c_types_rules.specs.TypeTree.{TypeTree, Pointer}
use Rattle.c_types_expressions.specs.ExprWalk.{with_stars}
use Rattle.c_meaning.specs.Known.{object_cells}

pointer_cells : (structs : List StructType) (n : ℕ) (b : TypeTree) → object_cells structs (with_stars n (Pointer b)) ≡ Some 1
pointer_cells structs zero b = refl
pointer_cells structs (suc n) b = pointer_cells structs n (Pointer b)

-- with a star at least, a named type is a pointer, which has one cell
pub named_pointer : (structs : List StructType) (stars : ℕ) (o : Option TypeTree) → stars ≢ 0 → is_some o ≡ true →
    Some 1 ≡ option_and_then (λ of. object_cells structs (with_stars stars of)) o
named_pointer structs zero o some is = absurd (some refl)
named_pointer structs (suc n) None some is = absurd (cc)
named_pointer structs (suc n) (Some b) some is = sym (pointer_cells structs n b)
