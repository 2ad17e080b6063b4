-- The cells of globals are counted at the declarations of globals alone.
use Rattle.std.proofs.Common.{◌≡◌, refl, ◌∙◌}
use Rattle.c_types_expressions.specs.declared.walk.Walk.{Walk}
use Rattle.c_types_expressions.proofs.Kept.{IsKeptByExpressions, by_notes}

-- so many cells are counted as before
abbrev pub SameCells : Walk → Walk → Type 0
SameCells w v = v.global_cells ≡ w.global_cells

-- an expression counts none
pub cells_kept : IsKeptByExpressions SameCells
cells_kept = by_notes SameCells (record {
  here = λ w. refl;
  next = λ w u v a b. b ∙ a;
  typed = λ token t w. refl;
  used = λ token index w. refl;
  called = λ token index w. refl;
  selected = λ token offset w. refl;
})
