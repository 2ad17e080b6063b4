-- Sizes over the limit stay over it in a product.
use Rattle.std.proofs.Common.{◌≡◌, ℕ, suc, zero, ◌*◌, ◌+◌, ◌≤◌, min, ap, ⊎_elim, arith}
use Rattle.std.proofs.lemmas.Bool.{cases_lt}
use Rattle.c_types_rules.specs.Sizes.{capped_cells}

within : (m cells : ℕ) → cells ≤ 1048577 → capped_cells (m * capped_cells cells) ≡ capped_cells (m * cells)
within m cells small = ap (λ x. capped_cells (m * x)) (omega arith)

over : (m cells : ℕ) → 1048577 ≤ cells → capped_cells (suc m * capped_cells cells) ≡ capped_cells (suc m * cells)
over m cells large =
    let whole : suc m * cells ≡ cells + m * cells = omega arith in
    let part : suc m * min cells 1048577 ≡ min cells 1048577 + m * min cells 1048577 = omega arith in
    omega arith

pub capped_product : (n cells : ℕ) → capped_cells (n * capped_cells cells) ≡ capped_cells (n * cells)
capped_product zero cells = omega arith
capped_product (suc m) cells = ⊎_elim (λ below. within (suc m) cells (omega arith)) (λ above. over m cells above) (cases_lt cells 1048577)
