-- Lists of cells that are all alike.
use Rattle.std.proofs.Common.{◌≡◌, List, [], ◌∷◌, map, length, replicate, refl, ap, sym, ◌∙◌, Vec}
use Rattle.std.proofs.lemmas.List.{with_items_is, length-replicate}
use Rattle.std.specs.Vec.{with_items}
use Rattle.cbi_base.specs.declared.scalar.Class.{Class}
use Rattle.cbi_base.specs.declared.scalar.Scalar.{Scalar}
use Rattle.cbi_base.specs.Objects.{Object}
use Rattle.c_store.specs.declared.block.Cells.{Cells}
use Rattle.c_store.specs.declared.block.Cells.TheVariants.{Many}
use Rattle.c_store.specs.Cells.{cells_of}
use Rattle.c_store.specs.Written.{with_each}

each_is : {X Y : Type 0} (value : Y) (xs : List X) → map (λ _. value) xs ≡ replicate (length xs) value
each_is value [] = refl
each_is value (x ∷ xs) = ap (λ ys. value ∷ ys) (each_is value xs)

cells_filled : {Z : Type 0} (v : Vec Scalar Z) (ws : List Scalar) (value : Scalar) → ws ≡ replicate (length v.items) value →
    (with_items v ws).items ≡ map (λ _. value) v.items
cells_filled v ws value is =
    with_items_is v ws (ap length is ∙ length-replicate (length v.items) value ∙ sym v.ok.0) ∙ is ∙ sym (each_is value v.items)

-- an object of several cells, each filled
pub filled_many : (class : Class) (cells : Cells) (v : _) (ws : List Scalar) (value : Scalar) → cells ≡ Many v → ws ≡ replicate (length v.items) value →
    ◌≡◌ {A = Object} (record { class = class; cells = (with_items v ws).items }) (with_each value (record { class = class; cells = cells_of cells }))
filled_many class cells v ws value many is =
    ap (λ (xs : List Scalar). let o : Object = record { class = class; cells = xs } in o) (cells_filled v ws value is)
    ∙ ap (λ (c : Cells). with_each value (record { class = class; cells = cells_of c })) (sym many)
