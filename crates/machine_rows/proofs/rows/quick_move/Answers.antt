use Rattle.std.proofs.Common.{◌≡◌, w32, ◌*ℤ◌, Ok, subst, sym, ◌∙◌}
use Rattle.std.proofs.lemmas.Int.{to_z-of_z}
use Rattle.cbi_base.specs.declared.scalar.Kind.TheVariants.{Int}
use Rattle.cbi_base.specs.Objects.{moved_pointer}
use Rattle.c_values.proofs.Ranges.{size_below}
use Rattle.machine_rows.proofs.MoveLemmas.{moves_there, number_is, size_abs, size_is, cells_fit}
use Rattle.machine_rows.proofs.rows.quick_move.Goals as goal

pub returns : goal.returns
returns c =
    let value = c.in_ok-value.value in
    let range = c.in_ok-value.ensures.in_range in
    let same = number_is Int value range in
    let size = size_is c.args.size c.from.result (c.from.ensures ∙ to_z-of_z w32 c.args.size c.ranges.size) c.ranges.size in
    let cells : c.cells_of.result ≡ value *ℤ c.args.size = c.cells_of.ensures ∙ (λ i. same i *ℤ size i) in
    let exact = cells_fit c.cells_of.result value c.args.size cells (size_below Int value range) (size_abs c.args.size c.ranges.size) ∙ cells in
    let found = subst (λ z. moved_pointer c.args.pointer z c.args.objects.now ≡ Ok c.in_ok-place.place) exact c.in_ok-place.ensures in
    moves_there c.args.size c.args.pointer c.args.by c.in_ok-place.place value c.args.objects.now (sym c.in_ok-value.ensures.value) found
