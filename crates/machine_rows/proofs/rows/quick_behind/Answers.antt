use Rattle.std.proofs.Common.{◌≡◌, w32, w64, to_z, of_z, ◌*ℤ◌, sym, ◌∙◌}
use Rattle.std.proofs.lemmas.Int.{to_z-of_z}
use Rattle.cbi_base.specs.declared.scalar.Kind.TheVariants.{Int}
use Rattle.c_values.proofs.Ranges.{size_below}
use Rattle.machine_rows.proofs.MoveLemmas.{moves_if, number_is, size_abs, size_is, cells_fit}
use Rattle.machine_rows.proofs.rows.quick_behind.Goals as goal

pub returns-clause-moved : goal.returns-clause-moved
returns-clause-moved c =
    let value = c.in_ok-value.value in
    let range = c.in_ok-value.ensures.in_range in
    let same = number_is Int value range in
    let size = size_is c.args.size c.from.result (c.from.ensures ∙ to_z-of_z w32 c.args.size c.ranges.size) c.ranges.size in
    let cells : c.cells_of.result ≡ value *ℤ c.args.size = c.cells_of.ensures ∙ (λ i. same i *ℤ size i) in
    let fit = cells_fit c.cells_of.result value c.args.size cells (size_below Int value range) (size_abs c.args.size c.ranges.size) in
    moves_if c.args.size c.args.pointer c.args.by value (to_z w64 (of_z w64 c.cells_of.result)) c.args.objects.now c.quick_load_behind.result
    (sym c.in_ok-value.ensures.value) (fit ∙ cells) c.quick_load_behind.ensures.moved
