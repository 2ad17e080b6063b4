use Rattle.std.proofs.Common.{◌≡◌, w32, ◌*ℤ◌, ap, sym, ◌∙◌}
use Rattle.std.proofs.lemmas.Int.{to_z-of_z}
use Rattle.cbi_base.specs.Objects.{moved_pointer}
use Rattle.machine_rows.proofs.MoveLemmas.{moves_by, small_is, size_abs, size_is, cells_fit}
use Rattle.machine_rows.proofs.rows.move_by_number.Goals as goal

pub returns : goal.returns
returns c = λ kind.
    let value = c.args.value in
    let same = small_is value c.requires.value in
    let size = size_is c.args.size c.from.result (c.from.ensures ∙ to_z-of_z w32 c.args.size c.ranges.size) c.ranges.size in
    let cells : c.cells_of.result ≡ value *ℤ c.args.size = c.cells_of.ensures ∙ (λ i. same i *ℤ size i) in
    c.move_word.ensures
    ∙ ap (λ z. moved_pointer c.args.pointer z c.args.objects.now)
    (cells_fit c.cells_of.result value c.args.size cells c.requires.value (size_abs c.args.size c.ranges.size) ∙ cells)
    ∙ sym (moves_by c.args.size c.args.pointer kind value c.args.objects.now c.requires.pointer)
