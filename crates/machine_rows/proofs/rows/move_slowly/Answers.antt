use Rattle.std.proofs.Common.{w32, ap, ◌∙◌}
use Rattle.std.proofs.lemmas.Int.{to_z-of_z}
use Rattle.cbi_base.specs.Objects.{moved_by}
use Rattle.cbi_base.specs.declared.scalar.Scalar.TheVariants.{Number}
use Rattle.machine_rows.proofs.MoveLemmas.{number_is}
use Rattle.machine_rows.proofs.rows.move_slowly.Goals as goal

pub returns-in-Number : goal.returns-in-Number
returns-in-Number c =
    let kind = c.in-Number.kind in
    let same = number_is kind c.in-Number.value c.in-Number.ensures.in_range in
    c.move_by_number.ensures kind
    ∙ (λ i. moved_by (to_z-of_z w32 c.args.size c.ranges.size i) c.args.pointer (Number kind (same i)) c.args.objects.now)
    ∙ ap (λ w. moved_by c.args.size c.args.pointer w c.args.objects.now) c.in-Number.ensures.value
