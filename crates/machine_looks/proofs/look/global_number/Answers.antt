use Rattle.std.proofs.Common.{ap, ◌∙◌}
use Rattle.cbi_base.specs.declared.scalar.Scalar.TheVariants.{Place}
use Rattle.machine_looks.proofs.LookLemmas.{global_there}
use Rattle.machine_looks.proofs.look.global_number.Goals as goal

pub returns : goal.returns
returns c =
    global_there c.args.index _ _ _ c.args.now.now.locals _ (c.start-place.ensures ∙ ap (λ n. Place n 0) c.from.ensures) c.in_ok-word.ensures c.int.ensures.value
