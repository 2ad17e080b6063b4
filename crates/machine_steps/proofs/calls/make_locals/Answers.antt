use Rattle.std.proofs.Common.{subst}
use Rattle.cbi_base.specs.Frames.{first_cells, all_made}
use Rattle.c_store.specs.Made.{IsMade}
use Rattle.machine_steps.proofs.CallLemmas.{numbers_fit}
use Rattle.machine_steps.proofs.calls.make_locals.Goals as goal

pub new-requires : goal.new-requires
new-requires c =
    let objects = c.args.objects.now in
    numbers_fit c.args.arguments.now c.args.sizes.now objects c.make_locals.new.self c.in-Object.number
    (subst (λ m. IsMade (all_made (first_cells c.args.arguments.now c.args.sizes.now) objects) objects c.make_locals.new.self m) c.in-Object.is c.in_ok-make_locals.ensures.made)
