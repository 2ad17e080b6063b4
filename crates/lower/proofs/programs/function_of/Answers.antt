use Rattle.std.proofs.Common.{ap, arith, length}
use Rattle.lower_facts.specs.Facts.{source_in}
use Rattle.lower.specs.Fits.{names_in}
use Rattle.lower.proofs.Assembling.{own_few}
use Rattle.lower.proofs.programs.function_of.Goals as goal

pub overflow_cast-params : goal.overflow_cast-params
overflow_cast-params c =
    let few = own_few (source_in c.args.facts.now) (names_in c.args.facts.now) c.args.number c.in-Some.signature.now c.requires c.in-Some.ensures in
    omega (arith, few, ap length c.params.ensures)
