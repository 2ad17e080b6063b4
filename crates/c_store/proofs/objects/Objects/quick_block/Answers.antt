use Rattle.std.proofs.Common.{arith}
use Rattle.c_store.proofs.Keeping.{within_all}
use Rattle.c_store.proofs.objects.Objects.quick_block.Goals as goal

pub returns-clause-limit : goal.returns-clause-limit
returns-clause-limit c =
    let s = c.self.inside in
    let most = within_all s.cells (record { made = s.made; live = s.table }) c.self.invariant c.args.object c.in-Some.block.now c.in-Some.ensures in
    omega (arith, most, c.self.invariant.room)
