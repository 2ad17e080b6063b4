use Rattle.std.proofs.Common.{◌≡◌, ◌+◌, ◌≤◌, subst, arith}
use Rattle.cbi_base.specs.Objects.{Objects, object_killed}
use Rattle.c_store.proofs.Keeping.{killed_none}
use Rattle.c_store.proofs.objects.Objects.kill_behind.Goals as goal

pub returns-in-None : goal.returns-in-None
returns-in-None c =
    let s = c.self.inside in
    let o : Objects = record { made = s.made; live = s.table } in
    let to = c.args.first + c.args.more in
    let beyond : s.made ≤ to = omega (arith, c.in-None.ensures, c.from.ensures, c.self.invariant.numbers) in
    subst (λ p. p ≡ object_killed to p) c.self.view_is (killed_none o to (c.self.invariant.fresh to beyond))
