use Rattle.std.proofs.Common.{sym, subst}
use Rattle.c_store.specs.Kept.{AreObjectsKept}
use Rattle.c_store.proofs.Keeping.{kept_by_fill}
use Rattle.c_store.proofs.objects.Objects.fill.Goals as goal

pub invariant_of-self : goal.invariant_of-self
invariant_of-self c =
    let s = c.self.inside in
    subst (λ m. AreObjectsKept s.cells (record { made = s.made; live = m })) (sym c.fill.ensures)
    (kept_by_fill s.cells (record { made = s.made; live = s.table }) c.self.invariant c.args.object c.args.value)
