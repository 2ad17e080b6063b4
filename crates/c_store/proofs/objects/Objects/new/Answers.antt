use Rattle.std.proofs.Common.{sym, subst}
use Rattle.c_store.specs.Kept.{AreObjectsKept}
use Rattle.c_store.proofs.Keeping.{kept_at_start}
use Rattle.c_store.proofs.objects.Objects.new.Goals as goal

pub invariant_of-result : goal.invariant_of-result
invariant_of-result c = subst (λ m. AreObjectsKept 0 (record { made = 0; live = m })) (sym c.new.ensures) kept_at_start
