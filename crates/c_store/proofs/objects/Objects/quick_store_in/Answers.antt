use Rattle.c_store.proofs.Keeping.{kept_by_quick_store}
use Rattle.c_store.proofs.objects.Objects.quick_store_in.Goals as goal

pub invariant_of-self : goal.invariant_of-self
invariant_of-self c =
    let s = c.self.inside in
    kept_by_quick_store s.cells (record { made = s.made; live = s.table }) c.self.invariant c.args.object c.args.offset c.args.value
    c.quick_set.result c.quick_set.new.self c.quick_set.ensures.done c.quick_set.ensures.nothing
