use Rattle.c_store.proofs.Keeping.{kept_by_store}
use Rattle.c_store.proofs.objects.Objects.store_in.Goals as goal

pub invariant_of-self : goal.invariant_of-self
invariant_of-self c =
    let s = c.self.inside in
    kept_by_store s.cells (record { made = s.made; live = s.table }) c.self.invariant c.args.object c.args.offset c.args.value
    c.set_by_search.result c.set_by_search.new.self c.set_by_search.ensures.value c.set_by_search.ensures.trap
