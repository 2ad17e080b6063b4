use Rattle.std.proofs.Common.{◌-◌, sym, ap, ◌∙◌}
use Rattle.cbi_base.specs.Objects.{Objects, object_killed}
use Rattle.c_store.proofs.Keeping.{undo_is}
use Rattle.c_store.proofs.objects.Objects.undo.Goals as goal

pub invariant_of-self : goal.invariant_of-self
invariant_of-self c =
    let s = c.self.inside in
    let t = c.self-2.inside in
    let o : Objects = record { made = s.made; live = s.table } in
    let p : Objects = record { made = t.made; live = t.table } in
    undo_is t.cells o p c.self-2.invariant (c.self-2.view_is ∙ c.kill.ensures ∙ ap (object_killed (s.made - 1)) (sym c.self.view_is))
