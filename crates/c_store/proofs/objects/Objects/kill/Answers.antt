use Rattle.std.proofs.Common.{◌-◌, sym, subst, ◌∙◌, arith}
use Rattle.cbi_base.specs.Objects.{Objects, object_killed}
use Rattle.c_store.specs.Kept.{AreObjectsKept}
use Rattle.c_store.proofs.Keeping.{within_all, kept_by_kill, kept_without}
use Rattle.c_store.proofs.objects.Objects.kill.Goals as goal

pub overflow_cast-self : goal.overflow_cast-self
overflow_cast-self c =
    let s = c.self.inside in
    let most = within_all s.cells (record { made = s.made; live = s.table }) c.self.invariant c.args.object c.in-Some.block (sym c.in-Some.ensures.value) in
    omega (arith, most, c.len.ensures, c.self.invariant.room)

pub overflow_sub-self : goal.overflow_sub-self
overflow_sub-self c =
    let s = c.self.inside in
    let most = within_all s.cells (record { made = s.made; live = s.table }) c.self.invariant c.args.object c.in-Some.block (sym c.in-Some.ensures.value) in
    omega (arith, most, c.len.ensures)

pub invariant_of-self : goal.invariant_of-self
invariant_of-self c =
    let s = c.self.inside in
    let o : Objects = record { made = s.made; live = s.table } in
    let kept = kept_by_kill s.cells o c.self.invariant c.args.object c.in-Some.block (sym c.in-Some.ensures.value) in
    subst (λ m. AreObjectsKept (s.cells - c.len.result) (record { made = s.made; live = m })) (sym c.remove.ensures.rest)
    (subst (λ n. AreObjectsKept (s.cells - n) (object_killed c.args.object o)) (sym c.len.ensures) kept)

pub invariant_of-self-in-Some-2 : goal.invariant_of-self-in-Some-2
invariant_of-self-in-Some-2 c =
    let s = c.self.inside in
    let o : Objects = record { made = s.made; live = s.table } in
    let kept = kept_by_kill s.cells o c.self.invariant c.args.object c.in-Some.block (sym c.in-Some.ensures.value) in
    subst (λ m. AreObjectsKept (s.cells - c.len.result) (record { made = s.made; live = m })) (sym c.remove.ensures.rest)
    (subst (λ n. AreObjectsKept (s.cells - n) (object_killed c.args.object o)) (sym c.len.ensures) kept)

pub invariant_of-self-in_default : goal.invariant_of-self-in_default
invariant_of-self-in_default c =
    let s = c.self.inside in
    let o : Objects = record { made = s.made; live = s.table } in
    subst (λ m. AreObjectsKept s.cells (record { made = s.made; live = m })) (sym c.remove.ensures.rest)
    (kept_without s.cells o c.self.invariant c.args.object (sym c.remove.ensures.value ∙ c.in_default.is))
