use Rattle.std.proofs.Common.{◌+◌, ◌≤◌, IsTrue, length, subst, sym, ◌∙◌, arith}
use Rattle.cbi_base.specs.Objects.{Objects, has_room, cell_limit}
use Rattle.c_store.specs.Kept.{AreObjectsKept}
use Rattle.c_store.proofs.Keeping.{room_parts, kept_by_make, undone_made}
use Rattle.c_store.proofs.objects.Objects.add.Goals as goal

pub invariant_of-self-2 : goal.invariant_of-self-2
invariant_of-self-2 c =
    let s = c.self.inside in
    let o : Objects = record { made = s.made; live = s.table } in
    let room : IsTrue (has_room (length c.args.block.cells) o) = subst (λ p. IsTrue (has_room (length c.args.block.cells) p)) (sym c.self.view_is) c.requires in
    let parts = room_parts (length c.args.block.cells) o room in
    let fits : s.cells + c.len-cells.result ≤ cell_limit = omega (arith, parts.0, c.self.invariant.counted, c.len-cells.ensures) in
    subst (λ m. AreObjectsKept (s.cells + c.len-cells.result) (record { made = s.made + 1; live = m })) (sym c.in_ok-insert.ensures.ok)
    (kept_by_make s.cells o c.self.invariant c.args.block c.len-cells.result (sym c.len-cells.ensures) fits parts.1)

pub returns-clause-back : goal.returns-clause-back
returns-clause-back c =
    let s = c.self.inside in
    let o : Objects = record { made = s.made; live = s.table } in
    undone_made o c.args.block c.insert.new.self (c.self.invariant.fresh s.made (omega arith)) c.in_ok-insert.ensures.ok ∙ c.self.view_is
