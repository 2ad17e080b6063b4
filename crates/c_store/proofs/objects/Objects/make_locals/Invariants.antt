use Rattle.std.proofs.Common.{◌≡◌, ◌+◌, drop}
use Rattle.cbi_base.specs.Frames.{first_cells, all_made}
use Rattle.c_store.specs.Made.{all_undone}
use Rattle.c_store.proofs.objects.Objects.make_locals.Given as goal

abbrev pub invariant-loop-index : goal.invariant-loop-index
invariant-loop-index l =
    (all_made (first_cells l.rest (drop l.index l.sizes)) l.self ≡ all_made (first_cells l.arguments l.sizes) l.fn.self)
    × (all_undone l.index l.self ≡ l.fn.self)
    × (l.self.made ≡ l.first + l.index)
    × (l.first ≡ l.fn.self.made)
