use Rattle.std.proofs.Common.{◌≡◌}
use Rattle.cbi_base.specs.Frames.{all_killed}
use Rattle.c_store.proofs.objects.Objects.kill_locals.Given as goal

abbrev pub invariant-loop-left : goal.invariant-loop-left
invariant-loop-left l = all_killed l.first l.left l.self ≡ all_killed l.first l.fn.count l.fn.self

abbrev pub decreases-loop-left : goal.decreases-loop-left
decreases-loop-left l = l.left
