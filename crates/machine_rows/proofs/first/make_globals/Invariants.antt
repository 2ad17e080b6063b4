use Rattle.std.proofs.Common.{◌≡◌, map, drop, length}
use Rattle.cbi_base.specs.Frames.{each_made}
use Rattle.flow.specs.Statics.{object_of_global}
use Rattle.machine_rows.proofs.first.make_globals.Given as goal

abbrev pub invariant-loop-global : goal.invariant-loop-global
invariant-loop-global l =
    each_made (map (object_of_global (length l.globals)) l.globals) l.fn.objects ≡ each_made (map (object_of_global (length l.globals)) (drop l.global-index l.globals)) l.objects
