use Rattle.std.proofs.Common.{◌≡◌, drop}
use Rattle.cbi_base.specs.Objects.{stored_bytes}
use Rattle.machine_rows.proofs.texts.spell_into.Given as goal

abbrev pub invariant-loop-offset : goal.invariant-loop-offset
invariant-loop-offset l = stored_bytes l.object 0 l.bytes l.fn.objects ≡ stored_bytes l.object l.offset (drop l.offset l.bytes) l.objects
