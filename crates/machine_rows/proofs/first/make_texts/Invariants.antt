use Rattle.std.proofs.Common.{◌≡◌, map, drop}
use Rattle.cbi_base.specs.Frames.{each_made}
use Rattle.flow.specs.Statics.{text_object}
use Rattle.machine_rows.proofs.first.make_texts.Given as goal

abbrev pub invariant-loop-text : goal.invariant-loop-text
invariant-loop-text l = each_made (map text_object l.texts) l.fn.objects ≡ each_made (map text_object (drop l.text-index l.texts)) l.objects
