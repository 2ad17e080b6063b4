use Rattle.std.proofs.Common.{◌≡◌}
use Rattle.std.specs.Prelude.{map}
use Rattle.std.specs.List.{flat_map}
use Rattle.cbi_base.specs.Text.{line_of_fields, text_of}
use Rattle.report_file.specs.RunLine.{line_rows}
use Rattle.collector.proofs.collection.Collection.report_texts.Given as goal

abbrev pub invariant-loop-report : goal.invariant-loop-report
invariant-loop-report l = l.out.items ≡ text_of (map line_of_fields (flat_map line_rows (map (λ r. r.now) l.yielded)))
