-- What a run counts as, by its outcome and its output.
use Rattle.std.specs.Prelude.{Bool, true, false}
use Rattle.cbi_base.specs.declared.outcome.Outcome.{Outcome}
use Rattle.cbi_base.specs.declared.outcome.Outcome.TheVariants.{Ended, Trapped, CutTurns, CutOutput}
use Rattle.report_file.specs.declared.label.Label.{Label}
use Rattle.report_file.specs.declared.label.Label.TheVariants.{Fail, Pass, Uncounted}

-- A run fails where it trapped, or ended with an output that isn't as it should be. It succeeds where it ended with the right one. A run that was cut
-- counts as neither.
abbrev pub label_of : Outcome → Bool → Label
label_of (Ended status) true = Pass
label_of (Ended status) false = Fail
label_of (Trapped trap) agrees = Fail
label_of CutTurns agrees = Uncounted
label_of CutOutput agrees = Uncounted
