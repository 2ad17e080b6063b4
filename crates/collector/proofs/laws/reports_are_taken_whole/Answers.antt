use Rattle.std.proofs.Common.{List, Ok, arith}
use Rattle.collector.specs.declared.answers.Merged.{Merged}
use Rattle.collector.specs.declared.collection.Held.{Held}
use Rattle.report_file.specs.declared.report.Report.{Report}
use Rattle.collector.specs.Collecting.{IsCollection}
use Rattle.collector.specs.Merging.{AddsAll}
use Rattle.collector.proofs.Ordering.{from-rising}
use Rattle.collector.proofs.Taking.{AreTaken, are-taken, taken-fault, taken-may, taken-with}
use Rattle.collector.proofs.laws.reports_are_taken_whole.Goals as goal

all-taken : (h after : Held) (reports : List Report) (m : Merged) → IsCollection h → AddsAll h reports 0 0 (Ok m) after → AreTaken h reports 0 0 m after
all-taken h after reports m is adds = are-taken reports h after 0 0 m (from-rising 0 h.reports is.rising) adds

pub returns-clause-map : goal.returns-clause-map
returns-clause-map c = λ h after reports m is adds. taken-with h reports 0 0 m after (all-taken h after reports m is adds)

pub returns-clause-only : goal.returns-clause-only
returns-clause-only c = λ h after reports m is adds. taken-may h reports 0 0 m after is (all-taken h after reports m is adds)

pub returns-clause-taken : goal.returns-clause-taken
returns-clause-taken c = λ h after reports why is may adds. taken-fault reports h after 0 0 why (from-rising 0 h.reports is.rising) may adds

pub returns-clause-added : goal.returns-clause-added
returns-clause-added c = λ h after reports m is adds. let t = all-taken h after reports m is adds in omega (arith, t.new)

pub returns-clause-repeated : goal.returns-clause-repeated
returns-clause-repeated c = λ h after reports m is adds. let t = all-taken h after reports m is adds in omega (arith, t.old)
