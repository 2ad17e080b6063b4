use Rattle.std.proofs.Common.{◌≡◌, ◌+◌, length, Result}
use Rattle.std.specs.Prelude.{reverse}
use Rattle.collector.specs.declared.answers.AddFault.{AddFault}
use Rattle.collector.specs.declared.answers.Merged.{Merged}
use Rattle.collector.specs.declared.collection.Held.{Held}
use Rattle.collector.specs.Merging.{AddsAll, AreReports}
use Rattle.collector.proofs.collection.Collection.merge.Given as goal

-- what the reports that are left leave, all leave
abbrev pub invariant-loop-report : goal.invariant-loop-report
invariant-loop-report l = record {
  all : (result : Result Merged AddFault) (after : Held) → AddsAll l.self (reverse l.rest.items) l.added l.repeated result after → AddsAll l.initial.self (reverse l.initial.rest.items) 0 0 result after;
  reports : AreReports (reverse l.rest.items);
  few : l.added + l.repeated + length l.rest.items ≡ length l.initial.rest.items;
}

abbrev pub decreases-loop-report : goal.decreases-loop-report
decreases-loop-report l = length l.rest.items
