use Rattle.elimination_tallies.specs.Recount.{failing_runs, recount, runs_of}
use Rattle.compound.specs.Listing.{AreListed}
use Rattle.compound.proofs.listing.candidates.Given as goal

abbrev pub invariant-loop-predicate : goal.invariant-loop-predicate
invariant-loop-predicate l = AreListed (recount l.collection.branches (runs_of l.collection.reports)) l.predicate (failing_runs (runs_of l.collection.reports)) l.list.items
