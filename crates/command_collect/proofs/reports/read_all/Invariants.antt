use Rattle.std.proofs.Common.{length}
use Rattle.command_collect.proofs.FileLemmas.{ReadSoFar}
use Rattle.command_collect.proofs.reports.read_all.Given as goal

-- what is true of the texts that are left is true of all
abbrev pub invariant-loop-rest : goal.invariant-loop-rest
invariant-loop-rest l = ReadSoFar l.initial.rest l.rest l.bundles l.number

abbrev pub decreases-loop-rest : goal.decreases-loop-rest
decreases-loop-rest l = length l.rest
