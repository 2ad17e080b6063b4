use Rattle.std.proofs.Common.{ℕ, length}
use Rattle.collector.specs.Sites.{branches_of}
use Rattle.command_inputs.specs.Runs.{HaveSites, IsFirstBad}
use Rattle.command_widen.proofs.checks.check_sites.Given as goal

-- what is true of the reports that are left is true of all
abbrev pub invariant-loop-rest : goal.invariant-loop-rest
invariant-loop-rest l = record {
  there : HaveSites (branches_of l.sites) l.rest → HaveSites (branches_of l.sites) l.reports;
  bad : (run site : ℕ) → IsFirstBad (branches_of l.sites) l.rest run site → IsFirstBad (branches_of l.sites) l.reports run site;
}

abbrev pub decreases-loop-rest : goal.decreases-loop-rest
decreases-loop-rest l = length l.rest
