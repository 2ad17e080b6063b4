-- Relabelling, a run at a time.
use Rattle.std.specs.Prelude.{ℕ, Bool, if◌then◌else◌, List}
use Rattle.cbi_base.specs.declared.policy.Policy.TheVariants.{Relabel}
use Rattle.elimination_tallies.specs.declared.labelled.LabelledRun.{LabelledRun}
use Rattle.elimination.specs.Elimination.{is_taken, run_as_successful}

-- the run after the step of relabelling
abbrev pub relabelled_run : List Bool → ℕ → LabelledRun → LabelledRun
relabelled_run branches leader r = if is_taken branches Relabel leader r then run_as_successful r else r
