-- How the runs of a study went, summed up.
pub use Rattle.planned_runs.specs.declared.sums.Sums.{Sums}
pub use Rattle.planned_runs.specs.Sums.{sums_of}
