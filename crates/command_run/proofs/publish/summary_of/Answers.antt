use Rattle.std.proofs.Common.{sym, subst, ◌∙◌}
use Rattle.report_file.specs.Report.{IsSummary}
use Rattle.planned_runs.proofs.Adding.{bounded_counts}
use Rattle.command_run.proofs.publish.summary_of.Goals as goal

pub returns-clause-is_summary : goal.returns-clause-is_summary
returns-clause-is_summary c =
    let same = c.from_vec.ensures ∙ c.in_ok-from_slice.ensures.items ∙ c.as_slice.ensures in
    subst (λ counts. IsSummary (record { outcome = c.args.ran.now.outcome; work = c.args.ran.now.work; counts = counts })) (sym same) (record {
      few = c.requires.few;
      work = record { fast = c.requires.bounded.fast; slow = c.requires.bounded.slow; tests = c.requires.bounded.tests };
      counts = bounded_counts c.args.ran.now.counts c.requires.bounded.counts;
    })
