use Rattle.std.proofs.Common.{rules}
use Rattle.report_file.proofs.Entries.{entries-are, entries-rise}
use Rattle.report_file.proofs.making.make_report.Goals as goal

pub returns-clause-spelled : goal.returns-clause-spelled
returns-clause-spelled c =
    let s = c.requires.summary in record {
      program = search rules;
      run = record { least = c.requires.run; most = search rules };
      outcome = c.spelled.ensures.is_outcome;
      work = s.work;
      entries = search (rules, entries-are c.args.summary.now.counts s.few s.counts);
      rising = search (rules, entries-rise 0 c.args.summary.now.counts);
    }
