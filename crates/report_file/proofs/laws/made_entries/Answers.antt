use Rattle.report_file.proofs.Entries.{among-all, among-counts, entries-rise}
use Rattle.report_file.proofs.laws.made_entries.Goals as goal

pub returns-clause-rising : goal.returns-clause-rising
returns-clause-rising c = entries-rise 0

pub returns-clause-sites : goal.returns-clause-sites
returns-clause-sites c = λ counts e among. (among-counts counts e among).0

pub returns-clause-positive : goal.returns-clause-positive
returns-clause-positive c = λ counts e among. (among-counts counts e among).1

pub returns-clause-all : goal.returns-clause-all
returns-clause-all c = among-all
