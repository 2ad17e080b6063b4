use Rattle.bug_rounds.proofs.Lawful.{bugs-parts, first-line, names-first}
use Rattle.bug_rounds.proofs.laws.bugs_share_the_failing_runs.Goals as goal

pub returns-clause-parts : goal.returns-clause-parts
returns-clause-parts c = bugs-parts

pub returns-clause-line : goal.returns-clause-line
returns-clause-line c = first-line

pub returns-clause-first : goal.returns-clause-first
returns-clause-first c = names-first
