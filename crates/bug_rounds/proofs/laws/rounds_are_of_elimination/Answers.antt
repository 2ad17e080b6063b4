use Rattle.bug_rounds.proofs.Leaving.{left-runs, left-successful}
use Rattle.bug_rounds.proofs.laws.rounds_are_of_elimination.Goals as goal

pub returns-clause-step : goal.returns-clause-step
returns-clause-step c = left-runs

pub returns-clause-successful : goal.returns-clause-successful
returns-clause-successful c = left-successful
