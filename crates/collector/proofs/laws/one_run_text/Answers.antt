use Rattle.collector.proofs.RunTexts.{run-at-once}
use Rattle.collector.proofs.laws.one_run_text.Goals as goal

pub returns : goal.returns
returns c = run-at-once
