use Rattle.countdown_bank.proofs.Made.{IsMadeBank-once}
use Rattle.study_runs.specs.MadeRun.{generator_of}
use Rattle.study_runs.specs.Once.{same_input}
use Rattle.study_runs.proofs.laws.one_made_run.Goals as goal

pub returns-clause-bank : goal.returns-clause-bank
returns-clause-bank c = λ seed rate number a b x y m n. IsMadeBank-once (generator_of seed number) rate 256 a b m.bank_is n.bank_is

pub returns-clause-input : goal.returns-clause-input
returns-clause-input c = same_input
