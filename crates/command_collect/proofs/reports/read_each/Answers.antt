use Rattle.std.proofs.Common.{arith}
use Rattle.command_collect.proofs.FileLemmas.{all-read}
use Rattle.command_collect.proofs.reports.read_each.Goals as goal

pub returns-clause-texts : goal.returns-clause-texts
returns-clause-texts g c = all-read _ _ _ _ (omega (arith, c.in_default.len_below)) c.loop-rest.invariant.texts
