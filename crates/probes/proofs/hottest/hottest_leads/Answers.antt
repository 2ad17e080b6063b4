use Rattle.probes.proofs.Leading.{found-is_hottest, hottest-is_found, none-is_empty}
use Rattle.probes.proofs.hottest.hottest_leads.Goals as goal

pub returns : goal.returns
returns c = record { found = found-is_hottest; only = hottest-is_found; none = none-is_empty }
