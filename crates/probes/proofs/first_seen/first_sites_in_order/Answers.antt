use Rattle.probes.proofs.Firsts.{firsts_of-append}
use Rattle.probes.proofs.FirstLaws.{first-is_observed, first-once}
use Rattle.probes.proofs.first_seen.first_sites_in_order.Goals as goal

pub returns : goal.returns
returns c = record { observed = first-is_observed; once = first-once; stays = firsts_of-append }
