use Rattle.flow.proofs.CountLaws.{each_counted}
use Rattle.flow.proofs.laws.each_site_is_counted.Goals as goal

pub returns : goal.returns
returns c = each_counted
