use Rattle.flow.specs.declared.site.Site.{Site}
use Rattle.program_parts.proofs.Lists.{item_at}
use Rattle.program_parts.proofs.laws.parts_have_their_sites.Goals as goal

pub returns : goal.returns
returns c = λ part sites number is. item_at {A = Site} part sites number is
