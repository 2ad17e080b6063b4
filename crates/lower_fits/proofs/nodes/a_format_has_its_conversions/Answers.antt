use Rattle.lower_fits.proofs.ConversionsOfFormats.{format_counted}
use Rattle.lower_fits.proofs.nodes.a_format_has_its_conversions.Goals as goal

pub returns : goal.returns
returns c = λ bytes xs h. format_counted bytes xs h
