use Rattle.lower_fits.proofs.Formatting.{body_formatted}
use Rattle.lower_fits.proofs.formats.formats_of_an_accepted_text_have_conversions.Goals as goal

pub returns : goal.returns
returns c = body_formatted
