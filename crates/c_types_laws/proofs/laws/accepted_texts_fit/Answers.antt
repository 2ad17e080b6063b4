use Rattle.c_types_laws.proofs.Items.{text_fits}
use Rattle.c_types_laws.proofs.laws.accepted_texts_fit.Goals as goal

pub returns : goal.returns
returns c = text_fits
