use Rattle.site_parts.proofs.Fitting.{fits_when_widened}
use Rattle.site_parts.proofs.laws.widened_reports_fit.Goals as goal

pub returns : goal.returns
returns c = fits_when_widened
