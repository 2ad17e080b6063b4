use Rattle.site_parts.proofs.Fitting.{may_widen_what_fits}
use Rattle.site_parts.proofs.laws.fitting_reports_may_widen.Goals as goal

pub returns : goal.returns
returns c = may_widen_what_fits
