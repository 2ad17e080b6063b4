use Rattle.std.proofs.Common.{◌≡◌, length}
use Rattle.c_types_rules.specs.Assigning.{fits_parameters}
use Rattle.c_types_rules.proofs.assigning.fits_parameters.Given as goal

abbrev pub invariant-loop-params : goal.invariant-loop-params
invariant-loop-params l = fits_parameters l.params l.arguments ≡ fits_parameters l.fn.params l.fn.arguments

abbrev pub decreases-loop-params : goal.decreases-loop-params
decreases-loop-params l = length l.params
