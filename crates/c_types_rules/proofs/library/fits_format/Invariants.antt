use Rattle.std.proofs.Common.{◌≡◌, length}
use Rattle.c_types_rules.specs.Library.{fits_format}
use Rattle.c_types_rules.proofs.library.fits_format.Given as goal

abbrev pub invariant-loop-format : goal.invariant-loop-format
invariant-loop-format l = fits_format l.format l.arguments ≡ fits_format l.fn.format l.fn.arguments

abbrev pub decreases-loop-format : goal.decreases-loop-format
decreases-loop-format l = length l.format
