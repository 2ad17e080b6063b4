use Rattle.std.proofs.Common.{length, arith}
use Rattle.defined_functions.specs.Functions.{functions_of}
use Rattle.sites.proofs.Owners.{owned}
use Rattle.sites.proofs.laws.sites_have_functions.Goals as goal

pub returns : goal.returns
returns c t w schemes = owned w t.lines schemes 0 (length (functions_of t)) t.items (omega arith)
