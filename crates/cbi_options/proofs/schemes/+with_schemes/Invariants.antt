use Rattle.std.proofs.Common.{length}
use Rattle.cbi_options.proofs.schemes.+with_schemes.Given as goal

abbrev pub decreases-with_schemes : goal.decreases-with_schemes
decreases-with_schemes l = length l.list.now
