use Rattle.std.proofs.Common.{◌≡◌, take}
use Rattle.suspicious_lines.specs.Listing.{apart_from}
use Rattle.suspicious_lines.proofs.listing.apart_from.Given as goal

abbrev pub invariant-loop-suspect : goal.invariant-loop-suspect
invariant-loop-suspect l = l.left.items ≡ apart_from l.apart l.chosen (take l.suspect-index l.suspects)
