use Rattle.std.proofs.Common.{◌≡◌, ◌++◌, [], drop}
use Rattle.suspicious_lines.specs.Places.{new_places}
use Rattle.suspicious_lines.proofs.places.place_count.Given as goal

-- with the new ones of what is left it is all of them
abbrev pub invariant-loop-suspect : goal.invariant-loop-suspect
invariant-loop-suspect l = l.places.keys ++ new_places l.places.keys (drop l.suspect-index l.suspects) ≡ new_places [] l.suspects
