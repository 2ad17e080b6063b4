use Rattle.std.proofs.Common.{◌+◌, [], drop}
use Rattle.std.proofs.lemmas.List.{drop_more}
use Rattle.suspicious_lines.specs.Places.{new_places}
use Rattle.suspicious_lines.proofs.Standing.{places-more}
use Rattle.suspicious_lines.proofs.places.place_count.Goals as goal

pub loop-suspect-preserved : goal.loop-suspect-preserved
loop-suspect-preserved c =
    let i = c.loop-suspect.suspect-index in
    let xs = c.args.suspects.now in
    places-more c.loop-suspect.places.keys c.insert.new.self.keys (drop i xs) (drop (i + 1) xs) _ (new_places [] xs) (drop_more xs i _ c.loop-suspect-test.true) c.loop-suspect.invariant c.in_ok-insert.ensures.keys
