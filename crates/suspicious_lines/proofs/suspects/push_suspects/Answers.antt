use Rattle.elimination_tallies.specs.Scanning.{tally_at}
use Rattle.suspicious_lines.proofs.Finding.{site-more}
use Rattle.suspicious_lines.proofs.suspects.push_suspects.Goals as goal

pub loop-number-preserved : goal.loop-number-preserved
loop-number-preserved c =
    site-more (tally_at c.args.numbers.now.tallies) c.args.site.now c.args.first c.loop-number.number c.args.out.now.items c.loop-number.out.items c.offer.new.out.items c.suspect_at-next.result c.loop-number.invariant c.suspect_at-next.ensures c.in_ok-offer.ensures
