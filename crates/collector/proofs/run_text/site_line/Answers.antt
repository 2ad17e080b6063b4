use Rattle.collector.proofs.RunTexts.{no-later-site, no-site}
use Rattle.collector.proofs.run_text.site_line.Goals as goal

pub returns-in_err-entry : goal.returns-in_err-entry
returns-in_err-entry c =
    rw c.from_residual-in_err-entry.ensures (no-site c.args.bytes.now c.in_ok-line.line.now c.in_ok-line.rest.now c.args.site c.entry_in.result c.in_ok-line.ensures.0 c.in_ok-line.ensures.1 c.entry_in.ensures c.in_err-entry.was)

pub returns-then-entry-site : goal.returns-then-entry-site
returns-then-entry-site c =
    no-later-site c.args.bytes.now c.in_ok-line.line.now c.in_ok-line.rest.now c.args.site c.entry_in.result c.in_ok-entry.entry c.in_ok-line.ensures.0 c.in_ok-line.ensures.1 c.entry_in.ensures c.in_ok-entry.was c.if-entry-site.true
