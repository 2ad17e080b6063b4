use Rattle.cbi_base.proofs.TextLemmas.{IsLineEnd-cut, lacks-to-end}
use Rattle.cbi_base.proofs.text.line_end.Goals as goal

pub returns-in_err-line : goal.returns-in_err-line
returns-in_err-line c = rw c.from_residual.ensures (lacks-to-end c.args.bytes.now c.args.from c.requires c.in_err-line.ensures)

pub returns : goal.returns
returns c = IsLineEnd-cut c.args.bytes.now c.in_ok-line.line.now _ c.args.from c.requires c.in_ok-line.ensures.0 c.in_ok-line.ensures.1
