use Rattle.std.proofs.Common.{◌≡◌, ◌<◌, length, Err, rules}
use Rattle.c_lexer.proofs.At.{at-next, says-error}
use Rattle.c_lexer.proofs.lex_all.Goals as goal

pub pieces-preserved : goal.pieces-preserved
pieces-preserved c = record {
  roomy = c.in_ok-step.ensures.roomy;
  closing = c.in_ok-step.ensures.closing;
  at = at-next c.args.text.now c.pieces.lexer c.step.new.self c.pieces.invariant.at c.in_ok-step.ensures.ok;
}

pub returns-in_err-step : goal.returns-in_err-step
returns-in_err-step c =
    let some : 0 < length c.pieces.lexer.left.now = search rules in
    let says = says-error c.args.text.now c.pieces.lexer c.in_err-step.field-0.0 c.pieces.invariant.at some c.in_err-step.ensures.err in
    let same : c.from_residual.result ≡ Err c.in_err-step.field-0.0 = search rules in
    rw same says
