use Rattle.std.proofs.Common.{◌≡◌, length}
use Rattle.c_lexer_pieces.specs.Values.{after_close}
use Rattle.c_lexer_pieces.proofs.comments.after_close.Given as goal

abbrev pub invariant-loop-rest : goal.invariant-loop-rest
invariant-loop-rest l = after_close l.rest ≡ after_close l.bytes

abbrev pub decreases-loop-rest : goal.decreases-loop-rest
decreases-loop-rest l = length l.rest
