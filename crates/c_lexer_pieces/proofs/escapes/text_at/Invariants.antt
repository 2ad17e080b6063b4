use Rattle.std.proofs.Common.{length}
use Rattle.c_lexer_pieces.specs.Reading.{text_within}
use Rattle.c_lexer_pieces.proofs.Unrolled.{Unrolled, with_front}
use Rattle.c_lexer_pieces.proofs.escapes.text_at.Given as goal

abbrev pub invariant-loop-rest : goal.invariant-loop-rest
invariant-loop-rest l = Unrolled text_within (with_front l.values.items) l.bytes l.rest

abbrev pub decreases-loop-rest : goal.decreases-loop-rest
decreases-loop-rest l = length l.rest
