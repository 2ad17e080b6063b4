use Rattle.std.proofs.Common.{length}
use Rattle.c_lexer_pieces.specs.Reading.{trails_within}
use Rattle.c_lexer_pieces.proofs.Unrolled.{Unrolled}
use Rattle.c_lexer_pieces.proofs.directives.trails.Given as goal

abbrev pub invariant-loop-rest : goal.invariant-loop-rest
invariant-loop-rest l = Unrolled trails_within (λ b. b) l.bytes l.rest

abbrev pub decreases-loop-rest : goal.decreases-loop-rest
decreases-loop-rest l = length l.rest
