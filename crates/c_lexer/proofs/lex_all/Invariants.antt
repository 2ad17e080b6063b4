use Rattle.std.proofs.Common.{length}
use Rattle.c_lexer.specs.State.{Roomy}
use Rattle.c_lexer_pieces.specs.PieceFacts.{KnowsClosing}
use Rattle.c_lexer.proofs.At.{IsAt}
use Rattle.c_lexer.proofs.lex_all.Given as goal

abbrev pub invariant-pieces : goal.invariant-pieces
invariant-pieces l = record { roomy : Roomy l.lexer; closing : KnowsClosing l.lexer.closes l.lexer.left.now; at : IsAt l.text l.lexer }

abbrev pub decreases-pieces : goal.decreases-pieces
decreases-pieces l = length l.lexer.left.now
