use Rattle.std.proofs.Common.{◌≡◌, ℕ, ◌<◌, true, get_or}
use Rattle.c_lexer_pieces.specs.Bytes.{is_of_class}
use Rattle.c_lexer_pieces.proofs.bytes.run_len.Given as goal

abbrev pub invariant-loop-i : goal.invariant-loop-i
invariant-loop-i l = (k : ℕ) → k < l.i → is_of_class l.class (get_or l.bytes k 0) ≡ true
