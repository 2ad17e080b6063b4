use Rattle.std.proofs.Common.{◌≡◌, ◌+◌, ◌≤◌, take, drop}
use Rattle.c_lexer_pieces.specs.Cutting.{fresh_from}
use Rattle.c_lexer_pieces.specs.Bytes.{newlines}
use Rattle.c_lexer.proofs.lexer.moved.Given as goal

abbrev pub invariant-loop-b : goal.invariant-loop-b
invariant-loop-b l = record {
  fresh : fresh_from l.fresh (drop l.b-index l.taken) ≡ fresh_from l.fn.fresh l.taken;
  line : l.line ≡ l.fn.line + newlines (take l.b-index l.taken);
  bound : l.line ≤ l.fn.line + l.b-index;
}
