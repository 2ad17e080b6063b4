use Rattle.std.proofs.Common.{◌≡◌, drop}
use Rattle.std.specs.Prelude.{map}
use Rattle.c_lexer_pieces.specs.Spellings.{value_in}
use Rattle.c_lexer_pieces.proofs.spellings.value_in.Given as goal

abbrev pub invariant-loop-spelling : goal.invariant-loop-spelling
invariant-loop-spelling g l =
    value_in (map (λ e. (e.0.now, e.1)) (drop l.spelling-index l.table)) l.bytes ≡ value_in (map (λ e. (e.0.now, e.1)) l.table) l.bytes
