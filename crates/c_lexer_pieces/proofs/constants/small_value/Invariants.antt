use Rattle.std.proofs.Common.{◌≡◌, ◌<◌, ◌^◌, drop}
use Rattle.c_lexer_pieces.specs.Values.{value_from}
use Rattle.c_lexer_pieces.proofs.constants.small_value.Given as goal

abbrev pub invariant-loop-d : goal.invariant-loop-d
invariant-loop-d l = (l.value < 2 ^ 32) × (value_from l.base l.value (drop l.d-index l.digits) ≡ value_from l.base 0 l.digits)
