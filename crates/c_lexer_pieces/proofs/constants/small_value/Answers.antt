use Rattle.std.proofs.Common.{◌+◌, ◌*◌, ◌≡◌, drop, sym, arith}
use Rattle.std.proofs.lemmas.Grind.{common_steps}
use Rattle.c_lexer_pieces.specs.Values.{value_from, value_of}
use Rattle.c_lexer_pieces.proofs.NumberLaws.{small_value-none}
use Rattle.c_lexer_pieces.proofs.constants.small_value.Goals as goal

pub returns-then-value-ge-TWO_TO_32 : goal.returns-then-value-ge-TWO_TO_32
returns-then-value-ge-TWO_TO_32 c =
    let rest = drop (c.loop-d.d-index + 1) c.args.digits.now in
    let v = c.loop-d.value * c.args.base + c.digit_value.result in
    let e : value_from c.args.base v rest ≡ value_of c.args.base c.args.digits.now = grind (arith, common_steps) in
    sym (small_value-none c.args.base v c.args.digits.now rest c.requires.positive (omega arith) e)
