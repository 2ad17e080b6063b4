use Rattle.std.proofs.Common.{length, sym, arith, rules}
use Rattle.std.proofs.lemmas.List.Sums.{prefix_len_is}
use Rattle.c_lexer_pieces.specs.Bytes.{is_of_class}
use Rattle.c_lexer_pieces.proofs.bytes.run_len.Goals as goal

pub returns-then-not-has : goal.returns-then-not-has
returns-then-not-has c =
    sym (prefix_len_is (is_of_class c.args.class) c.args.bytes.now c.loop-i.i 0 (omega arith) c.loop-i.invariant (λ _. search rules))

pub returns : goal.returns
returns c =
    sym (prefix_len_is (is_of_class c.args.class) c.args.bytes.now (length c.args.bytes.now) 0 (omega arith) (λ k h. c.loop-i.invariant k (omega arith)) (λ h. absurd (omega arith)))
