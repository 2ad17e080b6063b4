use Rattle.std.proofs.Common.{◌≡◌, ◌+◌, drop}
use Rattle.compound_bits.proofs.Rows.{decided_in, holding_in}
use Rattle.compound_bits.proofs.row.count_words.Given as goal

abbrev pub invariant-loop-word : goal.invariant-loop-word
invariant-loop-word l = record {
  holding : l.holding + holding_in (drop l.word l.left_truth) (drop l.word l.left_known) (drop l.word l.right_truth) (drop l.word l.right_known) ≡ holding_in l.left_truth l.left_known l.right_truth l.right_known;
  decided : l.decided + decided_in (drop l.word l.left_truth) (drop l.word l.left_known) (drop l.word l.right_truth) (drop l.word l.right_known) ≡ decided_in l.left_truth l.left_known l.right_truth l.right_known;
}
