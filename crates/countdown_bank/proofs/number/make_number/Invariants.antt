use Rattle.std.proofs.Common.{◌≡◌, ◌≤◌, ◌<◌, ℕ, ◌+◌, ◌-◌}
use Rattle.countdown_bank.specs.MadeBank.{after_words, word_after}
use Rattle.countdown_bank.proofs.number.make_number.Given as goal

-- the words so far were not below the bound
abbrev pub invariant-loop-place : goal.invariant-loop-place
invariant-loop-place l = record {
  moved : l.words ≡ after_words (l.place - 1) l.fn.words;
  none : (k : ℕ) → k + 1 < l.place → l.bound ≤ word_after l.fn.words k;
}
