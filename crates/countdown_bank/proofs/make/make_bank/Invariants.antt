use Rattle.std.proofs.Common.{◌≡◌, length, sum}
use Rattle.std.specs.Prelude.{All}
use Rattle.countdown_bank.specs.Bank.{IsCountdown}
use Rattle.countdown_bank.specs.MadeBank.{after_words, word_after, AreMade}
use Rattle.countdown_bank.proofs.make.make_bank.Given as goal

-- the numbers so far were made
abbrev pub invariant-loop-place : goal.invariant-loop-place
invariant-loop-place l = record {
  as_many : length l.numbers.items ≡ l._place;
  moved : l.words ≡ after_words (sum l.numbers.items) l.fn.words;
  made : AreMade (word_after l.fn.words) l.bound l.numbers.items;
  each : All IsCountdown l.numbers.items;
}
