use Rattle.std.proofs.Common.{◌≡◌, ◌+◌}
use Rattle.countdown_bank.specs.MadeBank.{after_words, word_after}
use Rattle.study_runs.specs.MadeRun.{bytes_from}
use Rattle.study_runs.proofs.made_run.make_line.Given as goal

-- the bytes so far were made
abbrev pub invariant-loop-place : goal.invariant-loop-place
invariant-loop-place l = record {
  moved : l.words ≡ after_words (l._place + 1) l.fn.words;
  made : l.line.items ≡ bytes_from (λ k. word_after l.fn.words (k + 1)) l._place;
}
