use Rattle.std.proofs.Common.{◌≡◌, ◌+◌, ◌%◌, ◌∙◌, ◌++◌, ◌∷◌, [], ℕ, ap, arith, refl, sym}
use Rattle.countdown_bank.specs.MadeBank.{word_after}
use Rattle.countdown_bank.proofs.Words.{after_words-zero, word-step}
use Rattle.study_runs.specs.MadeRun.{byte_from, bytes_from}
use Rattle.study_runs.proofs.Lines.{bytes_more}
use Rattle.study_runs.proofs.made_run.make_line.Goals as goal

pub loop-place-init : goal.loop-place-init
loop-place-init c =
    let first = word-step 0 1 _ c.args.words.now _ _ refl (sym (after_words-zero c.args.words.now)) c.next_word-length.ensures in
    record { moved = first.1; made = rw c.new-line.ensures.items refl }

pub loop-place-preserved : goal.loop-place-preserved
loop-place-preserved c =
    let step = word-step (c.loop-place._place + 1) (c.loop-place._place + 1 + 1) _ c.args.words.now _ _ refl c.loop-place.invariant.moved c.next_word-word.ensures in
    record {
      moved = step.1;
      made = c.in_ok-push.ensures.items
          ∙ ap (λ (b : ℕ). c.loop-place.line.items ++ b ∷ []) (c.byte_from.ensures ∙ ap byte_from step.0)
          ∙ ap (λ bs. bs ++ byte_from (word_after c.args.words.now (c.loop-place._place + 1)) ∷ []) c.loop-place.invariant.made
          ∙ sym (bytes_more (λ k. word_after c.args.words.now (k + 1)) c.loop-place._place (c.loop-place._place + 1) refl);
    }

pub returns : goal.returns
returns c =
    let first = word-step 0 1 _ c.args.words.now _ _ refl (sym (after_words-zero c.args.words.now)) c.next_word-length.ensures in
    let all : c.loop-place._place ≡ c.next_word-length.result % 64 = omega (arith, c.loop-place-test.false, c.loop-place.auto._place-end) in
    c.in_ok-push-2.ensures.items
    ∙ ap (λ bs. bs ++ 10 ∷ []) c.loop-place.invariant.made
    ∙ ap (λ n. bytes_from (λ k. word_after c.args.words.now (k + 1)) n ++ 10 ∷ []) (all ∙ ap (λ w. w % 64) first.0)
