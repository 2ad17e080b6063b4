use Rattle.std.proofs.Common.{◌≡◌, ◌+◌, ◌-◌, ◌<◌, ◌≤◌, ℕ, inl, inr, sym, subst, arith}
use Rattle.std.proofs.lemmas.Bool.{cases_lt}
use Rattle.countdown_bank.specs.MadeBank.{word_after}
use Rattle.countdown_bank.proofs.Words.{after_words-zero, word-step}
use Rattle.countdown_bank.proofs.number.make_number.Goals as goal

pub loop-place-init : goal.loop-place-init
loop-place-init c = record { moved = sym (after_words-zero c.args.words.now); none = λ k before. absurd (omega arith) }

pub returns-then-from-bound-clause-moved : goal.returns-then-from-bound-clause-moved
returns-then-from-bound-clause-moved c =
    let more : c.loop-place.place - 1 + 1 ≡ c.loop-place.place = omega arith in
    (word-step _ _ _ _ _ _ more c.loop-place.invariant.moved c.next_word.ensures).1

-- what holds before the last place and at it holds before the place after it
below_one_more : (n : ℕ) (P : ℕ → Type 0) → 1 ≤ n → ((k : ℕ) → k + 1 < n → P k) → P (n - 1) → (k : ℕ) → k + 1 < n + 1 → P k
below_one_more n P some before here k less =
    elim (cases_lt (k + 1) n) [ inl earlier ↦ before k earlier | inr last ↦ let is : n - 1 ≡ k = omega arith in subst P is here ]

pub loop-place-preserved : goal.loop-place-preserved
loop-place-preserved c =
    let more : c.loop-place.place - 1 + 1 ≡ c.loop-place.place + 1 - 1 = omega arith in
    let step = word-step _ _ _ _ _ _ more c.loop-place.invariant.moved c.next_word.ensures in
    let here : c.args.bound ≤ word_after c.args.words.now (c.loop-place.place - 1) = omega (arith, step.0) in record {
      moved = step.1;
      none = below_one_more c.loop-place.place (λ k. c.args.bound ≤ word_after c.args.words.now k) (omega arith) c.loop-place.invariant.none here;
    }

pub returns-clause-moved : goal.returns-clause-moved
returns-clause-moved c =
    let more : c.loop-place.place - 1 + 1 ≡ 1048576 = omega arith in
    (word-step _ _ _ _ _ _ more c.loop-place.invariant.moved c.next_word-last.ensures).1
