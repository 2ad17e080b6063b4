use Rattle.std.proofs.Common.{◌≡◌, ◌+◌, ◌++◌, ◌∷◌, [], ◌∙◌, ℕ, length, length-append, sum, sym, ap, subst, refl, arith}
use Rattle.std.specs.Prelude.{All}
use Rattle.std.proofs.lemmas.List.Elements.{All-push}
use Rattle.std.proofs.lemmas.Result.{err_from_is_err_and}
use Rattle.countdown_bank.specs.Bank.{IsCountdown}
use Rattle.countdown_bank.specs.MadeBank.{after_words}
use Rattle.countdown_bank.proofs.Words.{after_words-zero, after_words-then}
use Rattle.countdown_bank.proofs.Made.{AreMade-next, IsMadeNumber-countdown, sum-push}
use Rattle.countdown_bank.proofs.make.make_bank.Goals as goal

pub loop-place-init : goal.loop-place-init
loop-place-init c = record {
  as_many = rw c.new-numbers.ensures.items refl;
  moved = rw c.new-numbers.ensures.items (sym (after_words-zero c.args.words.now));
  made = rw c.new-numbers.ensures.items tt;
  each = rw c.new-numbers.ensures.items (λ k d none. absurd (omega arith));
}

pub returns-in_err-push-clause-memory : goal.returns-in_err-push-clause-memory
returns-in_err-push-clause-memory c =
    let p = err_from_is_err_and c.from_residual.result c.from_residual.ensures.1 in
    rw p.1 (record {
      words = sum c.loop-place.numbers.items + c.make_number.result;
      is = after_words-then _ _ _ _ _ c.loop-place.invariant.moved c.make_number.ensures.moved;
    })

pub loop-place-preserved : goal.loop-place-preserved
loop-place-preserved c =
    let i = c.loop-place.invariant in
    let n = c.make_number.result in
    let more : c.push.new.self.items ≡ c.loop-place.numbers.items ++ n ∷ [] = c.in_ok-push.ensures.items in
    let total : sum c.push.new.self.items ≡ sum c.loop-place.numbers.items + n = ap sum more ∙ sum-push c.loop-place.numbers.items n in
    record {
      as_many = ap length more ∙ length-append {A = ℕ} c.loop-place.numbers.items (n ∷ []) ∙ ap (λ k. k + 1) i.as_many;
      moved = after_words-then _ _ _ _ _ i.moved c.make_number.ensures.moved ∙ ap (λ k. after_words k c.args.words.now) (sym total);
      made = AreMade-next _ _ _ _ _ _ i.moved i.made c.make_number.ensures.made more;
      each = subst (All IsCountdown) (sym more) (All-push IsCountdown c.loop-place.numbers.items n i.each (IsMadeNumber-countdown _ _ n c.make_number.ensures.made));
    }
