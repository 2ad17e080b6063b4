use Rattle.std.proofs.Common.{◌≡◌, ◌-◌, [], ◌∷◌, ◌∙◌, sym, ap, arith}
use Rattle.std.proofs.lemmas.Grind.{common_steps}
use Rattle.countdown_bank.specs.MadeBank.{numbers_from}
use Rattle.countdown_bank.proofs.Computed.{numbers_from-zero, numbers_from-next}
use Rattle.countdown_bank.proofs.later.LaterIterator.next.Goals as goal

pub returns-then-self-eq0-clause-steps : goal.returns-then-self-eq0-clause-steps
returns-then-self-eq0-clause-steps c =
    let l = c.self.inside in
    let none : numbers_from l.left l.bound l.words ≡ [] = ap (λ n. numbers_from n l.bound l.words) c.if-self-eq0.true ∙ numbers_from-zero l.bound l.words in
    (sym c.self.view_is ∙ none, sym c.self.view_is ∙ none)

pub returns-clause-steps : goal.returns-clause-steps
returns-clause-steps c =
    let l = c.self.inside in
    sym c.self.view_is ∙ numbers_from-next l.left l.bound c.make_number.result l.words c.make_number.new.words (omega arith) c.make_number.ensures.made c.make_number.ensures.moved

pub returns-clause-goes : goal.returns-clause-goes
returns-clause-goes c =
    let l = c.self.inside in
    let left = numbers_from (l.left - 1) l.bound c.make_number.new.words in
    let step : c.args.self.now ≡ c.make_number.result ∷ left = sym c.self.view_is ∙ numbers_from-next l.left l.bound c.make_number.result l.words c.make_number.new.words (omega arith) c.make_number.ensures.made c.make_number.ensures.moved in
    grind (arith, common_steps, step)
