use Rattle.std.proofs.Common.{◌≡◌, ◌++◌, ◌∙◌, length, sym, ap, subst}
use Rattle.countdown_bank.specs.Bank.{AreNumbers, bank_of}
use Rattle.countdown_bank.specs.MadeBank.{bound_of, numbers_from, IsMadeBank}
use Rattle.countdown_bank.proofs.Computed.{numbers_from-bank, numbers_from-length, numbers_from-are_numbers}
use Rattle.countdown_bank.proofs.Holding.{IsBankHeld-begun}
use Rattle.countdown_bank.proofs.make.later_bank.Goals as goal

pub begun-requires : goal.begun-requires
begun-requires c =
    let count = c.args.count in
    let bound = c.bound_of.result in
    let words = c.args.words in
    IsBankHeld-begun _ _ _ count c.in_ok-made.ensures.items (subst (λ l. AreNumbers l) (sym c.new-later.ensures) (numbers_from-are_numbers count bound words c.requires.count_some c.requires.count_most))
    (ap length c.new-later.ensures ∙ numbers_from-length count bound words) c.in_ok-made.ensures.capacity

pub returns : goal.returns
returns c =
    let all : c.begun.result ≡ bank_of (numbers_from c.args.count (bound_of c.args.rate) c.args.words) =
    c.begun.ensures ∙ ap (λ made. bank_of (made ++ c.new-later.result)) c.in_ok-made.ensures.items ∙ ap bank_of c.new-later.ensures ∙ ap (λ bound. bank_of (numbers_from c.args.count bound c.args.words)) c.bound_of.ensures in
    subst (IsMadeBank c.args.words c.args.rate c.args.count) (sym all) (numbers_from-bank c.args.words c.args.rate c.args.count)
