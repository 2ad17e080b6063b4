-- A number makes one run: the proof of a law of plans.
use Rattle.std.proofs.Common.{◌≡◌, ◌+◌, ◌∙◌, ℕ, List, Option, None, ap, sym, sum}
use Rattle.countdown_bank.specs.Bank.{BankState}
use Rattle.countdown_bank.specs.MadeBank.{word_after}
use Rattle.countdown_bank.proofs.Made.{IsMadeBank-once}
use Rattle.planned_runs.specs.declared.input.RunInput.{RunInput}
use Rattle.study_runs.specs.MadeRun.{IsMadeRun, generator_of, line_from}

pub same_input : (seed rate number : ℕ) (a b : BankState) (x y : List ℕ) → IsMadeRun seed rate number a x → IsMadeRun seed rate number b y → x ≡ y
same_input seed rate number a b x y m n =
    m.input_is
    ∙ ap (λ (c : BankState). line_from (λ k. word_after (generator_of seed number) (sum c.numbers + k)))
    (IsMadeBank-once (generator_of seed number) rate 256 a b m.bank_is n.bank_is)
    ∙ sym n.input_is

-- the number of a run gives it one bank and one line
pub made_once : (seed rate number : ℕ) (a b : RunInput) → IsMadeRun seed rate number a.bank a.input → IsMadeRun seed rate number b.bank b.input
    → a.expect ≡ None → b.expect ≡ None → a ≡ b
made_once seed rate number a b m n x y =
    let bank_is : a.bank ≡ b.bank = IsMadeBank-once (generator_of seed number) rate 256 a.bank b.bank m.bank_is n.bank_is in
    let input_is : a.input ≡ b.input = same_input seed rate number a.bank b.bank a.input b.input m n in
    ap (λ (c : BankState). let r : RunInput = record a { bank = c } in r) bank_is
    ∙ ap (λ (i : List ℕ). let r : RunInput = record { bank = b.bank; input = i; expect = a.expect } in r) input_is
    ∙ ap (λ (e : Option (List ℕ)). let r : RunInput = record b { expect = e } in r) (x ∙ sym y)
