-- Places in a bank, round and round.
use Rattle.std.proofs.Common.{◌≡◌, ℕ, ◌+◌, ◌%◌, ◌<◌, length, get_or, ap, ◌∙◌, sym, arith}
use Rattle.std.proofs.Math.Nat.{mod-eq_of_lt, mod_self, mod-add-mod}
use Rattle.std.proofs.lemmas.Grind.{get_or_default_zero}
use Rattle.countdown_bank.specs.Bank.{BankState, bank_after_draws, number_after}

pub number_after-drawn : (b : BankState) (draws more : ℕ) → number_after (bank_after_draws draws b) more ≡ number_after b (draws + more)
number_after-drawn b draws more =
    let sum : b.position + draws + more ≡ b.position + (draws + more) = omega arith in
    ap (λ i. get_or b.numbers i 0) (mod-add-mod (b.position + draws) (length b.numbers) more ∙ ap (λ n. n % length b.numbers) sum)

pub number_after-first : (b : BankState) → b.position < length b.numbers → number_after b 0 ≡ get_or b.numbers b.position 0
number_after-first b inside =
    let same : b.position + 0 ≡ b.position = omega arith in
    ap (λ i. get_or b.numbers i 0) (ap (λ n. n % length b.numbers) same ∙ mod-eq_of_lt inside)

pub drawn-next : (b : BankState) → b.position + 1 < length b.numbers → bank_after_draws 1 b ≡ record b { position = b.position + 1 }
drawn-next b inside = ap (λ i. let c : BankState = record b { position = i } in c) (mod-eq_of_lt inside)

pub drawn-round : (b : BankState) → b.position + 1 ≡ length b.numbers → bank_after_draws 1 b ≡ record b { position = 0 }
drawn-round b last = ap (λ i. let c : BankState = record b { position = i } in c) (ap (λ n. n % length b.numbers) last ∙ mod_self (length b.numbers))

pub number_after-is : (b : BankState) (x : ℕ) → b.position < length b.numbers → x ≡ get_or b.numbers b.position x → x ≡ number_after b 0
number_after-is b x inside is = is ∙ get_or_default_zero b.numbers b.position x inside ∙ sym (number_after-first b inside)
