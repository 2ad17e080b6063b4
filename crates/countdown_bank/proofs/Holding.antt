-- A bank that is held, before and after a draw.
use Rattle.std.proofs.Common.{◌≡◌, ℕ, ◌+◌, ◌<◌, ◌≤◌, List, [], ◌++◌, length, get_or, ap, subst, sym, ◌∙◌, arith}
use Rattle.std.proofs.lemmas.List.{get_or_append_left}
use Rattle.countdown_bank.specs.Bank.{AreNumbers, BankState, bank_after_draws}
use Rattle.countdown_bank.specs.Held.{IsBankHeld}
use Rattle.countdown_bank.proofs.Rounds.{drawn-next}

abbrev state : List ℕ → ℕ → BankState
state numbers position = record { numbers = numbers; position = position }

-- the number at a place that is made is that of the bank
pub number-held : (made later whole : List ℕ) (position x : ℕ) → made ++ later ≡ whole → position < length made → x ≡ get_or made position x → x ≡ get_or whole position x
number-held made later whole position x same inside is = is ∙ sym (get_or_append_left made later x position inside) ∙ ap (λ l. get_or l position x) same

-- a bank of which nothing is made yet
pub IsBankHeld-begun : (made later : List ℕ) (room count : ℕ) → made ≡ [] → AreNumbers later → length later ≡ count → count ≤ room → IsBankHeld made later room count 0
IsBankHeld-begun made later room count none numbers whole fits =
    let same : later ≡ made ++ later = ap (λ l. l ++ later) (sym none) in record {
      bank = record { numbers = subst AreNumbers same numbers; position = omega (arith, ap length same, numbers.some) };
      whole = sym (ap length same) ∙ whole;
      reached = omega arith;
      fits = fits;
    }

-- the next place, after a draw
pub drawn-on : (made later more rest : List ℕ) (count position : ℕ) → more ++ rest ≡ made ++ later → length (made ++ later) ≡ count → position + 1 < count
    → state (more ++ rest) (position + 1) ≡ bank_after_draws 1 (state (made ++ later) position)
drawn-on made later more rest count position same whole inside =
    ap (λ l. state l (position + 1)) same ∙ sym (drawn-next (state (made ++ later) position) (omega arith))
