-- Of each line of a bank it can be told whether it may come.
use Rattle.std.proofs.Common.{◌≡◌, ◌≤◌, ℕ, inl, inr, List, [], ◌∷◌, ◌++◌, Option, None, Some, decimal, length, refl, sym, ap, subst, ◌∙◌, arith}
use Rattle.std.proofs.lemmas.Fmt.{decimal_injective}
use Rattle.base_lists.proofs.Options.{none_some, some_is}
use Rattle.cbi_base.specs.Words.{LeadsOnce, number_of}
use Rattle.cbi_base.proofs.NumberLemmas.{number_of-decimal, number_of-spelled}
use Rattle.countdown_bank.specs.Bank.{IsCountdown, greatest_number, most_numbers}
use Rattle.countdown_bank.specs.BankFile.{MayEnd, NumberFollows}
use Rattle.countdown_bank.proofs.Texts.{numbers-read, read-are_numbers, read-text}
use Rattle.lines_laws.specs.Laws.{BanksAreLines, IsReadAs, SpellsNumbers}
use Rattle.lines_laws.proofs.Walking.{Told, le-told, lt-told, the-spelling}

-- a countdown that the line spells
abbrev IsNumberOf : List ℕ → ℕ → Type 0
IsNumberOf line n = IsCountdown n × (line ≡ decimal n)

read-as : (line : List ℕ) (n : ℕ) → IsNumberOf line n → number_of greatest_number line ≡ Some n
read-as line n is = ap (number_of greatest_number) is.1 ∙ number_of-decimal greatest_number n is.0.1 (omega arith)

number-by : (line : List ℕ) (answer : Option ℕ) → number_of greatest_number line ≡ answer → Told (IsNumberOf line)
number-by line None none = inr (λ n is. none_some (sym none ∙ read-as line n is))
number-by line (Some n) some =
    let spelled = number_of-spelled greatest_number line n some in
    elim (le-told 1 n) [
      | inl positive ↦ inl (n, ((positive, spelled.1), spelled.0))
      | inr zero ↦ inr (λ m is. zero (subst (λ (k : ℕ). 1 ≤ k) (sym (some_is (sym some ∙ read-as line m is))) is.0.0))
    ]

tells : (before line : List ℕ) → Told (NumberFollows before line)
tells before line =
    elim (number-by line (number_of greatest_number line) refl) [
      | inr never ↦ inr (λ after s. never s.number (s.is_countdown, s.line_is))
      | inl is ↦ elim (lt-told (length before) most_numbers) [
        | inr full ↦ inr (λ after s. full s.room)
        | inl room ↦ inl (before ++ is.0 ∷ [], record { number = is.0; is_countdown = is.1.0; room = room; line_is = is.1.1; after_is = refl })
      ]
    ]

leads-once : LeadsOnce NumberFollows
leads-once = λ before line a b x y.
    let same : x.number ≡ y.number = decimal_injective x.number y.number (omega (arith, x.is_countdown.1)) (omega (arith, y.is_countdown.1)) (sym x.line_is ∙ y.line_is) in
    x.after_is ∙ ap (λ (n : ℕ). before ++ n ∷ []) same ∙ sym y.after_is

spelled : (text numbers : List ℕ) → SpellsNumbers text numbers → IsReadAs NumberFollows MayEnd [] (λ (ns : List ℕ). ns) text numbers
spelled text numbers is = record { to = numbers; reads = numbers-read numbers text is.0 is.1; said_is = refl }

pub banks_are_lines : BanksAreLines
banks_are_lines =
    the-spelling NumberFollows MayEnd [] (λ (ns : List ℕ). ns) SpellsNumbers leads-once tells (λ ns. lt-told 0 (length ns)) (λ text to reads. (read-are_numbers text to reads, read-text text to reads)) spelled
