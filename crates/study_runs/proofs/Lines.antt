-- Made lines.
use Rattle.std.proofs.Common.{◌≡◌, ℕ, zero, suc, ◌+◌, ◌≤◌, ◌%◌, ◌∙◌, ap, refl, arith, List, [], ◌∷◌, ◌++◌, length, length-append, sum}
use Rattle.std.specs.Prelude.{All}
use Rattle.std.proofs.lemmas.List.Elements.{All-push}
use Rattle.rand_pcg.specs.Lcg.{Lcg}
use Rattle.countdown_bank.specs.Bank.{BankState}
use Rattle.countdown_bank.specs.MadeBank.{after_words, word_after}
use Rattle.countdown_bank.proofs.Words.{word_after-add}
use Rattle.study_runs.specs.MadeRun.{IsMadeRun, IsPrintable, byte_from, bytes_from, generator_of, line_from}

-- words that are the same make the same
pub bytes_same : (words others : ℕ → ℕ) (n : ℕ) → ((k : ℕ) → words k ≡ others k) → bytes_from words n ≡ bytes_from others n
bytes_same words others zero same = refl
bytes_same words others (suc n) same = ap (λ bs. bs ++ byte_from (words n) ∷ []) (bytes_same words others n same) ∙ ap (λ w. bytes_from others n ++ byte_from w ∷ []) (same n)

pub line_same : (words others : ℕ → ℕ) → ((k : ℕ) → words k ≡ others k) → line_from words ≡ line_from others
line_same words others same =
    ap (λ n. bytes_from (λ k. words (k + 1)) (n % 64) ++ 10 ∷ []) (same 0)
    ∙ ap (λ bs. bs ++ 10 ∷ []) (bytes_same (λ k. words (k + 1)) (λ k. others (k + 1)) (others 0 % 64) (λ k. same (k + 1)))

-- the line after a bank's words
pub line_behind : (g now : Lcg) (n : ℕ) (line : List ℕ) → now ≡ after_words n g → line ≡ line_from (word_after now) → line ≡ line_from (λ k. word_after g (n + k))
line_behind g now n line moved is =
    is ∙ line_same (word_after now) (λ k. word_after g (n + k)) (λ k. ap (λ (h : Lcg). word_after h k) moved ∙ word_after-add n k g)

pub bytes_length : (words : ℕ → ℕ) (n : ℕ) → length (bytes_from words n) ≡ n
bytes_length words zero = refl
bytes_length words (suc n) = length-append {A = ℕ} (bytes_from words n) (byte_from (words n) ∷ []) ∙ (omega (arith, bytes_length words n))

byte_printable : (w : ℕ) → IsPrintable (byte_from w)
byte_printable w = (omega arith, omega arith)

pub bytes_printable : (words : ℕ → ℕ) (n : ℕ) → All IsPrintable (bytes_from words n)
bytes_printable words zero = λ k d none. absurd (omega arith)
bytes_printable words (suc n) = All-push IsPrintable (bytes_from words n) (byte_from (words n)) (bytes_printable words n) (byte_printable (words n))

-- a made line is short
abbrev pub LinesArePrintable : Type 0
LinesArePrintable = (words : ℕ → ℕ) → (bytes : List ℕ) × (line_from words ≡ bytes ++ 10 ∷ []) × (length bytes ≤ 63) × All IsPrintable bytes

pub short : LinesArePrintable → (seed rate number : ℕ) (bank : BankState) (input : List ℕ) → IsMadeRun seed rate number bank input → length input ≤ 16777216
short law seed rate number bank input made =
    let line = law (λ k. word_after (generator_of seed number) (sum bank.numbers + k)) in
    let all : input ≡ line.0 ++ 10 ∷ [] = made.input_is ∙ line.1 in
    omega (arith, ap (λ (l : List ℕ). length l) all, length-append line.0 (10 ∷ []), line.2)

-- one more byte
pub bytes_more : (words : ℕ → ℕ) (n m : ℕ) → m ≡ n + 1 → bytes_from words m ≡ bytes_from words n ++ byte_from (words n) ∷ []
bytes_more words n m e = let next : m ≡ suc n = omega (arith, e) in ap (bytes_from words) next
