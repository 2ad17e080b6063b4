-- Sums of the first numbers of a bank, and the visits that they sample.
use Rattle.std.proofs.Common.{◌≡◌, ℕ, zero, suc, ◌+◌, ◌*◌, ◌/◌, ◌%◌, ◌<◌, ◌≤◌, inl, inr, ◌==◌, Bool, true, false, cond, List, [], ◌∷◌, ◌++◌, length, refl, sym, ap, ◌∙◌, arith}
use Rattle.std.proofs.lemmas.Bool.{cases_lt, cases_eq, eq-eqb, eqb-true, or_cases, or_left, or_right}
use Rattle.std.proofs.Math.Nat.{mul-mod_left, mod-add-div'}
use Rattle.cbi_base.specs.declared.observation.Observation.{Observation}
use Rattle.flow.specs.Sampling.{total_of, IsSampled, IsPositive, is_total, is_sampled, samples_after}

pub first-within : (bank : ℕ → ℕ) (j : ℕ) → bank 0 ≤ total_of bank (suc j)
first-within bank zero = omega arith
first-within bank (suc j) = omega (arith, first-within bank j)

-- the first number is sampled, and none before it
pub first-sampled : (bank : ℕ → ℕ) → IsSampled bank (bank 0)
first-sampled bank = record { draws = 1; some = omega arith; is = omega arith }

least-at : (bank : ℕ → ℕ) (draws number : ℕ) → 1 ≤ draws → total_of bank draws ≡ number → bank 0 ≤ number
least-at bank zero number some is = absurd (omega arith)
least-at bank (suc j) number some is = omega (arith, first-within bank j)

pub least-sampled : (bank : ℕ → ℕ) (number : ℕ) → IsSampled bank number → bank 0 ≤ number
least-sampled bank number s = least-at bank s.draws number s.some s.is

-- more numbers add up to more
pub total-below : (bank : ℕ → ℕ) → IsPositive bank → (i j : ℕ) → i < j → total_of bank i < total_of bank j
total-below bank positive i zero less = absurd (omega arith)
total-below bank positive i (suc j) less =
    elim (cases_lt i j) [
      | inl before ↦ omega (arith, total-below bank positive i j before, positive j)
      | inr rest ↦ let same : i ≡ j = omega arith in omega (arith, ap (total_of bank) same, positive j)
    ]

-- so many numbers add up to at least so much
pub draws-le-total : (bank : ℕ → ℕ) → IsPositive bank → (draws : ℕ) → draws ≤ total_of bank draws
draws-le-total bank positive zero = omega arith
draws-le-total bank positive (suc draws) = omega (arith, draws-le-total bank positive draws, positive draws)

pub neighbours-differ : (bank : ℕ → ℕ) (one next : ℕ) → IsPositive bank → IsSampled bank one → IsSampled bank next → one < next
    → ((between : ℕ) → one < between → between < next → IsSampled bank between → ⊥) → (draws : ℕ) × (next ≡ one + bank draws)
neighbours-differ bank one next positive a b less none =
    let step : total_of bank (suc a.draws) ≡ one + bank a.draws = ap (λ n. n + bank a.draws) a.is in
    elim (cases_lt (suc a.draws) b.draws) [
      | inl further ↦
          let below = total-below bank positive (suc a.draws) b.draws further in
          absurd (none (total_of bank (suc a.draws)) (omega (arith, step, positive a.draws)) (omega (arith, below, b.is)) (record { draws = suc a.draws; some = omega arith; is = refl }))
      | inr near ↦
          elim (cases_lt a.draws b.draws) [
            | inl after ↦ let same : b.draws ≡ suc a.draws = omega arith in (a.draws, sym b.is ∙ ap (total_of bank) same ∙ step)
            | inr before ↦
                elim (cases_eq b.draws a.draws) [
                  | inl same ↦ absurd (omega (arith, ap (total_of bank) same, a.is, b.is))
                  | inr apart ↦ absurd (omega (arith, total-below bank positive b.draws a.draws (omega arith), a.is, b.is))
                ]
          ]
    ]

-- the test finds sums alone
total-found : (bank : ℕ → ℕ) (most number : ℕ) → is_total bank most number ≡ true → IsSampled bank number
total-found bank zero number h = cc
total-found bank (suc most) number h =
    elim (or_cases (total_of bank (suc most) == number) (is_total bank most number) h) [
      | inl here ↦ record { draws = suc most; some = omega arith; is = eqb-true (total_of bank (suc most)) number here }
      | inr before ↦ total-found bank most number before
    ]

-- and each sum of no more numbers
total-tested : (bank : ℕ → ℕ) (most number draws : ℕ) → 1 ≤ draws → draws ≤ most → total_of bank draws ≡ number → is_total bank most number ≡ true
total-tested bank zero number draws some few is = absurd (omega arith)
total-tested bank (suc most) number draws some few is =
    elim (cases_lt draws (suc most)) [
      | inl before ↦ or_right (total_of bank (suc most) == number) (is_total bank most number) (total-tested bank most number draws some (omega arith) is)
      | inr rest ↦
          let same : suc most ≡ draws = omega arith in
          or_left (total_of bank (suc most) == number) (is_total bank most number) (eq-eqb (total_of bank (suc most)) number (ap (total_of bank) same ∙ is))
    ]

pub sampled-found : (bank : ℕ → ℕ) (number : ℕ) → is_sampled bank number ≡ true → IsSampled bank number
sampled-found bank number h = total-found bank number number h

pub sampled-tested : (bank : ℕ → ℕ) (number : ℕ) → IsPositive bank → IsSampled bank number → is_sampled bank number ≡ true
sampled-tested bank number positive s = total-tested bank number number s.draws s.some (omega (arith, draws-le-total bank positive s.draws, s.is)) s.is

cond-append : (b : Bool) (visit : Observation) (more rest : List Observation) → cond b (visit ∷ (more ++ rest)) (more ++ rest) ≡ cond b (visit ∷ more) more ++ rest
cond-append true visit more rest = refl
cond-append false visit more rest = refl

-- one more visit
pub samples-more : (bank : ℕ → ℕ) (before number : ℕ) (visits : List Observation) (visit : Observation) → number ≡ before + length visits + 1
    → samples_after bank before (visits ++ visit ∷ []) ≡ samples_after bank before visits ++ cond (is_sampled bank number) (visit ∷ []) []
samples-more bank before number [] visit is =
    let same : suc before ≡ number = omega arith in
    ap (λ n. cond (is_sampled bank n) (visit ∷ []) []) same
samples-more bank before number (v ∷ visits) visit is =
    let rest = samples-more bank (suc before) number visits visit (omega arith) in
    let last = cond (is_sampled bank number) (visit ∷ []) [] in
    ap (λ l. cond (is_sampled bank (suc before)) (v ∷ l) l) rest ∙ cond-append (is_sampled bank (suc before)) v (samples_after bank (suc before) visits) last

-- a bank of ones
total-ones : (bank : ℕ → ℕ) → ((draws : ℕ) → bank draws ≡ 1) → (draws : ℕ) → total_of bank draws ≡ draws
total-ones bank ones zero = refl
total-ones bank ones (suc draws) = omega (arith, total-ones bank ones draws, ones draws)

pub samples-ones : (bank : ℕ → ℕ) (before : ℕ) (visits : List Observation) → ((draws : ℕ) → bank draws ≡ 1) → samples_after bank before visits ≡ visits
samples-ones bank before [] ones = refl
samples-ones bank before (visit ∷ visits) ones =
    let rest = samples-ones bank (suc before) visits ones in
    let tested = total-tested bank (suc before) (suc before) (suc before) (omega arith) (omega arith) (total-ones bank ones (suc before)) in
    ap (λ l. cond (is_sampled bank (suc before)) (visit ∷ l) l) rest ∙ ap (λ b. cond b (visit ∷ visits) visits) tested

-- a bank of equal numbers
total-equal : (bank : ℕ → ℕ) (n : ℕ) → ((draws : ℕ) → bank draws ≡ n) → (draws : ℕ) → total_of bank draws ≡ draws * n
total-equal bank n equal zero = omega arith
total-equal bank n equal (suc draws) = omega (arith, total-equal bank n equal draws, equal draws)

pub equal-sampled : (bank : ℕ → ℕ) (n number : ℕ) → 1 ≤ n → ((draws : ℕ) → bank draws ≡ n) → IsSampled bank number → (1 ≤ number) × (number % n ≡ 0)
equal-sampled bank n number some equal s =
    let whole : s.draws * n ≡ number = sym (total-equal bank n equal s.draws) ∙ s.is in
    let positive : IsPositive bank = λ draws. omega (arith, equal draws) in
    (omega (arith, draws-le-total bank positive s.draws, s.some, s.is), ap (λ k. k % n) (sym whole) ∙ mul-mod_left s.draws n)

pub sampled-equal : (bank : ℕ → ℕ) (n number : ℕ) → ((draws : ℕ) → bank draws ≡ n) → (1 ≤ number) × (number % n ≡ 0) → IsSampled bank number
sampled-equal bank n number equal h =
    let split : number % n + number / n * n ≡ number = mod-add-div' number n in
    let whole : number / n * n ≡ number = omega (arith, h.1) in record {
      draws = number / n;
      some = at (number / n) whole;
      is = total-equal bank n equal (number / n) ∙ whole;
    }
  where
    at : (draws : ℕ) → draws * n ≡ number → 1 ≤ draws
    at zero is = absurd (omega (arith, h.0))
    at (suc draws) is = omega arith
