-- The countdown after one more visit.
use Rattle.std.proofs.Common.{◌≡◌, inl, inr, ℕ, zero, suc, ◌+◌, ◌<◌, ◌≤◌, Bool, true, false, cond, List, [], ◌∷◌, ◌++◌, length, length-append, refl, sym, ap, ◌∙◌, arith}
use Rattle.std.proofs.lemmas.Bool.{cases_lt, false_from_ne_true}
use Rattle.std.proofs.lemmas.List.{append-nil}
use Rattle.cbi_base.specs.declared.observation.Observation.{Observation}
use Rattle.flow.specs.Sampling.{total_of, IsPositive, is_sampled, samples}
use Rattle.flow.proofs.SampledTotals.{samples-more, sampled-found, sampled-tested, total-below}
use Rattle.sampling.specs.Tally.{Tally}

-- so many numbers are drawn, one of them at least
some_drawn : (bank : ℕ → ℕ) (drawn n : ℕ) → total_of bank drawn ≡ suc n → 1 ≤ drawn
some_drawn bank zero n e = absurd (omega arith)
some_drawn bank (suc drawn) n e = omega arith

-- the visit that brings the countdown to zero is sampled, and the next number is drawn
pub tally_hit : (bank : ℕ → ℕ) (visits observed : List Observation) (visit : Observation) (drawn : ℕ) → IsPositive bank → Tally bank visits observed 1 drawn →
    Tally bank (visits ++ visit ∷ []) (observed ++ visit ∷ []) (bank drawn) (drawn + 1)
tally_hit bank visits observed visit drawn positive t =
    let longer : length (visits ++ visit ∷ []) ≡ length visits + 1 = length-append visits (visit ∷ []) in
    let due : total_of bank drawn ≡ length visits + 1 = t.due in
    let next : drawn + 1 ≡ suc drawn = omega arith in
    let total : total_of bank (drawn + 1) ≡ total_of bank drawn + bank drawn = ap (total_of bank) next in
    let is : is_sampled bank (length visits + 1) ≡ true =
    sampled-tested bank (length visits + 1) positive (record { draws = drawn; some = some_drawn bank drawn (length visits) (omega arith); is = due })
    in
    let more : samples bank (visits ++ visit ∷ []) ≡ samples bank visits ++ cond (is_sampled bank (length visits + 1)) (visit ∷ []) [] =
    samples-more bank 0 (length visits + 1) visits visit (omega arith)
    in
    record {
      due = omega (arith, total, due, longer);
      ahead = omega (arith, positive drawn);
      last = λ draws e. let same : draws ≡ drawn = omega arith in omega (arith, ap (total_of bank) same, due, longer);
      same = ap (λ (l : List Observation). l ++ visit ∷ []) t.same ∙ sym (more ∙ ap (λ (b : Bool). samples bank visits ++ cond b (visit ∷ []) []) is);
    }

-- no sum of numbers lies between the last two
none_between : (bank : ℕ → ℕ) (drawn draws low number : ℕ) → IsPositive bank → ((k : ℕ) → suc k ≡ drawn → total_of bank k ≤ low) → low < number → number < total_of bank drawn →
    total_of bank draws ≡ number → ⊥
none_between bank zero draws low number positive last above below is = omega arith
none_between bank (suc k) draws low number positive last above below is =
    elim (cases_lt k draws) [
      | inl after ↦
          elim (cases_lt (suc k) draws) [
            | inl further ↦ omega (arith, total-below bank positive (suc k) draws further, is)
            | inr near ↦ let same : draws ≡ suc k = omega arith in omega (arith, ap (total_of bank) same, is)
          ]
      | inr before ↦
          elim (cases_lt draws k) [
            | inl less ↦ omega (arith, total-below bank positive draws k less, last k refl, is)
            | inr rest ↦ let same : draws ≡ k = omega arith in omega (arith, ap (total_of bank) same, last k refl, is)
          ]
    ]

-- a visit that leaves the countdown above zero is not sampled
pub tally_miss : (bank : ℕ → ℕ) (visits observed : List Observation) (visit : Observation) (count drawn : ℕ) → IsPositive bank →
    Tally bank visits observed (suc (suc count)) drawn → Tally bank (visits ++ visit ∷ []) observed (suc count) drawn
tally_miss bank visits observed visit count drawn positive t =
    let longer : length (visits ++ visit ∷ []) ≡ length visits + 1 = length-append visits (visit ∷ []) in
    let due : total_of bank drawn ≡ length visits + suc (suc count) = t.due in
    let is : is_sampled bank (length visits + 1) ≡ false = false_from_ne_true (is_sampled bank (length visits + 1)) (λ h.
    let s = sampled-found bank (length visits + 1) h in
    none_between bank drawn s.draws (length visits) (length visits + 1) positive t.last (omega arith) (omega (arith, due)) s.is)
    in
    let more : samples bank (visits ++ visit ∷ []) ≡ samples bank visits ++ cond (is_sampled bank (length visits + 1)) (visit ∷ []) [] =
    samples-more bank 0 (length visits + 1) visits visit (omega arith)
    in
    record {
      due = omega (arith, due, longer);
      ahead = omega arith;
      last = λ draws e. omega (arith, t.last draws e, longer);
      same = t.same ∙ sym (more ∙ ap (λ (b : Bool). samples bank visits ++ cond b (visit ∷ []) []) is ∙ append-nil (samples bank visits));
    }
