-- There is a list of the candidates for pairs.
use Rattle.std.proofs.Common.{◌≡◌, ℕ, zero, suc, ◌*◌, ◌<◌, ◌≤◌, ◌⊎◌, inl, inr, List, [], ◌∷◌, ap, subst, arith}
use Rattle.std.specs.Prelude.{All, Contains}
use Rattle.std.proofs.lemmas.Bool.{cases_lt, cases_order}
use Rattle.std.proofs.lemmas.List.Elements.{All-cons, All-nil, All-weaker}
use Rattle.compound.proofs.ListingLemmas.{ranks-trans}
use Rattle.fractions.specs.declared.tally.Tally.{Tally}
use Rattle.fractions.specs.Tally.{Passes, importance_of}
use Rattle.affinity.proofs.FallLemmas.{passes-or}
use Rattle.compound.specs.Candidates.{AreCandidates, ComesBefore, RanksAtLeast, candidate_limit}
use Rattle.compound.proofs.OrderLemmas.{less-at-most, not-both}
use Rattle.ranking_laws.specs.Laws.{ThereIsOne}
use Rattle.ranking_laws.proofs.Firsts.{AreFirstOf, IsOrder, first-member, firsts, later-member, one-list}

-- ---- the order of candidates

-- one of two predicates ranks at least as high as the other
abbrev RanksOrNot : (ℕ → Tally) → ℕ → ℕ → ℕ → Type 0
RanksOrNot numbers failing p q = RanksAtLeast numbers failing p q ⊎ ((RanksAtLeast numbers failing p q → ⊥) × RanksAtLeast numbers failing q p)

abbrev PassesOr : Tally → Type 0
PassesOr t = Passes t ⊎ (Passes t → ⊥)

ranks-by : (numbers : ℕ → Tally) (failing p q : ℕ) → PassesOr (numbers p) → PassesOr (numbers q) → RanksOrNot numbers failing p q
ranks-by numbers failing p q (inl one) (inr other) = inl (record { passes = λ h. absurd (other h); importance = λ h. absurd (other h); failing_runs = λ none. absurd (none one) })
ranks-by numbers failing p q (inr one) (inl other) =
    inr ((λ ranks. one (ranks.passes other)), record { passes = λ h. absurd (one h); importance = λ h. absurd (one h); failing_runs = λ none. absurd (none other) })
ranks-by numbers failing p q (inr one) (inr other) =
    elim (cases_lt (numbers p).a (numbers q).a) [
      | inl less ↦ inr ((λ ranks. omega (arith, less, ranks.failing_runs one)), record { passes = λ h. absurd (one h); importance = λ h. absurd (one h); failing_runs = λ _. omega (arith, less) })
      | inr most ↦ inl (record { passes = λ h. absurd (other h); importance = λ h. absurd (other h); failing_runs = λ _. most })
    ]
ranks-by numbers failing p q (inl one) (inl other) =
    let a = importance_of (numbers p) failing in
    let b = importance_of (numbers q) failing in
    elim (cases_lt (a.top * b.bottom) (b.top * a.bottom)) [
      | inl less ↦ inr ((λ ranks. not-both a b less (ranks.importance other)), record { passes = λ _. other; importance = λ _. less-at-most a b less; failing_runs = λ none. absurd (none other) })
      | inr most ↦ inl (record { passes = λ _. one; importance = λ _. most; failing_runs = λ none. absurd (none one) })
    ]

ranks-or : (numbers : ℕ → Tally) (failing p q : ℕ) → RanksOrNot numbers failing p q
ranks-or numbers failing p q = ranks-by numbers failing p q (passes-or (numbers p)) (passes-or (numbers q))

-- of two predicates, of which the first has the smaller number
lower-first : (numbers : ℕ → Tally) (failing p q : ℕ) → p < q → RanksOrNot numbers failing p q → ComesBefore numbers failing p q ⊎ ComesBefore numbers failing q p
lower-first numbers failing p q less (inl ranks) = inl (record { ranks = ranks; first = λ _. less })
lower-first numbers failing p q less (inr not) = inr (record { ranks = not.1; first = λ back. absurd (not.0 back) })

told : (numbers : ℕ → Tally) (failing p q : ℕ) → ComesBefore numbers failing p q ⊎ ((p ≡ q) ⊎ ComesBefore numbers failing q p)
told numbers failing p q =
    elim (cases_order p q) [
      | inl same ↦ inr (inl same)
      | inr (inl less) ↦ elim (lower-first numbers failing p q less (ranks-or numbers failing p q)) [ inl before ↦ inl before | inr behind ↦ inr (inr behind) ]
      | inr (inr more) ↦ elim (lower-first numbers failing q p more (ranks-or numbers failing q p)) [ inl behind ↦ inr (inr behind) | inr before ↦ inl before ]
    ]

candidate-order : (numbers : ℕ → Tally) (failing : ℕ) → IsOrder (ComesBefore numbers failing)
candidate-order numbers failing = record {
  told = told numbers failing;
  trans = λ p q r one other. record {
    ranks = ranks-trans numbers failing p q r one.ranks other.ranks;
    first = λ back. omega (arith, one.first (ranks-trans numbers failing q r p other.ranks back), other.first (ranks-trans numbers failing r p q back one.ranks));
  };
  apart = λ p q one other. omega (arith, one.first other.ranks, other.first one.ranks);
}

-- ---- those that can be candidates

abbrev CanBe : (ℕ → Tally) → ℕ → ℕ → Type 0
CanBe numbers count q = (q < count) × (1 ≤ (numbers q).a)

record Ones (numbers : ℕ → Tally) (count : ℕ) : Type 0 where
  list : List ℕ
  each : All (CanBe numbers count) list
  all : (q : ℕ) → CanBe numbers count q → Contains list q

still : (numbers : ℕ → Tally) (k : ℕ) (list : List ℕ) → All (CanBe numbers k) list → All (CanBe numbers (suc k)) list
still numbers k list each = All-weaker (CanBe numbers k) (CanBe numbers (suc k)) (λ q h. (omega (arith, h.0), h.1)) list each

ones : (numbers : ℕ → Tally) (count : ℕ) → Ones numbers count
ones numbers zero = record { list = []; each = All-nil (CanBe numbers zero); all = λ q is. absurd (omega (arith, is.0)) }
ones numbers (suc k) =
    let rest = ones numbers k in
    elim (cases_lt 0 (numbers k).a) [
      | inl some ↦ record {
        list = k ∷ rest.list;
        each = All-cons (CanBe numbers (suc k)) k rest.list (omega arith, omega (arith, some)) (still numbers k rest.list rest.each);
        all = λ q is. elim (cases_lt q k) [
          | inl less ↦ later-member k rest.list q (rest.all q (less, is.1))
          | inr most ↦ subst (Contains (k ∷ rest.list)) (omega (arith, most, is.0)) (first-member k rest.list)
        ];
      }
      | inr none ↦ record {
        list = rest.list;
        each = still numbers k rest.list rest.each;
        all = λ q is. elim (cases_lt q k) [
          | inl less ↦ rest.all q (less, is.1)
          | inr most ↦
              let here : q ≡ k = omega (arith, most, is.0) in
              absurd (omega (arith, none, is.1, ap (λ n. (numbers n).a) here))
        ];
      }
    ]

as-first : (numbers : ℕ → Tally) (count failing : ℕ) (list : List ℕ) → AreCandidates numbers count failing list → AreFirstOf candidate_limit (ComesBefore numbers failing) (CanBe numbers count) list
as-first numbers count failing list are = record { each = are.each; ordered = are.ordered; few = are.few; complete = λ q is. are.complete q is.0 is.1 }

pub one-candidate-list : (numbers : ℕ → Tally) (count failing : ℕ) → ThereIsOne (AreCandidates numbers count failing)
one-candidate-list numbers count failing =
    let R = ComesBefore numbers failing in
    let all = ones numbers count in
    let first = firsts candidate_limit R (CanBe numbers count) (candidate-order numbers failing) all.list all.each all.all in record {
      one = first.0;
      is = record { each = first.1.each; ordered = first.1.ordered; few = first.1.few; complete = λ q less some. first.1.complete q (less, some) };
      only = λ other are. one-list R (candidate-order numbers failing) candidate_limit (CanBe numbers count) other first.0 (as-first numbers count failing other are) first.1;
    }
