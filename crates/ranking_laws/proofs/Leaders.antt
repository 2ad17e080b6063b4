-- There is a leader or none passes; so there is an elimination.
use Rattle.std.proofs.Common.{◌≡◌, ℕ, zero, suc, ◌+◌, ◌*◌, ◌≤◌, ◌⊎◌, inl, inr, Bool, List, [], ◌∷◌, refl, ap, subst, ◌∙◌, arith}
use Rattle.std.proofs.lemmas.Bool.{cases_lt}
use Rattle.cbi_base.specs.declared.policy.Policy.{Policy}
use Rattle.collector.specs.Sites.{branches_of}
use Rattle.fractions.specs.declared.tally.Tally.{Tally}
use Rattle.fractions.specs.Fraction.{IsAtMost}
use Rattle.fractions.specs.Tally.{Passes, importance_of}
use Rattle.elimination_tallies.specs.declared.labelled.LabelledRun.{LabelledRun}
use Rattle.elimination_tallies.specs.declared.listed.Listed.{Listed}
use Rattle.elimination_tallies.specs.Leading.{IsLeader, Leads, NonePass, NonePasses}
use Rattle.elimination_tallies.specs.Predicates.{predicates_in}
use Rattle.elimination_tallies.specs.Recount.{failing_runs, recount}
use Rattle.elimination_tallies.proofs.ScanLemmas.{at-most-refl, first-leads, leads-on, none-more}
use Rattle.elimination.specs.Elimination.{IsElimination, runs_after_leader}
use Rattle.elimination.proofs.EliminationLemmas.{leader-falls}
use Rattle.elimination.proofs.UniqueLemmas.{one-elimination}
use Rattle.ranking.specs.Ranking.{ranking_text}
use Rattle.affinity.proofs.FallLemmas.{passes-or}
use Rattle.compound.specs.Bound.{IsLess}
use Rattle.compound.proofs.OrderLemmas.{at-most-trans, importance-positive, less-at-most, not-both}
use Rattle.ranking_laws.specs.Laws.{RunsHaveOneElimination, RunsHaveOneRanking}

-- the last one leads where it is more important than the leader of those before it, over however many runs
leads-last : (numbers : ℕ → Tally) (k failing b : ℕ) → Leads numbers k failing b → Passes (numbers k) → IsLess (importance_of (numbers b) failing) (importance_of (numbers k) failing) → Leads numbers (k + 1) failing k
leads-last numbers k failing b leads passes less =
    let at : ℕ → _ = λ q. importance_of (numbers q) failing in record {
      is_one = omega arith;
      passes = passes;
      greatest = λ q below other. elim (cases_lt q k) [
        | inl earlier ↦ at-most-trans (at q) (at b) (at k) (importance-positive (numbers b) failing leads.passes) (leads.greatest q earlier other) (less-at-most (at b) (at k) less)
        | inr last ↦ subst (λ n. IsAtMost (at n) (at k)) (omega (arith, below, last)) (at-most-refl (at k))
      ];
      first = λ q below other most. elim (cases_lt q k) [
        | inl earlier ↦ absurd (not-both (at b) (at k) less (at-most-trans (at k) (at q) (at b) (importance-positive (numbers q) failing other) most (leads.greatest q earlier other)))
        | inr last ↦ last
      ];
    }

abbrev LeaderOrNone : (ℕ → Tally) → ℕ → ℕ → Type 0
LeaderOrNone numbers count failing = ((p : ℕ) × Leads numbers count failing p) ⊎ NonePass numbers count

-- one predicate on
one-on : (numbers : ℕ → Tally) (k failing : ℕ) → LeaderOrNone numbers k failing → Passes (numbers k) ⊎ (Passes (numbers k) → ⊥) → LeaderOrNone numbers (k + 1) failing
one-on numbers k failing (inl led) (inr not) = inl (led.0, leads-on numbers k failing led.0 led.1 (λ passes. absurd (not passes)))
one-on numbers k failing (inr none) (inr not) = inr (none-more numbers k none not)
one-on numbers k failing (inr none) (inl passes) = inl (k, first-leads numbers k failing none passes)
one-on numbers k failing (inl led) (inl passes) =
    let best = importance_of (numbers led.0) failing in
    let next = importance_of (numbers k) failing in
    elim (cases_lt (best.top * next.bottom) (next.top * best.bottom)) [
      | inl less ↦ inl (k, leads-last numbers k failing led.0 led.1 passes less)
      | inr most ↦ inl (led.0, leads-on numbers k failing led.0 led.1 (λ _. most))
    ]

leader-or-none : (numbers : ℕ → Tally) (count failing : ℕ) → LeaderOrNone numbers count failing
leader-or-none numbers zero failing = inr (λ q less passes. omega (arith, less))
leader-or-none numbers (suc k) failing =
    let next : k + 1 ≡ suc k = omega arith in
    subst (λ n. LeaderOrNone numbers n failing) next (one-on numbers k failing (leader-or-none numbers k failing) (passes-or (numbers k)))

leader : (branches : List Bool) (runs : List LabelledRun) → ((row : Listed) × IsLeader branches runs row) ⊎ NonePasses branches runs
leader branches runs =
    elim (leader-or-none (recount branches runs) (predicates_in branches) (failing_runs runs)) [
      | inl led ↦ inl (record { predicate = led.0; tally = recount branches runs led.0; failing = failing_runs runs }, record { leads = led.1; tally = refl; failing = refl })
      | inr none ↦ inr none
    ]

abbrev Eliminated : List Bool → Policy → List LabelledRun → Type 0
Eliminated branches policy runs = (rows : List Listed) × IsElimination branches policy runs rows

-- fewer runs fail after each step
eliminated : (most : ℕ) (branches : List Bool) (policy : Policy) (runs : List LabelledRun) → failing_runs runs ≤ most → Eliminated branches policy runs
eliminated zero branches policy runs few =
    elim (leader branches runs) [ inr none ↦ ([], none) | inl led ↦ absurd (omega (arith, few, leader-falls branches policy runs led.0 led.1)) ]
eliminated (suc most) branches policy runs few =
    elim (leader branches runs) [
      | inr none ↦ ([], none)
      | inl led ↦
          let rest = eliminated most branches policy (runs_after_leader branches policy led.0.predicate runs) (omega (arith, few, leader-falls branches policy runs led.0 led.1)) in
          (led.0 ∷ rest.0, (led.1, rest.1))
    ]

pub runs_have_one_elimination : RunsHaveOneElimination
runs_have_one_elimination branches policy runs =
    let rows = eliminated (failing_runs runs) branches policy runs (omega arith) in
    record { one = rows.0; is = rows.1; only = λ other is. one-elimination branches policy runs other rows.0 is rows.1 }

pub runs_have_one_ranking : RunsHaveOneRanking
runs_have_one_ranking table policy runs =
    let rows = runs_have_one_elimination (branches_of table.sites) policy runs in record {
      one = ranking_text table rows.one;
      is = record { rows = rows.one; ranked = rows.is; text_is = refl };
      only = λ other is. is.text_is ∙ ap (ranking_text table) (rows.only is.rows is.ranked);
    }
