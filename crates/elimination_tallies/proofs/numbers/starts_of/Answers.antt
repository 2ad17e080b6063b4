use Rattle.std.proofs.Common.{◌≡◌, ℕ, ◌+◌, ◌≤◌, inl, inr, List, ◌∷◌, [], ◌++◌, length, get_or, arith, ◌∙◌, ap}
use Rattle.std.proofs.lemmas.Bool.{cases_lt}
use Rattle.std.proofs.lemmas.List.{get_or_append_left, get_or_push, length_push}
use Rattle.elimination_tallies.specs.Predicates.{first_predicate}
use Rattle.elimination_tallies.proofs.PredicateLemmas.{first-next, first-within, predicates-few}
use Rattle.elimination_tallies.proofs.numbers.starts_of.Goals as goal

pub overflow_add-start : goal.overflow_add-start
overflow_add-start c =
    omega (arith, first-next c.args.branches.now c.loop-branch.branch-index c.loop-branch-test.true, first-within c.args.branches.now (c.loop-branch.branch-index + 1), predicates-few c.args.branches.now, c.width_of-start.ensures.value, c.loop-branch.invariant.0)

pushed : (starts : List ℕ) (start i site other : ℕ) (first : ℕ → ℕ) → length starts ≡ i + 1 → start ≡ first (i + 1) → ((k d : ℕ) → k ≤ i → get_or starts k d ≡ first k) → site ≤ i + 1 → get_or (starts ++ start ∷ []) site other ≡ first site
pushed starts start i site other first long is before within =
    elim (cases_lt site (i + 1)) [
      | inl less ↦ get_or_append_left starts (start ∷ []) other site (omega arith) ∙ before site other (omega arith)
      | inr last ↦
          let same : i + 1 ≡ site = omega arith in
          get_or_push starts start other site (omega arith) ∙ is ∙ ap first same
    ]

pub loop-branch-preserved : goal.loop-branch-preserved
loop-branch-preserved c =
    let next = first-next c.args.branches.now c.loop-branch.branch-index c.loop-branch-test.true in
    let start : c.loop-branch.start + c.width_of-start.result ≡ first_predicate c.args.branches.now (c.loop-branch.branch-index + 1) = omega (arith, next, c.width_of-start.ensures.value, c.loop-branch.invariant.0) in
    let items : c.push-in-loop-branch.new.self.items ≡ c.loop-branch.starts.items ++ (c.loop-branch.start + c.width_of-start.result) ∷ [] = c.in_ok-push-2.ensures.items in
    let len : length c.push-in-loop-branch.new.self.items ≡ c.loop-branch.branch-index + 1 + 1 = ap length items ∙ length_push c.loop-branch.starts.items (c.loop-branch.start + c.width_of-start.result) ∙ omega (arith, c.loop-branch.invariant.1) in
    let each : (site other : ℕ) → site ≤ c.loop-branch.branch-index + 1 → get_or c.push-in-loop-branch.new.self.items site other ≡ first_predicate c.args.branches.now site = λ site other within. ap (λ (xs : List ℕ). get_or xs site other) items
    ∙ pushed c.loop-branch.starts.items (c.loop-branch.start + c.width_of-start.result) c.loop-branch.branch-index site other (first_predicate c.args.branches.now) c.loop-branch.invariant.1 start c.loop-branch.invariant.2 within in
    (start, len, each)
