-- Expressions, for what their values are wanted for.
use Rattle.std.proofs.Common.{◌≡◌, inl, inr, ℕ, refl, sym, subst, List, [], ◌∷◌, ◌++◌, length, Option, Bool, true, false}
use Rattle.cbi_base.specs.declared.operators.Unary.TheVariants as unary
use Rattle.c_syntax.specs.declared.expr.PrefixOperator.{PrefixOperator}
use Rattle.c_syntax.specs.declared.expr.PrefixOperator.TheVariants as prefix
use Rattle.flow.specs.declared.node.Node.{Node}
use Rattle.flow.specs.declared.node.Node.TheVariants as node
use Rattle.c_meaning.specs.Facts.{Facts, Sites}
use Rattle.c_meaning.specs.declared.value_type.ValueType.{ValueType}
use Rattle.lower_relation.specs.Operators.{Negated, Prefixed, EmittedIndirection}
use Rattle.lower_relation.specs.Paths.{Graph, Path, ◌then◌, Does, Emitted, Ways}
use Rattle.lower_relation.specs.Values.{EmittedPlace, EmittedValue}
use Rattle.lower_nodes.specs.Ends.{WantedAlike, purpose_ends}
use Rattle.lower_nodes.specs.Made.{GraphPath, Made, MadeFor, MadeWays}
use Rattle.lower_nodes.specs.Prefixes.{PrefixValue}
use Rattle.lower_nodes.specs.Purposes.{PurposeTakes, Serves, TakesPlace, TakesThrough, condition_ways}
use Rattle.lower_nodes.specs.Standing.{AllLike, Allowed, Allowance}
use Rattle.lower_nodes.specs.declared.purpose.Purpose.{Purpose}
use Rattle.lower_nodes.specs.declared.purpose.Purpose.TheVariants as purpose
use Rattle.lower_nodes.proofs.Building.{◌and_then◌, both_ways, carried, one_made, row, then_made}
use Rattle.lower_nodes.proofs.Wanting.{as_effect, as_value, effect_of, truth_of, value_of}

serves_valued : (G : Graph) (R : Path ℕ) (p : Purpose) (i : ℕ) → (R then PurposeTakes G) i p → Serves (EmittedValue G R) i p
serves_valued G R (purpose.Value next) i h = subst (λ k. R i k) h.2 h.1
serves_valued G R (purpose.Effect next) i h = h
serves_valued G R (purpose.Truth yes_at no_at) i h = h

valued_serves : (G : Graph) (R : Path ℕ) (p : Purpose) (i : ℕ) → Serves (EmittedValue G R) i p → (R then PurposeTakes G) i p
valued_serves G R (purpose.Value next) i h = (next, h, refl)
valued_serves G R (purpose.Effect next) i h = h
valued_serves G R (purpose.Truth yes_at no_at) i h = h

-- an expression that is no place
pub valued_made : (R : GraphPath ℕ) (p : Purpose) (n0 n1 n2 : List Node) (i m : ℕ) → MadeFor (λ G. PurposeTakes G) n0 n1 m p → Made R n1 n2 i m →
    MadeFor (λ G. Serves (EmittedValue G (R G))) n0 n2 i p
valued_made R p n0 n1 n2 i m taken made =
    both_ways (λ G. R G then PurposeTakes G) (λ G. Serves (EmittedValue G (R G))) p (λ G i p h. serves_valued G (R G) p i h) (λ s i p h. valued_serves (Allowed s) (R (Allowed s)) p i h) n0 n2 i
    (then_made R (λ G. PurposeTakes G) n0 n1 n2 i m p taken made)

serves_placed : (G : Graph) (of : Option ValueType) (P : Path ℕ) (p : Purpose) (i : ℕ) → (P then TakesPlace G of) i p → Serves (EmittedPlace G of P) i p
serves_placed G of P (purpose.Value next) i h = h
serves_placed G of P (purpose.Effect next) i h = h
serves_placed G of P (purpose.Truth yes_at no_at) i h = (h.2.0, (h.0, h.1, h.2.1), h.2.2)

placed_serves : (G : Graph) (of : Option ValueType) (P : Path ℕ) (p : Purpose) (i : ℕ) → Serves (EmittedPlace G of P) i p → (P then TakesPlace G of) i p
placed_serves G of P (purpose.Value next) i h = h
placed_serves G of P (purpose.Effect next) i h = h
placed_serves G of P (purpose.Truth yes_at no_at) i h = (h.1.0, h.1.1, (h.0, h.1.2, h.2))

-- a place
pub placed_made : (of : Option ValueType) (P : GraphPath ℕ) (p : Purpose) (n0 n1 n2 : List Node) (i m : ℕ) → MadeFor (λ G. TakesPlace G of) n0 n1 m p → Made P n1 n2 i m →
    MadeFor (λ G. Serves (EmittedPlace G of (P G))) n0 n2 i p
placed_made of P p n0 n1 n2 i m taken made =
    both_ways (λ G. P G then TakesPlace G of) (λ G. Serves (EmittedPlace G of (P G))) p (λ G i p h. serves_placed G of (P G) p i h) (λ s i p h. placed_serves (Allowed s) of (P (Allowed s)) p i h) n0 n2 i
    (then_made P (λ G. TakesPlace G of) n0 n1 n2 i m p taken made)

serves_through : (G : Graph) (of : Option ValueType) (R : Path ℕ) (p : Purpose) (i : ℕ) → (R then TakesThrough G of) i p → Serves (EmittedIndirection G of R) i p
serves_through G of R (purpose.Value next) i h = h
serves_through G of R (purpose.Effect next) i h = (h.2.0, (h.0, h.1, h.2.1), h.2.2)
serves_through G of R (purpose.Truth yes_at no_at) i h = (h.2.0, (h.0, h.1, h.2.1), h.2.2)

through_serves : (G : Graph) (of : Option ValueType) (R : Path ℕ) (p : Purpose) (i : ℕ) → Serves (EmittedIndirection G of R) i p → (R then TakesThrough G of) i p
through_serves G of R (purpose.Value next) i h = h
through_serves G of R (purpose.Effect next) i h = (h.1.0, h.1.1, (h.0, h.1.2, h.2))
through_serves G of R (purpose.Truth yes_at no_at) i h = (h.1.0, h.1.1, (h.0, h.1.2, h.2))

-- the place that a pointer's value is
pub through_made : (of : Option ValueType) (R : GraphPath ℕ) (p : Purpose) (n0 n1 n2 : List Node) (i m : ℕ) → MadeFor (λ G. TakesThrough G of) n0 n1 m p → Made R n1 n2 i m →
    MadeFor (λ G. Serves (EmittedIndirection G of (R G))) n0 n2 i p
through_made of R p n0 n1 n2 i m taken made =
    both_ways (λ G. R G then TakesThrough G of) (λ G. Serves (EmittedIndirection G of (R G))) p (λ G i p h. serves_through G of (R G) p i h) (λ s i p h. through_serves (Allowed s) of (R (Allowed s)) p i h) n0 n2 i
    (then_made R (λ G. TakesThrough G of) n0 n1 n2 i m p taken made)

-- an expression for its value, and one for what it does
pub for_value : (m : Graph → Emitted) (n0 n1 : List Node) (i next : ℕ) → MadeFor (λ G. Serves (m G)) n0 n1 i (purpose.Value next) → Made (λ G. (m G).value) n0 n1 i next
for_value m n0 n1 i next made = value_of (λ G. Serves (m G)) (λ G. (m G).value) (λ G i k h. h) (λ G i k h. h) n0 n1 i next made

pub for_effect : (m : Graph → Emitted) (n0 n1 : List Node) (i next : ℕ) → MadeFor (λ G. Serves (m G)) n0 n1 i (purpose.Effect next) → Made (λ G. (m G).effect) n0 n1 i next
for_effect m n0 n1 i next made = effect_of (λ G. Serves (m G)) (λ G. (m G).effect) (λ G i k h. h) (λ G i k h. h) n0 n1 i next made

pub for_truth : (m : Graph → Emitted) (n0 n1 : List Node) (i yes_at no_at : ℕ) → MadeFor (λ G. Serves (m G)) n0 n1 i (purpose.Truth yes_at no_at) →
    MadeWays (λ G. (m G).truth) n0 n1 i (condition_ways yes_at no_at)
for_truth m n0 n1 i yes_at no_at made = truth_of (λ G. Serves (m G)) (λ G. (m G).truth) (λ G i w h. h) (λ G i w h. h) n0 n1 i yes_at no_at made

-- an operator whose whole is a value
abbrev pub is_valued : PrefixOperator → Bool
is_valued prefix.Indirection = false
is_valued prefix.Not = false
is_valued prefix.SizeOf = false
is_valued operator = true

prefix_valued : (G : Graph) (facts : Facts) (sites : Sites) (token : ℕ) (operator : PrefixOperator) (of : Option ValueType) (cells : Option ℕ) (m : Emitted) →
    is_valued operator ≡ true → EmittedValue G (PrefixValue G facts sites token operator of m) ≡ Prefixed G facts sites token operator of cells m
prefix_valued G facts sites token prefix.Indirection of cells m is = cc
prefix_valued G facts sites token prefix.Not of cells m is = cc
prefix_valued G facts sites token prefix.SizeOf of cells m is = cc
prefix_valued G facts sites token operator of cells m is = refl

abbrev negation : (Graph → Emitted) → GraphPath ℕ
negation m G = (m G).value then Does G (node.Sole unary.Not 0)

-- where a graph of nodes that may be has the value, it has the truth, which may go on at any two nodes
abbrev pub ValueForks : (Graph → Emitted) → Type 0
ValueForks m = (p : Allowance) (i k : ℕ) (w : Ways) → (m (Allowed p)).value i k → (m (Allowed p)).truth i w

module _ (facts : Facts) (sites : Sites) (m : Graph → Emitted) where
  turned_back : ValueForks m → (p : Allowance) (n : List Node) (j yes_at no_at : ℕ) (q : Purpose) → WantedAlike (purpose.Truth yes_at no_at) q →
      AllLike p n (yes_at ∷ no_at ∷ []) (purpose_ends q) → Serves (Negated (Allowed p) facts sites (m (Allowed p))) j q →
      (r : Purpose) × WantedAlike (purpose.Truth no_at yes_at) r × AllLike p n (no_at ∷ yes_at ∷ []) (purpose_ends r) × Serves (m (Allowed p)) j r
  turned_back forks p n j yes_at no_at (purpose.Value next) same like h = absurd same
  turned_back forks p n j yes_at no_at (purpose.Effect next) same like h = absurd same
  turned_back forks p n j yes_at no_at (purpose.Truth yes_to no_to) same like h = (
    purpose.Truth no_to yes_to,
    tt,
    (like.1.0, (like.0, tt)),
    elim h [ inl t ↦ forks p j t.1.0 (condition_ways no_to yes_to) t.1.1 | inr t ↦ t ],
  )

  -- a negation, whose truth goes the other way round
  pub negated_truth : ValueForks m → (n0 n1 : List Node) (i yes_at no_at : ℕ) → MadeFor (λ G. Serves (m G)) n0 n1 i (purpose.Truth no_at yes_at) →
      MadeFor (λ G. Serves (Negated G facts sites (m G))) n0 n1 i (purpose.Truth yes_at no_at)
  negated_truth forks n0 n1 i yes_at no_at made =
      carried (λ G. Serves (m G)) (λ G. Serves (Negated G facts sites (m G))) (purpose.Truth no_at yes_at) (purpose.Truth yes_at no_at) (λ G i h. inr h) (λ n b. (b.1.0, (b.0, tt)))
      (λ p n j q same like h. turned_back forks p n j yes_at no_at q same like h) n0 n1 i made

  pub negated_value : (n0 n1 n2 n3 : List Node) (after sole i next : ℕ) → MadeFor (λ G. PurposeTakes G) n0 n1 after (purpose.Value next) →
      sole ≡ length n1 → n2 ≡ n1 ++ node.Sole unary.Not after ∷ [] → Made (λ G. (m G).value) n2 n3 i sole →
      MadeFor (λ G. Serves (Negated G facts sites (m G))) n0 n3 i (purpose.Value next)
  negated_value n0 n1 n2 n3 after sole i next taken at is made =
      as_value (negation m) (λ G. Serves (Negated G facts sites (m G))) (λ G i k h. h) (λ G i k h. h) n0 n3 i next
      (for_value (λ G. EmittedValue G (negation m G)) n0 n3 i next
      (valued_made (negation m) (purpose.Value next) n0 n1 n3 i after taken (made and_then row (node.Sole unary.Not 0) _ at is refl)))

  pub negated_effect : (n0 n1 n2 n3 : List Node) (after sole i next : ℕ) → MadeFor (λ G. PurposeTakes G) n0 n1 after (purpose.Effect next) →
      sole ≡ length n1 → n2 ≡ n1 ++ node.Sole unary.Not after ∷ [] → Made (λ G. (m G).value) n2 n3 i sole →
      MadeFor (λ G. Serves (Negated G facts sites (m G))) n0 n3 i (purpose.Effect next)
  negated_effect n0 n1 n2 n3 after sole i next taken at is made =
      as_effect (λ G. (EmittedValue G (negation m G)).effect) (λ G. Serves (Negated G facts sites (m G))) (λ G i k h. h) (λ G i k h. h) n0 n3 i next
      (for_effect (λ G. EmittedValue G (negation m G)) n0 n3 i next
      (valued_made (negation m) (purpose.Effect next) n0 n1 n3 i after taken (made and_then row (node.Sole unary.Not 0) _ at is refl)))

-- the operators that have a value
pub prefixed_made : (facts : Facts) (sites : Sites) (token : ℕ) (operator : PrefixOperator) (of : Option ValueType) (cells : Option ℕ) (m : Graph → Emitted) (p : Purpose)
    (n0 n1 n2 : List Node) (i after : ℕ) → is_valued operator ≡ true → MadeFor (λ G. PurposeTakes G) n0 n1 after p →
    Made (λ G. PrefixValue G facts sites token operator of (m G)) n1 n2 i after → MadeFor (λ G. Serves (Prefixed G facts sites token operator of cells (m G))) n0 n2 i p
prefixed_made facts sites token operator of cells m p n0 n1 n2 i after is taken made =
    both_ways (λ G. Serves (EmittedValue G (PrefixValue G facts sites token operator of (m G)))) (λ G. Serves (Prefixed G facts sites token operator of cells (m G))) p
    (λ G i p h. subst (λ e. Serves e i p) (prefix_valued G facts sites token operator of cells (m G) is) h)
    (λ s i p h. subst (λ e. Serves e i p) (sym (prefix_valued (Allowed s) facts sites token operator of cells (m (Allowed s)) is)) h) n0 n2 i
    (valued_made (λ G. PrefixValue G facts sites token operator of (m G)) p n0 n1 n2 i after taken made)

pub ruleset parts_served = (for_value, for_effect, for_truth)

pub ruleset negations_made = (negated_truth, negated_value, negated_effect)

pub ruleset prefixes_made = (prefixed_made, through_made)

pub ruleset leaves_made = (valued_made, placed_made, one_made)
