-- The weight of a node follows from those of the nodes after it.
use Rattle.std.proofs.Common.{◌≡◌, ◌⊎◌, inl, inr, ℕ, zero, suc, ◌+◌, ◌<◌, ◌≤◌, Bool, List, [], ◌∷◌, length, set, get_or, refl, sym, ap, ◌∙◌, subst, arith, length-set, get_or-set_other}
use Rattle.std.specs.List.{Contains}
use Rattle.std.proofs.lemmas.Bool.{cases_eq, cases_lt}
use Rattle.std.proofs.lemmas.Grind.{get_or-set_at}
use Rattle.flow.specs.declared.node.Node.{Node}
use Rattle.flow.specs.declared.node.View.{View}
use Rattle.flow.specs.declared.node.View.TheVariants.{Row, Halts, Forks, Turns, Calls, Gives, Quits, Marks, Skips, Tests, Picks, Imports, Exports, Nowhere}
use Rattle.regions.specs.Weighty.{views_of}
use Rattle.weights.specs.Paths.{IsPath, mark_count, marks_on, next_nodes}
use Rattle.weights.specs.Weight.{AreWeights, IsForward, IsWeight, greatest_weight, weight_from}

-- none of the nodes has a greater weight
pub at_most : (weight : ℕ → ℕ) (places : List ℕ) (x : ℕ) → Contains places x → weight x ≤ greatest_weight weight places
at_most weight [] x c = absurd (omega (arith, c.1))
at_most weight (y ∷ ys) x (zero, l, e) = let same = ap weight e in omega (arith, same)
at_most weight (y ∷ ys) x (suc k, l, e) = let r = at_most weight ys x (k, omega arith, e) in omega (arith, r)

-- one of them has the greatest
picked : (weight : ℕ → ℕ) (places : List ℕ) → (places ≡ []) ⊎ ((x : ℕ) × Contains places x × (greatest_weight weight places ≡ weight x))
picked weight [] = inl refl
picked weight (y ∷ ys) =
    let first : Contains (y ∷ ys) y = (0, omega arith, refl) in
    elim (picked weight ys) [
      | inl e ↦ let none : greatest_weight weight ys ≡ 0 = ap (greatest_weight weight) e in inr (y, first, omega (arith, none))
      | inr r ↦ elim (cases_lt (weight y) (weight r.0)) [
        | inl l ↦ let at = r.1 in inr (r.0, (suc at.0, omega (arith, at.1), at.2), omega (arith, r.2, l))
        | inr l ↦ inr (y, first, omega (arith, r.2, l))
      ]
    ]

most_of : (weighty : ℕ → Bool) (at : ℕ → View) (weight : ℕ → ℕ) (i : ℕ) → ((x : ℕ) → Contains (next_nodes weighty (at i)) x → IsWeight weighty at x (weight x)) →
    (rest : List ℕ) → IsPath weighty at i rest → marks_on at i rest ≤ weight_from weighty weight (at i)
most_of weighty at weight i h [] path = omega arith
most_of weighty at weight i h (x ∷ rest) path =
    omega (arith, (h x path.0).most rest path.1, at_most weight (next_nodes weighty (at i)) x path.0)

pub weighs : (weighty : ℕ → Bool) (at : ℕ → View) (weight : ℕ → ℕ) (i : ℕ) → ((x : ℕ) → Contains (next_nodes weighty (at i)) x → IsWeight weighty at x (weight x)) →
    IsWeight weighty at i (weight_from weighty weight (at i))
weighs weighty at weight i h =
    elim (picked weight (next_nodes weighty (at i))) [
      | inl e ↦
          let none : greatest_weight weight (next_nodes weighty (at i)) ≡ 0 = ap (greatest_weight weight) e in
          record { most = most_of weighty at weight i h; some = []; path = tt; is = omega (arith, none) }
      | inr r ↦
          let next = h r.0 r.1 in
          record { most = most_of weighty at weight i h; some = r.0 ∷ next.some; path = (r.1, next.path); is = omega (arith, next.is, r.2) }
    ]

pub one_of : (weighty : ℕ → Bool) (at : ℕ → View) (place one other : ℕ) → IsWeight weighty at place one → IsWeight weighty at place other → one ≡ other
one_of weighty at place one other a b = omega (arith, a.most b.some b.path, b.most a.some a.path, a.is, b.is)

-- the nodes from this place on have their weights
pub record Weighed (weighty : ℕ → Bool) (nodes : List Node) (from : ℕ) (weights : List ℕ) : Type 0 where
  pub few : length weights ≡ length nodes
  pub each : (place : ℕ) → from ≤ place → place < length nodes → IsWeight weighty (views_of nodes) place (get_or weights place 0)
  pub small : (place : ℕ) → from ≤ place → place < length nodes → get_or weights place 0 + place ≤ length nodes

pub weighed_none : (weighty : ℕ → Bool) (nodes : List Node) (weights : List ℕ) → length weights ≡ length nodes → Weighed weighty nodes (length nodes) weights
weighed_none weighty nodes weights e = record {
  few = e;
  each = λ place l m. absurd (omega arith);
  small = λ place l m. absurd (omega arith);
}

small_greatest : (weight : ℕ → ℕ) (places : List ℕ) (i n : ℕ) → i < n → ((x : ℕ) → Contains places x → weight x + i < n) → greatest_weight weight places + i < n
small_greatest weight [] i n l h = omega arith
small_greatest weight (y ∷ ys) i n l h =
    let r = small_greatest weight ys i n l (λ x c. h x (suc c.0, omega (arith, c.1), c.2)) in
    let s = h y (0, omega arith, refl) in
    omega (arith, r, s)

-- the nodes after this one have small weights together with their places
pub ahead_small : (weighty : ℕ → Bool) (nodes : List Node) (i : ℕ) (weights : List ℕ) → IsForward weighty nodes → Weighed weighty nodes (i + 1) weights → i < length nodes →
    greatest_weight (λ x. get_or weights x 0) (next_nodes weighty (views_of nodes i)) + i < length nodes
ahead_small weighty nodes i weights forward w l =
    small_greatest (λ x. get_or weights x 0) (next_nodes weighty (views_of nodes i)) i (length nodes) l
    (λ x c.
    let after = forward.later i x c in
    let s = w.small x (omega arith) (forward.within i x c) in
    omega (arith, after, s))

pub one_mark : (v : View) → mark_count v ≤ 1
one_mark (Marks site next) = omega arith
one_mark (Row op next) = omega arith
one_mark (Halts op) = omega arith
one_mark (Forks when_true when_false) = omega arith
one_mark (Turns next) = omega arith
one_mark (Calls function next) = omega arith
one_mark Gives = omega arith
one_mark Quits = omega arith
one_mark (Skips by next) = omega arith
one_mark (Tests site next) = omega arith
one_mark (Picks weight fast slow) = omega arith
one_mark (Imports next) = omega arith
one_mark (Exports next) = omega arith
one_mark Nowhere = omega arith

-- one node more, from the last one down
pub weighed_more : (weighty : ℕ → Bool) (nodes : List Node) (i : ℕ) (weights : List ℕ) → IsForward weighty nodes → Weighed weighty nodes (i + 1) weights → i < length nodes →
    Weighed weighty nodes i (set weights i (weight_from weighty (λ x. get_or weights x 0) (views_of nodes i)))
weighed_more weighty nodes i weights forward w l =
    let weight : ℕ → ℕ = λ x. get_or weights x 0 in
    let new : ℕ = weight_from weighty weight (views_of nodes i) in
    let inside : i < length weights = omega (arith, w.few) in
    let here : (place : ℕ) → place ≡ i → get_or (set weights i new) place 0 ≡ new = λ place e. get_or-set_at weights i place new 0 e inside in
    let there : (place : ℕ) → (place ≡ i → ⊥) → get_or (set weights i new) place 0 ≡ get_or weights place 0 = λ place ne. get_or-set_other weights i place new 0 ne in
    let is_new : IsWeight weighty (views_of nodes) i new =
    weighs weighty (views_of nodes) weight i (λ x c. let after = forward.later i x c in w.each x (omega arith) (forward.within i x c)) in
    let small : new + i ≤ length nodes = omega (arith, ahead_small weighty nodes i weights forward w l, one_mark (views_of nodes i)) in
    record {
      few = length-set weights i new ∙ w.few;
      each = λ place from within. elim (cases_eq place i) [
        | inl e ↦ subst (λ (v : ℕ). IsWeight weighty (views_of nodes) place v) (sym (here place e)) (subst (λ (k : ℕ). IsWeight weighty (views_of nodes) k new) (sym e) is_new)
        | inr ne ↦ subst (λ (v : ℕ). IsWeight weighty (views_of nodes) place v) (sym (there place ne)) (w.each place (omega arith) within)
      ];
      small = λ place from within. elim (cases_eq place i) [
        | inl e ↦ omega (arith, here place e, small)
        | inr ne ↦ let s = w.small place (omega arith) within in omega (arith, there place ne, s)
      ];
    }

pub weighed_all : (weighty : ℕ → Bool) (nodes : List Node) (weights : List ℕ) → Weighed weighty nodes 0 weights → AreWeights weighty nodes weights
weighed_all weighty nodes weights w = record {
  few = w.few;
  each = λ place l. w.each place (omega arith) l;
  small = λ place l. w.small place (omega arith) l;
}
