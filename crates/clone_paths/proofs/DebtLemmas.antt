-- What is owed before each node of a fast copy, as it is found node after node.
use Rattle.std.proofs.Common.{◌≡◌, inl, inr, ℕ, ◌+◌, ◌<◌, ◌≤◌, Bool, true, false, if◌then◌else◌, List, [], ◌∷◌, length, set, replicate, get_or, Some, None, refl, sym, ap, ◌∙◌, subst, arith, length-set, get_or-set_other}
use Rattle.std.specs.List.{Contains}
use Rattle.std.proofs.lemmas.Bool.{cases_eq, cases_lt}
use Rattle.std.proofs.lemmas.Grind.{get_or-set_at, common_steps}
use Rattle.std.proofs.lemmas.List.{length-replicate}
use Rattle.base_lists.proofs.Every.{only_in}
use Rattle.flow.specs.declared.node.Node.{Node}
use Rattle.flow.specs.declared.node.View.{View}
use Rattle.flow.specs.Nodes.{led_to}
use Rattle.regions.specs.Blocks.{IsStart, After, Joins, NodeLeadsTo, ends_block}
use Rattle.regions.specs.Flags.{AreFlags, is_in}
use Rattle.regions.specs.Weighty.{views_of}
use Rattle.regions.proofs.BlockLemmas.{shape}
use Rattle.regions.proofs.Within.{leads_from}
use Rattle.weights.specs.Paths.{mark_count}
use Rattle.weights.proofs.WeightLemmas.{one_mark}
use Rattle.clone_paths.specs.Parts.{AreDebts, HasOrder, next_inside}

-- what is known once the first nodes were looked at, so many of them
pub record Owed (nodes : List Node) (starts : List Bool) (count : ℕ) (debts : List ℕ) : Type 0 where
  pub few : length debts ≡ length nodes
  pub none : (place : ℕ) → is_in starts place ≡ true → get_or debts place 0 ≡ 0
  pub more : (place next : ℕ) → place < count → NodeLeadsTo (views_of nodes) place next → is_in starts next ≡ false → get_or debts next 0 ≡ get_or debts place 0 + mark_count (views_of nodes place)
  pub small : (place : ℕ) → get_or debts place 0 ≤ place

zeros : (n place : ℕ) → ◌≡◌ {A = ℕ} (get_or {A = ℕ} (replicate {A = ℕ} n 0) place 0) 0
zeros n place = grind (arith, common_steps)

pub owed_none : (nodes : List Node) (starts : List Bool) → Owed nodes starts 0 (replicate (length nodes) 0)
owed_none nodes starts = record {
  few = length-replicate {A = ℕ} (length nodes) 0;
  none = λ place e. zeros (length nodes) place;
  more = λ place next l c e. absurd (omega arith);
  small = λ place. omega (arith, zeros (length nodes) place);
}

pub by_start : (b : Bool) (y x : ℕ) → (if b then None else Some y) ≡ Some x → (b ≡ false) × (y ≡ x)
by_start true y x e = cc
by_start false y x e = (refl, cc)

-- a step within a block goes to the one node after it
inside_cases : (starts : ℕ → Bool) (xs : List ℕ) (x : ℕ) → next_inside starts xs ≡ Some x → (xs ≡ x ∷ []) × (starts x ≡ false)
inside_cases starts [] x e = cc
inside_cases starts (y ∷ z ∷ rest) x e = cc
inside_cases starts (y ∷ []) x e =
    let r = by_start (starts y) y x e in
    (ap (λ (n : ℕ). n ∷ []) r.1, ap (λ (n : ℕ). starts n) (sym r.1) ∙ r.0)

true_false : true ≡ false → ⊥
true_false e = cc

none_start : (b : Bool) (a : ℕ) → (if b then None else Some a) ≡ None → b ≡ true
none_start true a e = refl
none_start false a e = cc

-- every other step goes to a node at which a block begins
outside : (at : ℕ → View) (starts : List Bool) (place next : ℕ) → ((x : ℕ) → IsStart at x → is_in starts x ≡ true) → NodeLeadsTo at place next →
    next_inside (is_in starts) (led_to (at place)) ≡ None → is_in starts next ≡ true
outside at starts place next known lead e =
    elim (shape (at place)) [
      | inl none ↦ let c = subst (λ (xs : List ℕ). Contains xs next) none lead in absurd (omega (arith, c.1))
      | inr (inl (a, one)) ↦
          let same = only_in a next (subst (λ (xs : List ℕ). Contains xs next) one lead) in
          let f : (if is_in starts a then None else Some a) ≡ None = ap (λ (xs : List ℕ). next_inside (is_in starts) xs) (sym one) ∙ e in
          ap (λ (x : ℕ). is_in starts x) same ∙ none_start (is_in starts a) a f
      | inr (inr (a, b, two, ends)) ↦ known next (After place ends lead)
    ]

pub owed_same : (nodes : List Node) (starts : List Bool) (i : ℕ) (debts : List ℕ) → AreFlags (length nodes) (IsStart (views_of nodes)) starts → Owed nodes starts i debts →
    next_inside (is_in starts) (led_to (views_of nodes i)) ≡ None → Owed nodes starts (i + 1) debts
owed_same nodes starts i debts are o e = record {
  few = o.few;
  none = o.none;
  more = λ place next l c f. elim (cases_lt place i) [
    | inl before ↦ o.more place next before c f
    | inr here ↦
        let same : place ≡ i = omega arith in
        let lead : NodeLeadsTo (views_of nodes) i next = subst (λ (k : ℕ). NodeLeadsTo (views_of nodes) k next) same c in
        let begins = outside (views_of nodes) starts i next (λ x s. (are.each x).1 s) lead e in
        cc
  ];
  small = o.small;
}

pub owed_more : (nodes : List Node) (starts : List Bool) (i x : ℕ) (debts : List ℕ) → HasOrder nodes → AreFlags (length nodes) (IsStart (views_of nodes)) starts → Owed nodes starts i debts →
    next_inside (is_in starts) (led_to (views_of nodes i)) ≡ Some x → Owed nodes starts (i + 1) (set debts x (get_or debts i 0 + mark_count (views_of nodes i)))
owed_more nodes starts i x debts order are o e =
    let new : ℕ = get_or debts i 0 + mark_count (views_of nodes i) in
    let r = inside_cases (is_in starts) (led_to (views_of nodes i)) x e in
    let lead : NodeLeadsTo (views_of nodes) i x = subst (λ (xs : List ℕ). Contains xs x) (sym r.0) (0, omega arith, refl) in
    let known : (y : ℕ) → IsStart (views_of nodes) y → is_in starts y ≡ true = λ y s. (are.each y).1 s in
    let apart : (y : ℕ) → is_in starts y ≡ true → y ≡ x → ⊥ = λ y s same. let t = ap (λ (k : ℕ). is_in starts k) same in let u = r.1 in true_false (sym s ∙ t ∙ u) in
    let after : i < x =
    elim (order.later i x lead) [
      | inl l ↦ l
      | inr (again, t) ↦ absurd (apart x (known x (After i (ap ends_block t) lead)) refl)
    ]
    in
    let inside : x < length debts = omega (arith, o.few, order.within i x lead) in
    let here : (y : ℕ) → y ≡ x → get_or (set debts x new) y 0 ≡ new = λ y same. get_or-set_at debts x y new 0 same inside in
    let there : (y : ℕ) → (y ≡ x → ⊥) → get_or (set debts x new) y 0 ≡ get_or debts y 0 = λ y ne. get_or-set_other debts x y new 0 ne in
    record {
      few = length-set debts x new ∙ o.few;
      none = λ y s. there y (apart y s) ∙ o.none y s;
      more = λ place next l c f. elim (cases_lt place i) [
        | inl before ↦
            let old : get_or (set debts x new) place 0 ≡ get_or debts place 0 = there place (λ same. omega (arith, before, after, same)) in
            elim (cases_eq next x) [
              | inl same ↦
                  let joined : NodeLeadsTo (views_of nodes) place x = subst (λ (k : ℕ). NodeLeadsTo (views_of nodes) place k) same c in
                  absurd (apart x (known x (Joins place i before joined lead)) refl)
              | inr ne ↦ there next ne ∙ o.more place next before c f ∙ ap (λ (k : ℕ). k + mark_count (views_of nodes place)) (sym old)
            ]
        | inr late ↦
            let same : place ≡ i = omega arith in
            let only : next ≡ x = only_in x next (subst (λ (xs : List ℕ). Contains xs next) r.0 (subst (λ (k : ℕ). NodeLeadsTo (views_of nodes) k next) same c)) in
            let old : get_or (set debts x new) i 0 ≡ get_or debts i 0 = there i (λ eq. omega (arith, after, eq)) in
            here next only ∙ sym (ap (λ (k : ℕ). get_or (set debts x new) k 0 + mark_count (views_of nodes k)) same ∙ ap (λ (k : ℕ). k + mark_count (views_of nodes i)) old)
      ];
      small = λ y. elim (cases_eq y x) [
        | inl same ↦ omega (arith, here y same, o.small i, after, same, one_mark (views_of nodes i))
        | inr ne ↦ omega (arith, there y ne, o.small y)
      ];
    }

pub owed_all : (nodes : List Node) (starts : List Bool) (debts : List ℕ) → Owed nodes starts (length nodes) debts → AreDebts nodes starts debts
owed_all nodes starts debts o = record {
  few = o.few;
  none = o.none;
  more = λ place next c f. o.more place next (leads_from nodes place next c) c f;
  small = o.small;
}

pub inside_within : (nodes : List Node) (starts : List Bool) (i x : ℕ) → HasOrder nodes → next_inside (is_in starts) (led_to (views_of nodes i)) ≡ Some x → x < length nodes
inside_within nodes starts i x order e =
    let r = inside_cases (is_in starts) (led_to (views_of nodes i)) x e in
    order.within i x (subst (λ (xs : List ℕ). Contains xs x) (sym r.0) (0, omega arith, refl))
