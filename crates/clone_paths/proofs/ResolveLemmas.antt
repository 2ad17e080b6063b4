-- Visits within blocks get the places of the nodes after them, from the last one down; and each label is that of a node.
use Rattle.std.proofs.Common.{◌≡◌, inl, inr, ℕ, zero, suc, ◌+◌, ◌<◌, ◌≤◌, Bool, true, false, not, if◌then◌else◌, List, [], ◌++◌, length, set, get_or, Some, None, slice_get, refl, sym, ap, ◌∙◌, subst, arith, length-set, get_or-set_other}
use Rattle.std.specs.List.{Contains}
use Rattle.std.proofs.lemmas.Bool.{cases_eq}
use Rattle.std.proofs.lemmas.Grind.{get_or-set_at}
use Rattle.clone_paths.proofs.DebtLemmas.{by_start}
use Rattle.flow.specs.declared.node.Node.{Node}
use Rattle.flow.specs.declared.node.View.{View}
use Rattle.flow.specs.declared.node.View.TheVariants.{Calls, Marks}
use Rattle.flow.specs.Words.{node_limit, led_to}
use Rattle.regions.specs.Blocks.{NodeLeadsTo}
use Rattle.regions.specs.Flags.{is_in}
use Rattle.regions.specs.Weighty.{views_of}
use Rattle.copied_nodes.specs.declared.label.CopyLabel.{CopyLabel}
use Rattle.copied_nodes.specs.declared.label.CopyLabel.TheVariants.{Gate, Back, In, Out}
use Rattle.copied_nodes.specs.declared.label.Side.{Side}
use Rattle.copied_nodes.specs.declared.label.Side.TheVariants.{Fast, Slow}
use Rattle.clone_paths.specs.declared.parts.Outlet.{Outlet}
use Rattle.clone_paths.specs.declared.parts.Outlet.TheVariants as outlet
use Rattle.clone_paths.specs.declared.parts.Part.{Part}
use Rattle.clone_paths.specs.Layout.{copy_labels, fast_labels, gate_labels, out_labels}
use Rattle.clone_paths.specs.Made.{IsLabelOfNode, Resolved, next_visited}
use Rattle.clone_paths.specs.Parts.{HasOrder, is_inside}
use Rattle.clone_paths.proofs.SheetLemmas.{in_joined, labels_at, owner}

visited_cases : (starts : ℕ → Bool) (v : View) (x : ℕ) → next_visited starts v ≡ Some x → (site : ℕ) × (v ≡ Marks site x) × (starts x ≡ false)
visited_cases starts (Marks site next) x e =
    let r = by_start (starts next) next x e in
    (site, ap (λ (n : ℕ). Marks site n) r.1, ap starts (sym r.1) ∙ r.0)
visited_cases starts v x e = cc

-- the nodes from this place on have their places
pub record ResolvedFrom (starts : List Bool) (nodes : List Node) (old new : List ℕ) (from : ℕ) : Type 0 where
  pub few : length new ≡ length nodes
  pub before : (place : ℕ) → place < from → get_or new place 0 ≡ get_or old place 0
  pub other : (place : ℕ) → is_inside (is_in starts) (views_of nodes place) ≡ false → get_or new place 0 ≡ get_or old place 0
  pub inside : (place site next : ℕ) → from ≤ place → place < length nodes → views_of nodes place ≡ Marks site next → is_in starts next ≡ false → get_or new place 0 ≡ get_or new next 0

pub resolved_none : (starts : List Bool) (nodes : List Node) (old : List ℕ) → length old ≡ length nodes → ResolvedFrom starts nodes old old (length nodes)
resolved_none starts nodes old e = record {
  few = e;
  before = λ place l. refl;
  other = λ place o. refl;
  inside = λ place site next f l v o. absurd (omega arith);
}

pub resolved_same : (starts : List Bool) (nodes : List Node) (old new : List ℕ) (i : ℕ) → ResolvedFrom starts nodes old new (i + 1) →
    next_visited (is_in starts) (views_of nodes i) ≡ None → ResolvedFrom starts nodes old new i
resolved_same starts nodes old new i r e = record {
  few = r.few;
  before = λ place l. r.before place (omega arith);
  other = r.other;
  inside = λ place site next f l v o. elim (cases_eq place i) [
    | inl same ↦
        let at : views_of nodes i ≡ Marks site next = ap (λ (k : ℕ). views_of nodes k) (sym same) ∙ v in
        let some : next_visited (is_in starts) (views_of nodes i) ≡ Some next = ap (next_visited (is_in starts)) at ∙ ap (λ (b : Bool). if b then None else Some next) o in
        cc
    | inr ne ↦ r.inside place site next (omega arith) l v o
  ];
}

mark_leads : (nodes : List Node) (i site x : ℕ) → views_of nodes i ≡ Marks site x → NodeLeadsTo (views_of nodes) i x
mark_leads nodes i site x e = subst (λ (v : View). Contains (led_to v) x) (sym e) (0, omega arith, refl)

mark_later : (nodes : List Node) (i site x : ℕ) → HasOrder nodes → views_of nodes i ≡ Marks site x → i < x
mark_later nodes i site x order e = elim (order.later i x (mark_leads nodes i site x e)) [ inl l ↦ l | inr t ↦ (let clash = sym e ∙ t.1 in cc) ]

pub resolved_more : (starts : List Bool) (nodes : List Node) (old new : List ℕ) (i x : ℕ) → HasOrder nodes → ResolvedFrom starts nodes old new (i + 1) → i < length nodes →
    next_visited (is_in starts) (views_of nodes i) ≡ Some x → ResolvedFrom starts nodes old (set new i (get_or new x 0)) i
resolved_more starts nodes old new i x order r l e =
    let m = visited_cases (is_in starts) (views_of nodes i) x e in
    let after : i < x = mark_later nodes i m.0 x order m.1 in
    let value : ℕ = get_or new x 0 in
    let inside : i < length new = omega (arith, r.few) in
    let here : (y : ℕ) → y ≡ i → get_or (set new i value) y 0 ≡ value = λ y same. get_or-set_at new i y value 0 same inside in
    let there : (y : ℕ) → (y ≡ i → ⊥) → get_or (set new i value) y 0 ≡ get_or new y 0 = λ y ne. get_or-set_other new i y value 0 ne in
    record {
      few = length-set new i value ∙ r.few;
      before = λ place lt. there place (λ same. omega (arith, lt, same)) ∙ r.before place (omega arith);
      other = λ place o.
          there place (λ same.
          let at : views_of nodes place ≡ Marks m.0 x = ap (λ (k : ℕ). views_of nodes k) same ∙ m.1 in
          let is : is_inside (is_in starts) (views_of nodes place) ≡ true = ap (is_inside (is_in starts)) at ∙ ap not m.2 in
          cc) ∙ r.other place o;
      inside = λ place site next f lt v o. elim (cases_eq place i) [
        | inl same ↦
            let at : Marks site next ≡ Marks m.0 x = sym v ∙ ap (λ (k : ℕ). views_of nodes k) same ∙ m.1 in
            let only : next ≡ x = cc in
            here place same ∙ sym (ap (λ (k : ℕ). get_or (set new i value) k 0) only ∙ there x (λ eq. omega (arith, after, eq)))
        | inr ne ↦
            let far : place < next = mark_later nodes place site next order v in
            there place ne ∙ r.inside place site next (omega arith) lt v o ∙ sym (there next (λ eq. omega (arith, far, f, eq)))
      ];
    }

pub resolved_all : (starts : List Bool) (nodes : List Node) (old new : List ℕ) → length old ≡ length nodes → ResolvedFrom starts nodes old new 0 → Resolved starts nodes old new
resolved_all starts nodes old new e r = record {
  few = r.few ∙ sym e;
  other = r.other;
  inside = λ place site next l v o. r.inside place site next (omega arith) l v o;
}

-- each label is that of a node
out_of : (n : ℕ) (side : Side) (i : ℕ) (o : Outlet) (m : ℕ) (l : CopyLabel) → i < n → slice_get (out_labels side i o) m ≡ Some l → IsLabelOfNode n l
out_of n side i outlet.Leaves zero l lt e = let same : Out side i ≡ l = cc in subst (λ (y : CopyLabel). IsLabelOfNode n y) same lt
out_of n side i (outlet.Calls next) zero l lt e = let same : Out side i ≡ l = cc in subst (λ (y : CopyLabel). IsLabelOfNode n y) same lt
out_of n side i (outlet.Calls next) (suc zero) l lt e = let same : Back next ≡ l = cc in subst (λ (y : CopyLabel). IsLabelOfNode n y) same tt
out_of n side i outlet.None m l lt e = cc
out_of n side i outlet.Leaves (suc m) l lt e = cc
out_of n side i (outlet.Calls next) (suc (suc m)) l lt e = cc

copy_of : (n : ℕ) (side : Side) (i owed : ℕ) (p : Bool) (o : Outlet) (m : ℕ) (l : CopyLabel) → i < n → owed < node_limit → slice_get (copy_labels side i owed p o) m ≡ Some l → IsLabelOfNode n l
copy_of n side i owed true o zero l lt small e = let same : In side i owed ≡ l = cc in subst (λ (y : CopyLabel). IsLabelOfNode n y) same (lt, small)
copy_of n side i owed true o (suc zero) l lt small e = let same : In side i 0 ≡ l = cc in subst (λ (y : CopyLabel). IsLabelOfNode n y) same (lt, omega arith)
copy_of n side i owed true o (suc (suc m)) l lt small e = out_of n side i o m l lt e
copy_of n side i owed false o zero l lt small e = let same : In side i owed ≡ l = cc in subst (λ (y : CopyLabel). IsLabelOfNode n y) same (lt, small)
copy_of n side i owed false o (suc m) l lt small e = out_of n side i o m l lt e

gate_of : (n : ℕ) (b : Bool) (i m : ℕ) (l : CopyLabel) → slice_get (gate_labels b i) m ≡ Some l → IsLabelOfNode n l
gate_of n true i zero l e = let same : Gate i ≡ l = cc in subst (λ (y : CopyLabel). IsLabelOfNode n y) same tt
gate_of n true i (suc m) l e = cc
gate_of n false i m l e = cc

fast_of : (n i : ℕ) (inside : Bool) (owed : ℕ) (p : Bool) (o : Outlet) (m : ℕ) (l : CopyLabel) → i < n → owed < node_limit →
    slice_get (if inside then [] else copy_labels Fast i owed p o) m ≡ Some l → IsLabelOfNode n l
fast_of n i true owed p o m l lt small e = cc
fast_of n i false owed p o m l lt small e = copy_of n Fast i owed p o m l lt small e

pub each_of : (head : ℕ → Bool) (part : ℕ → Part) (n place : ℕ) (l : CopyLabel) → ((i : ℕ) → i < n → (part i).owed < node_limit) → slice_get (labels_at head part n) place ≡ Some l → IsLabelOfNode n l
each_of head part n place l small e =
    elim (owner head part n place l e) [
      | inl x ↦ subst (λ (y : CopyLabel). IsLabelOfNode n y) (sym x.1) tt
      | inr r ↦
          let i = r.0 in
          let gate = gate_labels (head i) i in
          let slow = copy_labels Slow i 0 false (part i).outlet in
          elim (in_joined (gate ++ slow) (fast_labels i (part i)) r.1 l r.4) [
            | inl f ↦ elim (in_joined gate slow r.1 l f) [
              | inl g ↦ gate_of n (head i) i r.1 l g
              | inr s ↦ copy_of n Slow i 0 false (part i).outlet s.0 l r.2 (omega arith) s.2
            ]
            | inr s ↦ fast_of n i (part i).inside (part i).owed (part i).pays (part i).outlet s.0 l r.2 (small i r.2) s.2
          ]
    ]
