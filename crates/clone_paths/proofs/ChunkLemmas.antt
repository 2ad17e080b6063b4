-- The labels for one node, and that each of them is right.
use Rattle.std.proofs.Common.{◌≡◌, ◌⊎◌, inl, inr, ℕ, zero, suc, ◌+◌, ◌<◌, Bool, true, false, ◌&&◌, ◌||◌, if◌then◌else◌, nat_lt, List, [], ◌∷◌, ◌++◌, length, Option, Some, None, slice_get, slice_index, refl, sym, ap, ◌∙◌, subst, arith}
use Rattle.std.specs.List.{Contains}
use Rattle.std.proofs.lemmas.Bool.{or_right}
use Rattle.base_lists.proofs.Tests.{and_second}
use Rattle.base_lists.proofs.Lists.{get_left}
use Rattle.base_lists.proofs.Every.{only_in}
use Rattle.flow.specs.declared.node.View.{View}
use Rattle.flow.specs.declared.node.View.TheVariants.{Calls, Gives, Quits}
use Rattle.flow.specs.Nodes.{led_to}
use Rattle.regions.specs.Blocks.{After, NodeLeadsTo}
use Rattle.regions.specs.Headers.{begun_after}
use Rattle.regions.specs.Headers as region
use Rattle.regions.proofs.BlockLemmas.{shape}
use Rattle.weights.specs.Paths.{mark_count}
use Rattle.copied_nodes.specs.declared.label.CopyLabel.{CopyLabel}
use Rattle.copied_nodes.specs.declared.label.CopyLabel.TheVariants.{Gate, Back, In, Out}
use Rattle.copied_nodes.specs.declared.label.Side.{Side}
use Rattle.copied_nodes.specs.declared.label.Side.TheVariants.{Fast, Slow}
use Rattle.clone_paths.specs.declared.parts.Outlet.TheVariants as outlet
use Rattle.clone_paths.specs.declared.parts.Part.{Part}
use Rattle.clone_paths.specs.Form.{StandsForNode, Here, IsOutletInCopy, IsAsLabelled, MayOwe, is_last, is_outlet}
use Rattle.clone_paths.specs.Layout.{copy_labels, fast_labels, gate_labels, labels_for, out_labels, place_in_copy}
use Rattle.clone_paths.specs.Made.{Tables, made_node, made_out}
use Rattle.clone_paths.specs.Parts.{is_inside, outlet_of, part_of_node, is_debt_paid}
use Rattle.clone_paths.proofs.RightLemmas.{Agrees, Known, cloning, in_right, owed_by, pays_is, pays_zero}
use Rattle.clone_paths.proofs.SheetLemmas.{in_joined, in_second, labels_at, owner, placed, start_of}

-- the labels of an outlet
by_call : (b : Bool) (side : Side) (i next m : ℕ) (l : CopyLabel) → slice_get (out_labels side i (if b then outlet.Calls next else outlet.None)) m ≡ Some l →
    (b ≡ true) × (((m ≡ 0) × (l ≡ Out side i)) ⊎ ((m ≡ 1) × (l ≡ Back next)))
by_call true side i next zero l e = (refl, inl (refl, cc))
by_call true side i next (suc zero) l e = (refl, inr (refl, cc))
by_call true side i next (suc (suc m)) l e = cc
by_call false side i next m l e = cc

abbrev pub OutCases : (ℕ → Bool) → Side → ℕ → View → ℕ → CopyLabel → Type 0
OutCases w side i v m l =
    (is_outlet w v ≡ true) × (((m ≡ 0) × (l ≡ Out side i)) ⊎ ((function next : ℕ) × (v ≡ Calls function next) × (w function ≡ true) × (m ≡ 1) × (l ≡ Back next)))

one_label : (side : Side) (i m : ℕ) (l : CopyLabel) → slice_get (Out side i ∷ []) m ≡ Some l → (m ≡ 0) × (l ≡ Out side i)
one_label side i zero l e = (refl, cc)
one_label side i (suc m) l e = cc

pub out_cases : (w : ℕ → Bool) (side : Side) (i : ℕ) (v : View) (m : ℕ) (l : CopyLabel) → slice_get (out_labels side i (outlet_of w v)) m ≡ Some l → OutCases w side i v m l
out_cases w side i Gives m l e = (refl, inl (one_label side i m l e))
out_cases w side i Quits m l e = (refl, inl (one_label side i m l e))
out_cases w side i (Calls function next) m l e =
    let r = by_call (w function) side i next m l e in
    (r.0, elim r.1 [ inl x ↦ inl x | inr x ↦ inr (function, next, refl, r.0, x.0, x.1) ])
out_cases w side i v m l e = cc

pub out_first : (w : ℕ → Bool) (side : Side) (i : ℕ) (v : View) → is_outlet w v ≡ true → slice_get (out_labels side i (outlet_of w v)) 0 ≡ Some (Out side i)
out_first w side i Gives o = refl
out_first w side i Quits o = refl
out_first w side i (Calls function next) o = ap (λ (b : Bool). slice_get (out_labels side i (if b then outlet.Calls next else outlet.None)) 0) o
out_first w side i v o = cc

pub out_back : (w : ℕ → Bool) (side : Side) (i function next : ℕ) (v : View) → v ≡ Calls function next → w function ≡ true →
    slice_get (out_labels side i (outlet_of w v)) 1 ≡ Some (Back next)
out_back w side i function next v e o =
    ap (λ (x : View). slice_get (out_labels side i (outlet_of w x)) 1) e ∙ ap (λ (b : Bool). slice_get (out_labels side i (if b then outlet.Calls next else outlet.None)) 1) o

is_out : (t : Tables) (label : ℕ → Option CopyLabel) (place : ℕ) (v : View) → ((function next : ℕ) → v ≡ Calls function next → label (place + 1) ≡ Some (Back next)) →
    IsOutletInCopy (cloning t label) v (made_out place v)
is_out t label place (Calls function next) h = (place + 1, refl, h function next refl)
is_out t label place v h = refl

-- a list of labels stands from a place on
abbrev pub Stands : (ℕ → Option CopyLabel) → ℕ → List CopyLabel → Type 0
Stands label base xs = (k : ℕ) (l : CopyLabel) → slice_get xs k ≡ Some l → label (base + k) ≡ Some l

abbrev pub Right : Tables → (ℕ → Option CopyLabel) → ℕ → CopyLabel → Type 0
Right t label place l = IsAsLabelled (cloning t label) l (made_node t place l)

stands_rest : (label : ℕ → Option CopyLabel) (base : ℕ) (x : CopyLabel) (xs : List CopyLabel) → Stands label base (x ∷ xs) → Stands label (base + 1) xs
stands_rest label base x xs s = λ k l e. let n : base + 1 + k ≡ base + suc k = omega arith in ap label n ∙ s (suc k) l e

-- the return from a weighty call
back_right : (t : Tables) (n : ℕ) (debt : ℕ → ℕ) (head : ℕ → Bool) (label : ℕ → Option CopyLabel) → Known t n debt head label → (i function next place : ℕ) →
    t.at i ≡ Calls function next → t.weighty function ≡ true → Right t label place (Back next)
back_right t n debt head label k i function next place e o =
    let lead : NodeLeadsTo t.at i next = subst (λ (v : View). Contains (led_to v) next) (sym e) (0, omega arith, refl) in
    let begun : begun_after t.weighty (t.at i) ≡ Some next =
    ap (begun_after t.weighty) e ∙ ap (λ (b : Bool). if b then Some next else None) o
    in
    (slice_index t.sheet.gates next, refl, k.gate next (k.within i next lead) (k.heads next (region.After i begun)))

-- the labels of an outlet are right
outs_right : (t : Tables) (n : ℕ) (debt : ℕ → ℕ) (head : ℕ → Bool) (label : ℕ → Option CopyLabel) → Known t n debt head label → (side : Side) (i base : ℕ) →
    Stands label base (out_labels side i (outlet_of t.weighty (t.at i))) → (m : ℕ) (l : CopyLabel) → slice_get (out_labels side i (outlet_of t.weighty (t.at i))) m ≡ Some l →
    Right t label (base + m) l
outs_right t n debt head label k side i base s m l e =
    let r = out_cases t.weighty side i (t.at i) m l e in
    elim r.1 [
      | inl x ↦
          let at : base + m ≡ base = omega (arith, x.0) in
          let right : Right t label base (Out side i) = (
            r.0,
            is_out t label base (t.at i) (λ function next c.
                let o : t.weighty function ≡ true = sym (ap (is_outlet t.weighty) c) ∙ r.0 in
                s 1 (Back next) (out_back t.weighty side i function next (t.at i) c o)),
          )
          in
          subst (λ (y : CopyLabel). Right t label (base + m) y) (sym x.1) (subst (λ (p : ℕ). Right t label p (Out side i)) (sym at) right)
      | inr x ↦ subst (λ (y : CopyLabel). Right t label (base + m) y) (sym x.5) (back_right t n debt head label k i x.0 x.1 (base + m) x.2 x.3)
    ]

-- what is owed stays as it is up to the next node, or is paid
abbrev pub Flows : Tables → (ℕ → ℕ) → Side → ℕ → ℕ → Type 0
Flows t debt side i owed = (owed ≡ 0) ⊎ (is_last t.starts (led_to (t.at i)) ≡ false) → mark_count (t.at i) ≡ 0 → (y : ℕ) → NodeLeadsTo t.at i y → owed_by debt side y ≡ owed

pub may_owe_none : (side : Side) → MayOwe side 0
may_owe_none Fast = tt
may_owe_none Slow = refl

copy_right : (t : Tables) (n : ℕ) (debt : ℕ → ℕ) (head : ℕ → Bool) (label : ℕ → Option CopyLabel) → Known t n debt head label → (side : Side) (i owed base : ℕ) (p : Bool) → i < n →
    MayOwe side owed → is_debt_paid t.starts owed (t.at i) ≡ p → (side ≡ Fast → is_inside t.starts (t.at i) ≡ false) → Flows t debt side i owed → (p ≡ true → Flows t debt side i 0) →
    Stands label base (copy_labels side i owed p (outlet_of t.weighty (t.at i))) → (m : ℕ) (l : CopyLabel) →
    slice_get (copy_labels side i owed p (outlet_of t.weighty (t.at i))) m ≡ Some l → Right t label (base + m) l
copy_right t n debt head label k side i owed base false lt may paid last flow flow' s zero l e =
    let at : base + 0 ≡ base = omega arith in
    let agrees : Agrees t debt label side i owed base = record {
      flow = flow;
      pay = λ h. cc;
      out = λ z o. s 1 (Out side i) (out_first t.weighty side i (t.at i) o);
      last = last;
    }
    in
    let right : Right t label base (In side i owed) = (may, in_right t n debt head label k side i owed base (t.at i) refl lt agrees) in
    let same : l ≡ In side i owed = cc in
    subst (λ (y : CopyLabel). Right t label (base + 0) y) (sym same) (subst (λ (q : ℕ). Right t label q (In side i owed)) (sym at) right)
copy_right t n debt head label k side i owed base false lt may paid last flow flow' s (suc m) l e =
    let at : base + suc m ≡ base + 1 + m = omega arith in
    let outs = out_labels side i (outlet_of t.weighty (t.at i)) in
    subst (λ (q : ℕ). Right t label q l) (sym at) (outs_right t n debt head label k side i (base + 1) (stands_rest label base (In side i owed) outs s) m l e)
copy_right t n debt head label k side i owed base true lt may paid last flow flow' s zero l e =
    let at : base + 0 ≡ base = omega arith in
    let agrees : Agrees t debt label side i owed base = record {
      flow = flow;
      pay = λ h. s 1 (In side i 0) refl;
      out = λ z o. let none : is_debt_paid t.starts owed (t.at i) ≡ false = ap (λ (d : ℕ). is_debt_paid t.starts d (t.at i)) z ∙ pays_zero t.starts (t.at i) in cc;
      last = last;
    }
    in
    let right : Right t label base (In side i owed) = (may, in_right t n debt head label k side i owed base (t.at i) refl lt agrees) in
    let same : l ≡ In side i owed = cc in
    subst (λ (y : CopyLabel). Right t label (base + 0) y) (sym same) (subst (λ (q : ℕ). Right t label q (In side i owed)) (sym at) right)
copy_right t n debt head label k side i owed base true lt may paid last flow flow' s (suc zero) l e =
    let two : base + 2 ≡ base + 1 + 1 = omega arith in
    let agrees : Agrees t debt label side i 0 (base + 1) = record {
      flow = flow' refl;
      pay = λ h. let none = pays_zero t.starts (t.at i) in cc;
      out = λ z o. ap label (sym two) ∙ s 2 (Out side i) (out_first t.weighty side i (t.at i) o);
      last = last;
    }
    in
    let right : Right t label (base + 1) (In side i 0) = (may_owe_none side, in_right t n debt head label k side i 0 (base + 1) (t.at i) refl lt agrees) in
    let same : l ≡ In side i 0 = cc in
    subst (λ (y : CopyLabel). Right t label (base + 1) y) (sym same) right
copy_right t n debt head label k side i owed base true lt may paid last flow flow' s (suc (suc m)) l e =
    let at : base + suc (suc m) ≡ base + 1 + 1 + m = omega arith in
    let outs = out_labels side i (outlet_of t.weighty (t.at i)) in
    let rest = stands_rest label (base + 1) (In side i 0) outs (stands_rest label base (In side i owed) (In side i 0 ∷ outs) s) in
    subst (λ (q : ℕ). Right t label q l) (sym at) (outs_right t n debt head label k side i (base + 1 + 1) rest m l e)

start_is_last : (starts : ℕ → Bool) (xs : List ℕ) (y : ℕ) → Contains xs y → starts y ≡ true → is_last starts xs ≡ true
start_is_last starts [] y c s = refl
start_is_last starts (a ∷ []) y c s = ap starts (sym (only_in a y c)) ∙ s
start_is_last starts (a ∷ b ∷ rest) y (zero, l, e) s = let f : starts a ≡ true = ap starts e ∙ s in ap (λ (x : Bool). x || is_last starts (b ∷ rest)) f
start_is_last starts (a ∷ b ∷ rest) y (suc m, l, e) s =
    let r = start_is_last starts (b ∷ rest) y (m, omega arith, e) s in or_right (starts a) (is_last starts (b ∷ rest)) r

last_starts : (t : Tables) (n : ℕ) (debt : ℕ → ℕ) (head : ℕ → Bool) (label : ℕ → Option CopyLabel) → Known t n debt head label → (i y : ℕ) → NodeLeadsTo t.at i y →
    is_last t.starts (led_to (t.at i)) ≡ true → t.starts y ≡ true
last_starts t n debt head label k i y lead last =
    elim (shape (t.at i)) [
      | inl e ↦ let c = subst (λ (xs : List ℕ). Contains xs y) e lead in absurd (omega (arith, c.1))
      | inr (inl (a, e)) ↦
          let same = only_in a y (subst (λ (xs : List ℕ). Contains xs y) e lead) in
          ap t.starts same ∙ sym (ap (λ (xs : List ℕ). is_last t.starts xs) e) ∙ last
      | inr (inr (a, b, e, ends)) ↦ k.begins y (After i ends lead)
    ]

fast_by : (t : Tables) (n : ℕ) (debt : ℕ → ℕ) (head : ℕ → Bool) (label : ℕ → Option CopyLabel) → Known t n debt head label → (i y : ℕ) (b : Bool) → t.starts y ≡ b →
    (debt i ≡ 0) ⊎ (is_last t.starts (led_to (t.at i)) ≡ false) → mark_count (t.at i) ≡ 0 → NodeLeadsTo t.at i y → debt y ≡ debt i
fast_by t n debt head label k i y true s (inl z) m lead = k.none y s ∙ sym z
fast_by t n debt head label k i y true s (inr z) m lead = let last = start_is_last t.starts (led_to (t.at i)) y lead s in cc
fast_by t n debt head label k i y false s cause m lead = let r = k.more i y lead s in omega (arith, r, m)

fast_flows : (t : Tables) (n : ℕ) (debt : ℕ → ℕ) (head : ℕ → Bool) (label : ℕ → Option CopyLabel) → Known t n debt head label → (i : ℕ) → Flows t debt Fast i (debt i)
fast_flows t n debt head label k i = λ cause m y lead. fast_by t n debt head label k i y (t.starts y) refl cause m lead

slow_flows : (t : Tables) (debt : ℕ → ℕ) (i : ℕ) → Flows t debt Slow i 0
slow_flows t debt i = λ cause m y lead. refl

-- a copy that was paid for owes nothing from there on
paid_flows : (t : Tables) (n : ℕ) (debt : ℕ → ℕ) (head : ℕ → Bool) (label : ℕ → Option CopyLabel) → Known t n debt head label → (i owed : ℕ) →
    is_debt_paid t.starts owed (t.at i) ≡ true → Flows t debt Fast i 0
paid_flows t n debt head label k i owed p = λ cause m y lead.
    let is : (nat_lt 0 owed && is_last t.starts (led_to (t.at i))) ≡ true = sym (pays_is t.starts owed (t.at i) m) ∙ p in
    k.none y (last_starts t n debt head label k i y lead (and_second (nat_lt 0 owed) (is_last t.starts (led_to (t.at i))) is))

abbrev pub part_for : Tables → (ℕ → ℕ) → ℕ → Part
part_for t debt i = part_of_node t.weighty t.starts (debt i) (t.at i)

pub gate_cases : (b : Bool) (i m : ℕ) (l : CopyLabel) → slice_get (gate_labels b i) m ≡ Some l → (b ≡ true) × (l ≡ Gate i)
gate_cases true i zero l e = (refl, cc)
gate_cases true i (suc m) l e = cc
gate_cases false i m l e = cc

stands_first : (label : ℕ → Option CopyLabel) (base : ℕ) (xs ys : List CopyLabel) → Stands label base (xs ++ ys) → Stands label base xs
stands_first label base xs ys s = λ k l e. s k l (get_left xs ys k l e)

stands_second : (label : ℕ → Option CopyLabel) (base : ℕ) (xs ys : List CopyLabel) → Stands label base (xs ++ ys) → Stands label (base + length xs) ys
stands_second label base xs ys s = λ k l e. let n : base + length xs + k ≡ base + (length xs + k) = omega arith in ap label n ∙ s (length xs + k) l (in_second xs ys k l e)

gate_right : (t : Tables) (n : ℕ) (debt : ℕ → ℕ) (head : ℕ → Bool) (label : ℕ → Option CopyLabel) → Known t n debt head label → (i place : ℕ) → i < n → head i ≡ true →
    Right t label place (Gate i)
gate_right t n debt head label k i place l h = (
  t.weight i,
  place_in_copy t.sheet Fast i,
  place_in_copy t.sheet Slow i,
  refl,
  k.weights i l,
  subst (λ (d : ℕ). StandsForNode (cloning t label) Fast (place_in_copy t.sheet Fast i) i d) (k.none i (k.head_starts i h)) (k.fast i l),
  Here (k.slow i l),
)

fast_right : (t : Tables) (n : ℕ) (debt : ℕ → ℕ) (head : ℕ → Bool) (label : ℕ → Option CopyLabel) → Known t n debt head label → (i base : ℕ) (inside : Bool) → i < n →
    is_inside t.starts (t.at i) ≡ inside →
    Stands label base (if inside then [] else copy_labels Fast i (debt i) (is_debt_paid t.starts (debt i) (t.at i)) (outlet_of t.weighty (t.at i))) → (m : ℕ) (l : CopyLabel) →
    slice_get (if inside then [] else copy_labels Fast i (debt i) (is_debt_paid t.starts (debt i) (t.at i)) (outlet_of t.weighty (t.at i))) m ≡ Some l → Right t label (base + m) l
fast_right t n debt head label k i base true lt o s m l e = cc
fast_right t n debt head label k i base false lt o s m l e =
    copy_right t n debt head label k Fast i (debt i) base (is_debt_paid t.starts (debt i) (t.at i)) lt tt refl (λ f. o) (fast_flows t n debt head label k i)
    (λ p. paid_flows t n debt head label k i (debt i) p) s m l e

-- all labels for a node are right
chunk_right : (t : Tables) (n : ℕ) (debt : ℕ → ℕ) (head : ℕ → Bool) (label : ℕ → Option CopyLabel) → Known t n debt head label → (i base : ℕ) → i < n →
    Stands label base (labels_for (head i) i (part_for t debt i)) → (m : ℕ) (l : CopyLabel) → slice_get (labels_for (head i) i (part_for t debt i)) m ≡ Some l → Right t label (base + m) l
chunk_right t n debt head label k i base lt s m l e =
    let gate = gate_labels (head i) i in
    let slow = copy_labels Slow i 0 false (outlet_of t.weighty (t.at i)) in
    let fast = fast_labels i (part_for t debt i) in
    elim (in_joined (gate ++ slow) fast m l e) [
      | inl f ↦ elim (in_joined gate slow m l f) [
        | inl g ↦
            let r = gate_cases (head i) i m l g in
            subst (λ (y : CopyLabel). Right t label (base + m) y) (sym r.1) (gate_right t n debt head label k i (base + m) lt r.0)
        | inr r ↦
            let at : base + m ≡ base + length gate + r.0 = omega (arith, r.1) in
            let stands = stands_second label base gate slow (stands_first label base (gate ++ slow) fast s) in
            subst (λ (q : ℕ). Right t label q l) (sym at)
            (copy_right t n debt head label k Slow i 0 (base + length gate) false lt refl (pays_zero t.starts (t.at i)) (λ f. cc) (slow_flows t debt i) (λ p. cc) stands r.0 l r.2)
      ]
      | inr r ↦
          let at : base + m ≡ base + length (gate ++ slow) + r.0 = omega (arith, r.1) in
          let stands = stands_second label base (gate ++ slow) fast s in
          subst (λ (q : ℕ). Right t label q l) (sym at)
          (fast_right t n debt head label k i (base + length (gate ++ slow)) (is_inside t.starts (t.at i)) lt refl stands r.0 l r.2)
    ]

-- every node is what its label says
pub each_right : (t : Tables) (n : ℕ) (debt : ℕ → ℕ) (head : ℕ → Bool) → Known t n debt head (slice_get (labels_at head (part_for t debt) n)) → (place : ℕ) (l : CopyLabel) →
    slice_get (labels_at head (part_for t debt) n) place ≡ Some l → Right t (slice_get (labels_at head (part_for t debt) n)) place l
each_right t n debt head k place l e =
    let label = slice_get (labels_at head (part_for t debt) n) in
    elim (owner head (part_for t debt) n place l e) [
      | inl x ↦ subst (λ (y : CopyLabel). Right t label place y) (sym x.1) (slice_index t.sheet.gates 0, refl, k.gate 0 k.entry (k.heads 0 region.Entry))
      | inr r ↦
          subst (λ (q : ℕ). Right t label q l) (sym r.3)
          (chunk_right t n debt head label k r.0 (start_of head (part_for t debt) r.0) r.2 (λ m y f. placed head (part_for t debt) n r.0 m y r.2 f) r.1 l r.4)
    ]
