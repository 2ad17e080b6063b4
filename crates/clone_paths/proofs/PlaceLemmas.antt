-- Where the labels of each node stand among all, and that a sampled function's nodes fit.
use Rattle.std.proofs.Common.{◌≡◌, ◌⊎◌, inl, inr, ℕ, zero, suc, ◌+◌, ◌-◌, ◌<◌, ◌≤◌, Bool, true, false, ◌&&◌, if◌then◌else◌, List, [], ◌∷◌, ◌++◌, length, get_or, Option, Some, None, IsTrue, slice_get, slice_index, unwrap_or, refl, sym, ap, ◌∙◌, subst, arith, length-append}
use Rattle.std.specs.List.{Contains}
use Rattle.std.proofs.lemmas.Bool.{cases_lt, and_from}
use Rattle.std.proofs.lemmas.Option.{slice_get-get_or, slice_get_past, slice_get_within, unwrap_or-slice_get}
use Rattle.base_lists.proofs.Tests.{and_first}
use Rattle.base_lists.proofs.Every.{only_in, two_in}
use Rattle.flow.specs.declared.node.Node.{Node}
use Rattle.flow.specs.declared.node.View.{View}
use Rattle.flow.specs.declared.node.View.TheVariants.{Imports}
use Rattle.flow.specs.declared.scope.Bounds.{Bounds}
use Rattle.flow.specs.declared.scope.Names.{Names}
use Rattle.flow.specs.Words.{view_at, node_limit, NodesFit, is_again, led_to, leads_rightly, names_fit, node_fits, view, IsPlain}
use Rattle.regions.specs.Blocks.{NodeLeadsTo}
use Rattle.regions.specs.Flags.{is_in}
use Rattle.regions.specs.Rows.{EachFits}
use Rattle.regions.specs.Weighty.{views_of}
use Rattle.copied_nodes.specs.declared.label.CopyLabel.{CopyLabel}
use Rattle.copied_nodes.specs.declared.label.CopyLabel.TheVariants.{Enter, Back, In, Out}
use Rattle.copied_nodes.specs.declared.label.Side.{Side}
use Rattle.copied_nodes.specs.declared.label.Side.TheVariants.{Fast, Slow}
use Rattle.clone_paths.specs.declared.parts.Outlet.{Outlet}
use Rattle.clone_paths.specs.declared.parts.Part.{Part}
use Rattle.clone_paths.specs.Cloned.{FitsLike, cloned_limit}
use Rattle.clone_paths.specs.Layout.{copy_labels, fast_labels, gate_labels, out_labels, place_in_copy}
use Rattle.clone_paths.specs.Made.{IsMade, IsLabelOfNode, Tables, made_node, made_in, parts_from}
use Rattle.clone_paths.specs.Parts.{HasOrder, is_inside, outlet_of, is_debt_paid}
use Rattle.clone_paths.proofs.ChunkLemmas.{gate_cases, out_back, out_cases, out_first}
use Rattle.clone_paths.proofs.FitLemmas.{Goes, Onward, Stands, goes_rightly, in_on, made_names, names_bounds, names_view, out_on, view_names}
use Rattle.clone_paths.proofs.KnownLemmas.{Laid, all_labels, inside_cases, plain_at, tables_with}
use Rattle.clone_paths.proofs.ResolveLemmas.{each_of}
use Rattle.clone_paths.proofs.RightLemmas.{pays_zero}
use Rattle.clone_paths.proofs.SheetLemmas.{chunk, chunk_length, fast_are, fast_at, gates_are, in_joined, kept, labels_at, owner, slow_are, slow_at, start_of}

-- where what stands for a node may lie
pub record Places (t : Tables) (n total : ℕ) (start : ℕ → ℕ) : Type 0 where
  pub mono : (i j : ℕ) → i ≤ j → start i ≤ start j
  pub from : (y x : ℕ) → y < n → Stands t y x → (start y ≤ x) × (x < total)
  pub whole : start n ≡ total

goes_onward : (t : Tables) (nodes : List Node) (n total : ℕ) (start : ℕ → ℕ) → Places t n total start → n ≡ length nodes → HasOrder nodes → (i place : ℕ) (v q : View) (x : ℕ) →
    views_of nodes i ≡ v → place < start (suc i) → Onward t v q x → (x < total) × ((is_again q ≡ true) ⊎ (place < x))
goes_onward t nodes n total start ps e order i place v q x is l o =
    let lead : NodeLeadsTo (views_of nodes) i o.to = subst (λ (w : View). Contains (led_to w) o.to) (sym is) o.leads in
    let near : o.to < n = omega (arith, order.within i o.to lead, e) in
    let r = ps.from o.to x near o.stands in (
      r.1,
      elim (order.later i o.to lead) [
        | inl after ↦ inr (omega (arith, ps.mono (suc i) o.to (omega arith), r.0, l))
        | inr turn ↦ inl (o.again turn.0 (sym is ∙ turn.1))
      ],
    )

-- the labels of an outlet
outs_go : (t : Tables) (nodes : List Node) (n total : ℕ) (start : ℕ → ℕ) → Places t n total start → n ≡ length nodes → HasOrder nodes → (side : Side) (i base : ℕ) → i < n →
    t.at i ≡ views_of nodes i → base + length (out_labels side i (outlet_of t.weighty (t.at i))) ≤ start (suc i) → (m : ℕ) (l : CopyLabel) →
    slice_get (out_labels side i (outlet_of t.weighty (t.at i))) m ≡ Some l → Goes (base + m) total (made_node t (base + m) l)
outs_go t nodes n total start ps e order side i base lt at end m l f =
    let r = out_cases t.weighty side i (t.at i) m l f in
    let inside = slice_get_within (out_labels side i (outlet_of t.weighty (t.at i))) m l f in
    let last = ps.mono (suc i) n (omega arith) in
    elim r.1 [
      | inl z ↦ subst (λ (y : CopyLabel). Goes (base + m) total (made_node t (base + m) y)) (sym z.1) (λ x c.
          let o = out_on t.weighty (base + m) (t.at i) x r.0 c in
          let two = slice_get_within (out_labels side i (outlet_of t.weighty (t.at i))) 1 (Back (o.1).1) (out_back t.weighty side i (o.1).0 (o.1).1 (t.at i) (o.1).2 (o.1).3) in
          (omega (arith, o.0, z.0, two, end, last, ps.whole), inr (omega (arith, o.0))))
      | inr z ↦ subst (λ (y : CopyLabel). Goes (base + m) total (made_node t (base + m) y)) (sym z.5) (λ x c.
          let lead : Contains (led_to (t.at i)) z.1 = subst (λ (w : View). Contains (led_to w) z.1) (sym z.2) (0, omega arith, refl) in
          let only : x ≡ slice_index t.sheet.gates z.1 = only_in (slice_index t.sheet.gates z.1) x c in
          let o : Onward t (t.at i) (Imports (slice_index t.sheet.gates z.1)) x =
          record { to = z.1; leads = lead; stands = inr (inr only); again = λ k turn. (let clash = sym z.2 ∙ turn in cc) }
          in
          goes_onward t nodes n total start ps e order i (base + m) (t.at i) (Imports (slice_index t.sheet.gates z.1)) x (sym at) (omega (arith, inside, end)) o)
    ]

-- the labels of a copy
copy_go : (t : Tables) (nodes : List Node) (n total : ℕ) (start : ℕ → ℕ) → Places t n total start → n ≡ length nodes → HasOrder nodes → (side : Side) (i owed base : ℕ) (p : Bool) → i < n →
    t.at i ≡ views_of nodes i → IsPlain (t.at i) → is_debt_paid t.starts owed (t.at i) ≡ p → base + length (copy_labels side i owed p (outlet_of t.weighty (t.at i))) ≤ start (suc i) →
    (m : ℕ) (l : CopyLabel) → slice_get (copy_labels side i owed p (outlet_of t.weighty (t.at i))) m ≡ Some l → Goes (base + m) total (made_node t (base + m) l)
copy_go t nodes n total start ps e order side i owed base false lt at plain paid end zero l f =
    let outs = out_labels side i (outlet_of t.weighty (t.at i)) in
    let size : length (In side i owed ∷ outs) ≡ suc (length outs) = refl in
    let last = ps.mono (suc i) n (omega arith) in
    let same : In side i owed ≡ l = cc in
    subst (λ (y : CopyLabel). Goes (base + 0) total (made_node t (base + 0) y)) same (λ x c.
    elim (in_on t side owed (base + 0) (t.at i) x plain c) [
      | inl (next, inl pay) ↦ cc
      | inl (next, inr (none, o)) ↦
          let one = slice_get_within outs 0 (Out side i) (out_first t.weighty side i (t.at i) o) in
          (omega (arith, next, one, size, end, last, ps.whole), inr (omega (arith, next)))
      | inr o ↦ goes_onward t nodes n total start ps e order i (base + 0) (t.at i) (made_in t side owed (base + 0) (t.at i)) x (sym at) (omega (arith, size, end)) o
    ])
copy_go t nodes n total start ps e order side i owed base false lt at plain paid end (suc m) l f =
    let outs = out_labels side i (outlet_of t.weighty (t.at i)) in
    let size : length (In side i owed ∷ outs) ≡ suc (length outs) = refl in
    let moved : base + suc m ≡ base + 1 + m = omega arith in
    subst (λ (q : ℕ). Goes q total (made_node t q l)) (sym moved) (outs_go t nodes n total start ps e order side i (base + 1) lt at (omega (arith, size, end)) m l f)
copy_go t nodes n total start ps e order side i owed base true lt at plain paid end zero l f =
    let outs = out_labels side i (outlet_of t.weighty (t.at i)) in
    let size : length (In side i owed ∷ In side i 0 ∷ outs) ≡ suc (suc (length outs)) = refl in
    let last = ps.mono (suc i) n (omega arith) in
    let same : In side i owed ≡ l = cc in
    subst (λ (y : CopyLabel). Goes (base + 0) total (made_node t (base + 0) y)) same (λ x c.
    elim (in_on t side owed (base + 0) (t.at i) x plain c) [
      | inl (next, cause) ↦ (omega (arith, next, size, end, last, ps.whole), inr (omega (arith, next)))
      | inr o ↦ goes_onward t nodes n total start ps e order i (base + 0) (t.at i) (made_in t side owed (base + 0) (t.at i)) x (sym at) (omega (arith, size, end)) o
    ])
copy_go t nodes n total start ps e order side i owed base true lt at plain paid end (suc zero) l f =
    let outs = out_labels side i (outlet_of t.weighty (t.at i)) in
    let size : length (In side i owed ∷ In side i 0 ∷ outs) ≡ suc (suc (length outs)) = refl in
    let last = ps.mono (suc i) n (omega arith) in
    let none = pays_zero t.starts (t.at i) in
    let same : In side i 0 ≡ l = cc in
    subst (λ (y : CopyLabel). Goes (base + 1) total (made_node t (base + 1) y)) same (λ x c.
    elim (in_on t side 0 (base + 1) (t.at i) x plain c) [
      | inl (next, inl pay) ↦ cc
      | inl (next, inr (unpaid, o)) ↦
          let one = slice_get_within outs 0 (Out side i) (out_first t.weighty side i (t.at i) o) in
          (omega (arith, next, one, size, end, last, ps.whole), inr (omega (arith, next)))
      | inr o ↦ goes_onward t nodes n total start ps e order i (base + 1) (t.at i) (made_in t side 0 (base + 1) (t.at i)) x (sym at) (omega (arith, size, end)) o
    ])
copy_go t nodes n total start ps e order side i owed base true lt at plain paid end (suc (suc m)) l f =
    let outs = out_labels side i (outlet_of t.weighty (t.at i)) in
    let size : length (In side i owed ∷ In side i 0 ∷ outs) ≡ suc (suc (length outs)) = refl in
    let moved : base + suc (suc m) ≡ base + 2 + m = omega arith in
    subst (λ (q : ℕ). Goes q total (made_node t q l)) (sym moved) (outs_go t nodes n total start ps e order side i (base + 2) lt at (omega (arith, size, end)) m l f)

start_more : (head : ℕ → Bool) (part : ℕ → Part) (i : ℕ) → start_of head part (suc i) ≡ start_of head part i + length (chunk head part i)
start_more head part i = length-append (labels_at head part i) (chunk head part i)

rising : (head : ℕ → Bool) (part : ℕ → Part) (i k : ℕ) → start_of head part i ≤ start_of head part (i + k)
rising head part i zero = let same : i + 0 ≡ i = omega arith in omega (arith, ap (start_of head part) same)
rising head part i (suc k) =
    let same : i + suc k ≡ suc (i + k) = omega arith in
    omega (arith, ap (start_of head part) same, start_more head part (i + k), rising head part i k)

rises : (head : ℕ → Bool) (part : ℕ → Part) (i j : ℕ) → i ≤ j → start_of head part i ≤ start_of head part j
rises head part i j l = let same : i + (j - i) ≡ j = omega arith in omega (arith, ap (start_of head part) same, rising head part i (j - i))

-- the parts of the labels for a node
parts_of : (head : ℕ → Bool) (part : ℕ → Part) (i : ℕ) →
    start_of head part (suc i) ≡ start_of head part i + length (gate_labels (head i) i) + length (copy_labels Slow i 0 false (part i).outlet) + length (fast_labels i (part i))
parts_of head part i = omega (arith, start_more head part i, chunk_length (head i) i (part i))

slow_place : (head : ℕ → Bool) (part : ℕ → Part) (i : ℕ) → slow_at head part i ≡ start_of head part i + length (gate_labels (head i) i)
slow_place head part i = length-append (labels_at head part i) (gate_labels (head i) i)

fast_place : (head : ℕ → Bool) (part : ℕ → Part) (i : ℕ) →
    fast_at head part i ≡ start_of head part i + length (gate_labels (head i) i) + length (copy_labels Slow i 0 false (part i).outlet)
fast_place head part i =
    omega (arith, length-append (labels_at head part i ++ gate_labels (head i) i) (copy_labels Slow i 0 false (part i).outlet), slow_place head part i)

some_copy : (side : Side) (i owed : ℕ) (p : Bool) (o : Outlet) → 1 ≤ length (copy_labels side i owed p o)
some_copy side i owed true o = omega arith
some_copy side i owed false o = omega arith

some_fast : (i : ℕ) (inside : Bool) (owed : ℕ) (p : Bool) (o : Outlet) → inside ≡ false → let none : List CopyLabel = [] in 1 ≤ length (if inside then none else copy_labels Fast i owed p o)
some_fast i true owed p o e = cc
some_fast i false owed p o e = some_copy Fast i owed p o

-- the fast copy of a node stands after the choice before the node
fast_after : (weighty : List Bool) (nodes : List Node) (starts : List Bool) (weights debts : List ℕ) (headers : List Bool) (fast : List ℕ) →
    Laid weighty nodes starts weights debts headers fast → (fuel i : ℕ) → length nodes ≤ i + fuel → i < length nodes →
    let head = is_in headers in let part = parts_from weighty nodes starts debts in
    (start_of head part i + length (gate_labels (head i) i) < slice_index fast i) × (slice_index fast i < start_of head part (length nodes))
fast_after weighty nodes starts weights debts headers fast laid zero i enough l = absurd (omega arith)
fast_after weighty nodes starts weights debts headers fast laid (suc fuel) i enough l =
    let head = is_in headers in
    let part = parts_from weighty nodes starts debts in
    let n = length nodes in
    let sizes = parts_of head part i in
    let slow = some_copy Slow i 0 false (part i).outlet in
    let up = rises head part (suc i) n (omega arith) in
    elim (inside_cases (is_in starts) (views_of nodes i)) [
      | inl o ↦
          let at : slice_index fast i ≡ fast_at head part i = laid.resolved.other i o ∙ (fast_are head part n).1 i l in
          let some = some_fast i (part i).inside (part i).owed (part i).pays (part i).outlet o in
          (omega (arith, at, fast_place head part i, slow), omega (arith, at, fast_place head part i, sizes, some, up))
      | inr (site, next, e, o) ↦
          let lead : NodeLeadsTo (views_of nodes) i next = subst (λ (v : View). Contains (led_to v) next) (sym e) (0, omega arith, refl) in
          let after : i < next = elim (laid.order.later i next lead) [ inl x ↦ x | inr x ↦ (let clash = sym e ∙ x.1 in cc) ] in
          let rest = fast_after weighty nodes starts weights debts headers fast laid fuel next (omega arith) (laid.order.within i next lead) in
          let at : slice_index fast i ≡ slice_index fast next = laid.resolved.inside i site next l e o in
          let far = rises head part (suc i) next (omega arith) in
          (omega (arith, at, rest.0, far, sizes, slow), omega (arith, at, rest.1))
    ]

places_all : (weighty : List Bool) (nodes : List Node) (starts : List Bool) (weights debts : List ℕ) (headers : List Bool) (fast : List ℕ) →
    Laid weighty nodes starts weights debts headers fast →
    Places (tables_with weighty nodes starts weights debts headers fast) (length nodes) (length (all_labels weighty nodes starts debts headers))
    (start_of (is_in headers) (parts_from weighty nodes starts debts))
places_all weighty nodes starts weights debts headers fast laid =
    let head = is_in headers in
    let part = parts_from weighty nodes starts debts in
    let n = length nodes in
    record {
      mono = rises head part;
      whole = refl;
      from = λ y x l s.
          let sizes = parts_of head part y in
          let slow = some_copy Slow y 0 false (part y).outlet in
          let up = rises head part (suc y) n (omega arith) in
          elim s [
            | inl f ↦ let r = fast_after weighty nodes starts weights debts headers fast laid n y (omega arith) l in (omega (arith, f, r.0), omega (arith, f, r.1))
            | inr (inl w) ↦ let at = slow_are head part n y l in (omega (arith, w, at, slow_place head part y), omega (arith, w, at, slow_place head part y, sizes, slow, up))
            | inr (inr g) ↦ let at = gates_are head part n y l in (omega (arith, g, at), omega (arith, g, at, sizes, slow, up))
          ];
    }

fast_go : (t : Tables) (nodes : List Node) (n total : ℕ) (start : ℕ → ℕ) → Places t n total start → n ≡ length nodes → HasOrder nodes → (debt : ℕ → ℕ) (i base : ℕ) (inside : Bool) → i < n →
    t.at i ≡ views_of nodes i → IsPlain (t.at i) →
    base + length (if inside then [] else copy_labels Fast i (debt i) (is_debt_paid t.starts (debt i) (t.at i)) (outlet_of t.weighty (t.at i))) ≤ start (suc i) →
    (m : ℕ) (l : CopyLabel) → slice_get (if inside then [] else copy_labels Fast i (debt i) (is_debt_paid t.starts (debt i) (t.at i)) (outlet_of t.weighty (t.at i))) m ≡ Some l →
    Goes (base + m) total (made_node t (base + m) l)
fast_go t nodes n total start ps e order debt i base true lt at plain end m l f = cc
fast_go t nodes n total start ps e order debt i base false lt at plain end m l f =
    copy_go t nodes n total start ps e order Fast i (debt i) base (is_debt_paid t.starts (debt i) (t.at i)) lt at plain refl end m l f

-- each node leads to nodes, to later ones but by a turn
each_goes : (weighty : List Bool) (nodes : List Node) (starts : List Bool) (weights debts : List ℕ) (headers : List Bool) (fast : List ℕ) →
    Laid weighty nodes starts weights debts headers fast → (place : ℕ) (l : CopyLabel) → slice_get (all_labels weighty nodes starts debts headers) place ≡ Some l →
    Goes place (length (all_labels weighty nodes starts debts headers)) (made_node (tables_with weighty nodes starts weights debts headers fast) place l)
each_goes weighty nodes starts weights debts headers fast laid place l e =
    let t = tables_with weighty nodes starts weights debts headers fast in
    let head = is_in headers in
    let part = parts_from weighty nodes starts debts in
    let n = length nodes in
    let total = length (all_labels weighty nodes starts debts headers) in
    let start = start_of head part in
    let ps = places_all weighty nodes starts weights debts headers fast laid in
    let debt : ℕ → ℕ = λ i. slice_index debts i in
    elim (owner head part n place l e) [
      | inl z ↦ subst (λ (y : CopyLabel). Goes place total (made_node t place y)) (sym z.1) (λ x c.
          let r = ps.from 0 x laid.entry (inr (inr (only_in (slice_index t.sheet.gates 0) x c))) in
          let first : start_of head part 0 ≡ 1 = refl in
          (r.1, inr (omega (arith, r.0, first, z.0))))
      | inr (i, k, lt, at, f) ↦
          let gate = gate_labels (head i) i in
          let slow = copy_labels Slow i 0 false (part i).outlet in
          let sizes = parts_of head part i in
          let joined = length-append gate slow in
          let plain = plain_at nodes i (slice_get nodes i) laid.plain refl in
          elim (in_joined (gate ++ slow) (fast_labels i (part i)) k l f) [
            | inl g ↦ elim (in_joined gate slow k l g) [
              | inl h ↦
                  let r = gate_cases (head i) i k l h in
                  let near = slice_get_within gate k l h in
                  subst (λ (y : CopyLabel). Goes place total (made_node t place y)) (sym r.1) (λ x c.
                  elim (two_in (place_in_copy t.sheet Fast i) (place_in_copy t.sheet Slow i) x c) [
                    | inl a ↦
                        let b = fast_after weighty nodes starts weights debts headers fast laid n i (omega arith) lt in
                        (omega (arith, a, b.1), inr (omega (arith, a, b.0, at, near)))
                    | inr a ↦
                        let b = ps.from i x lt (inr (inl a)) in
                        let s = slow_are head part n i lt in
                        (b.1, inr (omega (arith, a, s, slow_place head part i, at, near)))
                  ])
              | inr s ↦
                  let moved : place ≡ start i + length gate + s.0 = omega (arith, at, s.1) in
                  subst (λ (q : ℕ). Goes q total (made_node t q l)) (sym moved)
                  (copy_go t nodes n total start ps refl laid.order Slow i 0 (start i + length gate) false lt refl plain (pays_zero t.starts (t.at i)) (omega (arith, sizes)) s.0 l s.2)
            ]
            | inr s ↦
                let moved : place ≡ start i + length (gate ++ slow) + s.0 = omega (arith, at, s.1) in
                subst (λ (q : ℕ). Goes q total (made_node t q l)) (sym moved)
                (fast_go t nodes n total start ps refl laid.order debt i (start i + length (gate ++ slow)) (is_inside t.starts (t.at i)) lt refl plain (omega (arith, sizes, joined)) s.0 l s.2)
          ]
    ]

node_ok : (names : Names) (bounds : Bounds) (place : ℕ) (n : Node) → names_fit names bounds n ≡ true → leads_rightly bounds place (view n) ≡ true → IsTrue (node_fits names bounds place n)
unfolding node_fits
node_ok names bounds place n a b = and_from (names_fit names bounds n) (leads_rightly bounds place (view n)) a b

node_names : (names : Names) (bounds : Bounds) (place : ℕ) (n : Node) → IsTrue (node_fits names bounds place n) → names_fit names bounds n ≡ true
unfolding node_fits
node_names names bounds place n h = and_first (names_fit names bounds n) (leads_rightly bounds place (view n)) h

old_names : (names : Names) (bounds : Bounds) (nodes : List Node) (i : ℕ) (found : Option Node) → NodesFit names bounds nodes → slice_get nodes i ≡ found → view_names names bounds (view_at found) ≡ true
old_names names bounds nodes i None fit e = refl
old_names names bounds nodes i (Some n) fit e = sym (names_view names bounds n) ∙ node_names names bounds i n (fit.each i n e)

past : (xs : List ℕ) (i : ℕ) → length xs ≤ i → slice_index xs i ≡ 0
past xs i l = sym (unwrap_or-slice_get xs i 0) ∙ ap (λ (o : Option ℕ). unwrap_or o 0) (slice_get_past xs i l)

pub fits_all : (weighty : List Bool) (nodes : List Node) (starts : List Bool) (weights debts : List ℕ) (headers : List Bool) (fast : List ℕ) (cloned : List Node) →
    Laid weighty nodes starts weights debts headers fast → length nodes ≤ cloned_limit →
    EachFits (IsMade (tables_with weighty nodes starts weights debts headers fast)) (all_labels weighty nodes starts debts headers) cloned → FitsLike nodes cloned
fits_all weighty nodes starts weights debts headers fast cloned laid few fits =
    let t = tables_with weighty nodes starts weights debts headers fast in
    let labels = all_labels weighty nodes starts debts headers in
    let n = length nodes in
    let small : (i : ℕ) → i < n → slice_index debts i < node_limit = λ i lt. omega (arith, laid.debts_are.small i) in
    let light : (i : ℕ) → slice_index weights i ≤ node_limit = λ i. elim (cases_lt i n) [
      | inl lt ↦ omega (arith, laid.weights_are.small i lt)
      | inr ge ↦ omega (arith, past weights i (omega (arith, laid.weights_are.few)))
    ] in
    let first = kept (is_in headers) (parts_from weighty nodes starts debts) n 0 0 Enter (omega arith) refl in
    record {
      entry = λ l. omega (arith, fits.few, slice_get_within labels 0 Enter first);
      each = λ names bounds e fit. record {
        each = λ place node at.
            let inside : place < length labels = omega (arith, fits.few, slice_get_within cloned place node at) in
            let l : CopyLabel = get_or labels place Enter in
            let there : slice_get labels place ≡ Some (get_or labels place Enter) = slice_get-get_or labels place Enter inside in
            let is = fits.each place (get_or labels place Enter) node there at in
            let of = each_of (is_in headers) (parts_from weighty nodes starts debts) n place (get_or labels place Enter) small there in
            let orig : (i : ℕ) → view_names names bounds (t.at i) ≡ true = λ i. old_names names bounds nodes i (slice_get nodes i) fit refl in
            let named = names_bounds names bounds (length cloned) node ∙ names_view names bounds node ∙ ap (view_names names bounds) is ∙
            made_names names bounds t place (get_or labels place Enter) orig light (λ side i owed same. (subst (λ (y : CopyLabel). IsLabelOfNode n y) same of).1) in
            let goes = each_goes weighty nodes starts weights debts headers fast laid place (get_or labels place Enter) there in
            let goes' = subst (λ (m : ℕ). Goes place m (made_node t place (get_or labels place Enter))) (sym fits.few) goes in
            let led = ap (leads_rightly (record bounds { nodes = length cloned }) place) is ∙ goes_rightly (record bounds { nodes = length cloned }) place (made_node t place (get_or labels place Enter)) goes' in
            node_ok names (record bounds { nodes = length cloned }) place node named led;
      };
    }

pub fits_self : (nodes : List Node) → FitsLike nodes nodes
fits_self nodes = record { entry = λ l. l; each = λ names bounds e fit. subst (λ (m : ℕ). NodesFit names (record bounds { nodes = m }) nodes) e fit }
