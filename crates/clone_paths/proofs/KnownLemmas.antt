-- What is known of a function once its labels were laid out, and that its nodes are cloned.
use Rattle.std.proofs.Common.{◌≡◌, ◌⊎◌, inl, inr, ℕ, zero, suc, ◌+◌, ◌*◌, ◌<◌, ◌≤◌, Bool, true, false, not, if◌then◌else◌, List, [], ◌++◌, length, get_or, Option, Some, None, slice_get, slice_index, refl, sym, ap, ◌∙◌, subst, arith, length-append}
use Rattle.std.specs.List.{Contains}
use Rattle.std.proofs.lemmas.List.Elements.{All-get_or}
use Rattle.std.proofs.lemmas.Option.{get_or_from_slice_get, slice_get-get_or, slice_get_within}
use Rattle.base_lists.proofs.Lists.{get_left}
use Rattle.flow.specs.declared.node.Node.{Node}
use Rattle.flow.specs.declared.node.Node.TheVariants.{Push}
use Rattle.flow.specs.declared.node.View.{View}
use Rattle.flow.specs.declared.node.View.TheVariants.{Turns, Calls, Marks, Nowhere}
use Rattle.flow.specs.Words.{view_at, led_to, view, ArePlain, IsPlain}
use Rattle.regions.specs.Blocks.{IsStart, NodeLeadsTo, ends_block}
use Rattle.regions.specs.Blocks as block
use Rattle.regions.specs.Flags.{AreFlags, is_in}
use Rattle.regions.specs.Headers.{IsHeader, begun_after}
use Rattle.regions.specs.Headers as region
use Rattle.regions.specs.Rows.{EachFits}
use Rattle.regions.specs.Weighty.{views_of}
use Rattle.regions.proofs.HeaderLemmas.{begun_leads}
use Rattle.regions.proofs.Within.{no_node}
use Rattle.weights.specs.Paths.{mark_count}
use Rattle.weights.specs.Weight.{AreWeights}
use Rattle.copied_nodes.specs.declared.label.CopyLabel.{CopyLabel}
use Rattle.copied_nodes.specs.declared.label.CopyLabel.TheVariants.{Enter, Gate, In}
use Rattle.copied_nodes.specs.declared.label.Side.TheVariants.{Fast, Slow}
use Rattle.clone_paths.specs.declared.parts.Outlet.{Outlet}
use Rattle.clone_paths.specs.declared.parts.Part.{Part}
use Rattle.clone_paths.specs.Cloned.{NodesCloned}
use Rattle.clone_paths.specs.Form.{StandsForNode, Here, IsAsLabelled, Owed}
use Rattle.clone_paths.specs.Layout.{Sheet, copy_labels, fast_labels, gate_labels}
use Rattle.clone_paths.specs.Made.{IsMade, Resolved, made_node, Tables, parts_from, sheet_at, tables_of}
use Rattle.clone_paths.specs.Parts.{AreDebts, HasOrder, is_inside, is_debt_paid}
use Rattle.clone_paths.proofs.ChunkLemmas.{each_right}
use Rattle.clone_paths.proofs.RightLemmas.{Known, cloning, pays_zero}
use Rattle.clone_paths.proofs.SheetLemmas.{fast_are, fast_at, gates_are, in_second, kept, labels_at, labels_most, placed, slow_are, slow_at, start_of}

pub plain_at : (nodes : List Node) (i : ℕ) (found : Option Node) → ArePlain nodes → slice_get nodes i ≡ found → IsPlain (view_at found)
plain_at nodes i None all e = tt
plain_at nodes i (Some n) all e =
    let l = slice_get_within nodes i n e in
    subst (λ (m : Node). IsPlain (view m)) (get_or_from_slice_get nodes i n n e) (All-get_or (λ (m : Node). IsPlain (view m)) nodes i n l all)

view_there : (n : Node) → view n ≡ Nowhere → ⊥
view_there (Push kind value next) e = cc
view_there other e = cc

there_at : (nodes : List Node) (i : ℕ) (d : Node) → i < length nodes → views_of nodes i ≡ Nowhere → ⊥
there_at nodes i d l e = view_there (get_or nodes i d) (ap view_at (sym (slice_get-get_or nodes i d l)) ∙ e)

begun_ends : (w : ℕ → Bool) (v : View) (x : ℕ) → begun_after w v ≡ Some x → ends_block v ≡ true
begun_ends w (Turns next) x e = refl
begun_ends w (Calls function next) x e = refl
begun_ends w v x e = cc

-- a region begins only where a block begins
header_starts : (w : ℕ → Bool) (at : ℕ → View) {x : ℕ} → IsHeader w at x → IsStart at x
header_starts w at region.Entry = block.Entry
header_starts w at (region.After {next} place e) = block.After place (begun_ends w (at place) next e) (begun_leads w (at place) next e)

-- the labels of a node at their places
gate_there : (head : ℕ → Bool) (part : ℕ → Part) (n i : ℕ) → i < n → head i ≡ true → slice_get (labels_at head part n) (start_of head part i) ≡ Some (Gate i)
gate_there head part n i l h =
    let first : slice_get (gate_labels (head i) i) 0 ≡ Some (Gate i) = ap (λ (b : Bool). slice_get (gate_labels b i) 0) h in
    let slow = copy_labels Slow i 0 false (part i).outlet in
    let there = placed head part n i 0 (Gate i) l (get_left (gate_labels (head i) i ++ slow) (fast_labels i (part i)) 0 (Gate i) (get_left (gate_labels (head i) i) slow 0 (Gate i) first)) in
    let at : start_of head part i ≡ start_of head part i + 0 = omega arith in
    ap (λ (k : ℕ). slice_get (labels_at head part n) k) at ∙ there

slow_there : (head : ℕ → Bool) (part : ℕ → Part) (n i : ℕ) → i < n → slice_get (labels_at head part n) (slow_at head part i) ≡ Some (In Slow i 0)
slow_there head part n i l =
    let gate = gate_labels (head i) i in
    let slow = copy_labels Slow i 0 false (part i).outlet in
    let second : slice_get (gate ++ slow) (length gate + 0) ≡ Some (In Slow i 0) = in_second gate slow 0 (In Slow i 0) refl in
    let there = placed head part n i (length gate + 0) (In Slow i 0) l (get_left (gate ++ slow) (fast_labels i (part i)) (length gate + 0) (In Slow i 0) second) in
    let at : slow_at head part i ≡ start_of head part i + (length gate + 0) = omega (arith, length-append (labels_at head part i) gate) in
    ap (λ (k : ℕ). slice_get (labels_at head part n) k) at ∙ there

first_of : (i owed : ℕ) (p : Bool) (o : Outlet) → slice_get (copy_labels Fast i owed p o) 0 ≡ Some (In Fast i owed)
first_of i owed true o = refl
first_of i owed false o = refl

fast_there : (head : ℕ → Bool) (part : ℕ → Part) (n i : ℕ) → i < n → (part i).inside ≡ false → slice_get (labels_at head part n) (fast_at head part i) ≡ Some (In Fast i (part i).owed)
fast_there head part n i l o =
    let gate = gate_labels (head i) i in
    let slow = copy_labels Slow i 0 false (part i).outlet in
    let fast = fast_labels i (part i) in
    let first : slice_get (fast_labels i (part i)) 0 ≡ Some (In Fast i (part i).owed) =
    ap (λ (b : Bool). slice_get (if b then [] else copy_labels Fast i (part i).owed (part i).pays (part i).outlet) 0) o ∙ first_of i (part i).owed (part i).pays (part i).outlet
    in
    let there = placed head part n i (length (gate ++ slow) + 0) (In Fast i (part i).owed) l (in_second (gate ++ slow) fast 0 (In Fast i (part i).owed) first) in
    let at : fast_at head part i ≡ start_of head part i + (length (gate ++ slow) + 0) =
    omega (arith, length-append (labels_at head part i ++ gate) slow, length-append (labels_at head part i) gate, length-append gate slow)
    in
    ap (λ (k : ℕ). slice_get (labels_at head part n) k) at ∙ there

-- a function whose labels are laid out
pub record Laid (weighty : List Bool) (nodes : List Node) (starts : List Bool) (weights debts : List ℕ) (headers : List Bool) (fast : List ℕ) : Type 0 where
  pub entry : 0 < length nodes
  pub order : HasOrder nodes
  pub plain : ArePlain nodes
  pub starts_are : AreFlags (length nodes) (IsStart (views_of nodes)) starts
  pub headers_are : AreFlags (length nodes) (IsHeader (is_in weighty) (views_of nodes)) headers
  pub weights_are : AreWeights (is_in weighty) nodes weights
  pub debts_are : AreDebts nodes starts debts
  pub resolved : Resolved starts nodes (sheet_at (is_in headers) (parts_from weighty nodes starts debts) (length nodes)).fast fast

abbrev pub sheet_with : List Bool → List Node → List Bool → List ℕ → List Bool → List ℕ → Sheet
sheet_with weighty nodes starts debts headers fast = record (sheet_at (is_in headers) (parts_from weighty nodes starts debts) (length nodes)) { fast = fast }

abbrev pub tables_with : List Bool → List Node → List Bool → List ℕ → List ℕ → List Bool → List ℕ → Tables
tables_with weighty nodes starts weights debts headers fast = tables_of weighty nodes starts weights (sheet_with weighty nodes starts debts headers fast)

abbrev pub all_labels : List Bool → List Node → List Bool → List ℕ → List Bool → List CopyLabel
all_labels weighty nodes starts debts headers = labels_at (is_in headers) (parts_from weighty nodes starts debts) (length nodes)

abbrev pub InsideCases : (ℕ → Bool) → View → Type 0
InsideCases starts v = (is_inside starts v ≡ false) ⊎ ((site next : ℕ) × (v ≡ Marks site next) × (starts next ≡ false))

by_inside : (b : Bool) → (not b ≡ false) ⊎ (b ≡ false)
by_inside true = inl refl
by_inside false = inr refl

pub inside_cases : (starts : ℕ → Bool) (v : View) → InsideCases starts v
inside_cases starts (Marks site next) = elim (by_inside (starts next)) [ inl e ↦ inl e | inr e ↦ inr (site, next, refl, e) ]
inside_cases starts v = inl refl

-- the fast copy of a node stands where the table says; a visit within a block has what stands for the node after it
fast_labelled : (weighty : List Bool) (nodes : List Node) (starts : List Bool) (weights debts : List ℕ) (headers : List Bool) (fast : List ℕ) →
    Laid weighty nodes starts weights debts headers fast → (fuel i : ℕ) → length nodes ≤ i + fuel → i < length nodes →
    StandsForNode (cloning (tables_with weighty nodes starts weights debts headers fast) (slice_get (all_labels weighty nodes starts debts headers))) Fast (slice_index fast i) i (slice_index debts i)
fast_labelled weighty nodes starts weights debts headers fast laid zero i enough l = absurd (omega arith)
fast_labelled weighty nodes starts weights debts headers fast laid (suc fuel) i enough l =
    let head = is_in headers in
    let part = parts_from weighty nodes starts debts in
    let c = cloning (tables_with weighty nodes starts weights debts headers fast) (slice_get (all_labels weighty nodes starts debts headers)) in
    elim (inside_cases (is_in starts) (views_of nodes i)) [
      | inl o ↦
          let at : slice_index fast i ≡ fast_at head part i = laid.resolved.other i o ∙ (fast_are head part (length nodes)).1 i l in
          subst (λ (k : ℕ). StandsForNode c Fast k i (slice_index debts i)) (sym at) (Here (fast_there head part (length nodes) i l o))
      | inr (site, next, e, o) ↦
          let lead : NodeLeadsTo (views_of nodes) i next = subst (λ (v : View). Contains (led_to v) next) (sym e) (0, omega arith, refl) in
          let after : i < next = elim (laid.order.later i next lead) [ inl x ↦ x | inr x ↦ (let clash = sym e ∙ x.1 in cc) ] in
          let rest = fast_labelled weighty nodes starts weights debts headers fast laid fuel next (omega arith) (laid.order.within i next lead) in
          let more : slice_index debts next ≡ suc (slice_index debts i) = omega (arith, laid.debts_are.more i next lead o, ap mark_count e) in
          let at : slice_index fast i ≡ slice_index fast next = laid.resolved.inside i site next l e o in
          subst (λ (k : ℕ). StandsForNode c Fast k i (slice_index debts i)) (sym at)
          (Owed site next refl e o (subst (λ (d : ℕ). StandsForNode c Fast (slice_index fast next) next d) more rest))
    ]

pub known_all : (weighty : List Bool) (nodes : List Node) (starts : List Bool) (weights debts : List ℕ) (headers : List Bool) (fast : List ℕ) →
    Laid weighty nodes starts weights debts headers fast →
    Known (tables_with weighty nodes starts weights debts headers fast) (length nodes) (λ i. slice_index debts i) (is_in headers) (slice_get (all_labels weighty nodes starts debts headers))
known_all weighty nodes starts weights debts headers fast laid =
    let head = is_in headers in
    let part = parts_from weighty nodes starts debts in
    let n = length nodes in
    record {
      plain = λ i. plain_at nodes i (slice_get nodes i) laid.plain refl;
      there = λ i l e. there_at nodes i no_node l e;
      begins = λ x s. (laid.starts_are.each x).1 s;
      within = laid.order.within;
      entry = laid.entry;
      heads = λ x h. (laid.headers_are.each x).1 h;
      none = laid.debts_are.none;
      more = laid.debts_are.more;
      weights = laid.weights_are.each;
      head_starts = λ x h. (laid.starts_are.each x).1 (header_starts (is_in weighty) (views_of nodes) ((laid.headers_are.each x).0 h));
      gate = λ i l h. ap (λ (k : ℕ). slice_get (labels_at head part n) k) (gates_are head part n i l) ∙ gate_there head part n i l h;
      slow = λ i l. ap (λ (k : ℕ). slice_get (labels_at head part n) k) (slow_are head part n i l) ∙ slow_there head part n i l;
      fast = λ i l. fast_labelled weighty nodes starts weights debts headers fast laid n i (omega arith) l;
    }

by_length : (head : ℕ → Bool) (part : ℕ → Part) (n : ℕ) → (part 0).pays ≡ false → 0 < n → start_of head part n ≤ 8 * n
by_length head part zero p l = absurd (omega arith)
by_length head part (suc n) p l = labels_most head part n p

-- eight labels a node at most
pub labels_small : (weighty : List Bool) (nodes : List Node) (starts : List Bool) (debts : List ℕ) (headers : List Bool) → 0 < length nodes → AreDebts nodes starts debts →
    length (all_labels weighty nodes starts debts headers) ≤ 8 * length nodes
labels_small weighty nodes starts debts headers entry debts_are =
    let part = parts_from weighty nodes starts debts in
    let owes : slice_index debts 0 ≡ 0 = omega (arith, debts_are.small 0) in
    let unpaid : (part 0).pays ≡ false = ap (λ (d : ℕ). is_debt_paid (is_in starts) d (views_of nodes 0)) owes ∙ pays_zero (is_in starts) (views_of nodes 0) in
    by_length (is_in headers) part (length nodes) unpaid entry

-- the node with a label is there
made_view : (t : Tables) (labels : List CopyLabel) (nodes : List Node) (place : ℕ) (l : CopyLabel) (d : Node) → EachFits (IsMade t) labels nodes → slice_get labels place ≡ Some l →
    views_of nodes place ≡ made_node t place l
made_view t labels nodes place l d fits e =
    let inside : place < length nodes = omega (arith, fits.few, slice_get_within labels place l e) in
    let there = slice_get-get_or nodes place d inside in
    ap view_at there ∙ fits.each place l (get_or nodes place d) e there

pub cloned_all : (weighty : List Bool) (nodes : List Node) (starts : List Bool) (weights debts : List ℕ) (headers : List Bool) (fast : List ℕ) (cloned : List Node) →
    Laid weighty nodes starts weights debts headers fast →
    EachFits (IsMade (tables_with weighty nodes starts weights debts headers fast)) (all_labels weighty nodes starts debts headers) cloned → NodesCloned (is_in weighty) nodes cloned
cloned_all weighty nodes starts weights debts headers fast cloned laid fits =
    let t = tables_with weighty nodes starts weights debts headers fast in
    let labels = all_labels weighty nodes starts debts headers in
    let head = is_in headers in
    let part = parts_from weighty nodes starts debts in
    record {
      starts = starts;
      are_starts = laid.starts_are;
      labels = labels;
      few = sym fits.few;
      entry = kept head part (length nodes) 0 0 Enter (omega arith) refl;
      each = λ place l e.
          subst (λ (q : View). IsAsLabelled (cloning t (slice_get labels)) l q) (sym (made_view t labels cloned place l no_node fits e))
          (each_right t (length nodes) (λ i. slice_index debts i) head (known_all weighty nodes starts weights debts headers fast laid) place l e);
    }

-- at most eight nodes a node
pub cloned_small : (weighty : List Bool) (nodes : List Node) (starts : List Bool) (weights debts : List ℕ) (headers : List Bool) (fast : List ℕ) (cloned : List Node) →
    Laid weighty nodes starts weights debts headers fast →
    EachFits (IsMade (tables_with weighty nodes starts weights debts headers fast)) (all_labels weighty nodes starts debts headers) cloned → length cloned ≤ 8 * length nodes
cloned_small weighty nodes starts weights debts headers fast cloned laid fits =
    omega (arith, fits.few, labels_small weighty nodes starts debts headers laid.entry laid.debts_are)
