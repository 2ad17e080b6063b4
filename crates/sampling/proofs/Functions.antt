-- The copies of a weighty function, by their labels.
use Rattle.std.proofs.Common.{◌≡◌, ℕ, Bool, true, false, if◌then◌else◌, List, [], ◌∷◌, Option, None, Some, slice_get, refl, sym, ap, ◌∙◌, subst, arith}
use Rattle.std.specs.List.{Contains}
use Rattle.std.proofs.lemmas.Option.{slice_get_within}
use Rattle.base_lists.proofs.Every.{none_in}
use Rattle.flow.specs.declared.node.Node.{Node}
use Rattle.flow.specs.declared.node.View.{View}
use Rattle.flow.specs.declared.node.View.TheVariants.{Turns, Calls, Picks, Imports}
use Rattle.flow.specs.Words.{view_at, led_to}
use Rattle.regions.specs.Blocks.{After}
use Rattle.regions.specs.Weighty.{views_of}
use Rattle.copied_nodes.specs.declared.label.CopyLabel.{CopyLabel}
use Rattle.copied_nodes.specs.declared.label.CopyLabel.TheVariants.{Enter, Gate, In, Out}
use Rattle.copied_nodes.specs.declared.label.Side.TheVariants.{Fast}
use Rattle.weights.specs.Paths.{next_nodes}
use Rattle.clone_paths.specs.Cloned.{NodesCloned, cloning_of}
use Rattle.clone_paths.specs.Form.{Cloning}
use Rattle.sampling.specs.Choices.{ChoosesRarely, calls_weighty, is_choice, is_import, opens_region}
use Rattle.sampling.specs.FastCopies.{FastLooksAtNothing, FastWaysLookAtNothing, First, IsOnPath, Later, side_of}
use Rattle.sampling.proofs.Crossing.{all_last}
use Rattle.sampling.proofs.Forms.{none_there}
use Rattle.sampling.proofs.Labels.{Ends, Leads, Shows, in_label, is_back, is_gate, leads, shows}

abbrev pub cloning_by : (weighty : ℕ → Bool) (nodes cloned : List Node) → NodesCloned weighty nodes cloned → Cloning
cloning_by weighty nodes cloned c = cloning_of weighty nodes c.starts c.labels

pub ends_of : (weighty : ℕ → Bool) (nodes cloned : List Node) (c : NodesCloned weighty nodes cloned) → Ends (cloning_by weighty nodes cloned c)
ends_of weighty nodes cloned c =
    λ node ends. all_last (cloning_by weighty nodes cloned c).starts (led_to (views_of nodes node)) (λ next leads. (c.are_starts.each next).1 (After node ends leads))

pub shown : (weighty : ℕ → Bool) (nodes cloned : List Node) (c : NodesCloned weighty nodes cloned) (place : ℕ) (l : CopyLabel) → slice_get c.labels place ≡ Some l →
    Shows l (views_of cloned place)
shown weighty nodes cloned c place l e =
    shows (cloning_by weighty nodes cloned c) l (views_of cloned place) (ends_of weighty nodes cloned c) (c.each place l e)

pub fast_looks_at_nothing : FastLooksAtNothing
fast_looks_at_nothing weighty nodes cloned c place l e fast = (shown weighty nodes cloned c place l e).looks fast

-- a node that leads anywhere has a label
label_of : (weighty : ℕ → Bool) (nodes cloned : List Node) (c : NodesCloned weighty nodes cloned) (place next : ℕ) (found : Option CopyLabel) (there : Option Node) →
    slice_get c.labels place ≡ found → slice_get cloned place ≡ there → Contains (led_to (view_at there)) next → (l : CopyLabel) × (slice_get c.labels place ≡ Some l)
label_of weighty nodes cloned c place next (Some l) there e f h = (l, e)
label_of weighty nodes cloned c place next None None e f h = absurd (none_in next h)
label_of weighty nodes cloned c place next None (Some n) e f h =
    absurd (none_there c.labels place (omega (arith, c.few, slice_get_within cloned place n f)) e)

pub labelled : (weighty : ℕ → Bool) (nodes cloned : List Node) (c : NodesCloned weighty nodes cloned) (place next : ℕ) →
    Contains (led_to (views_of cloned place)) next → (l : CopyLabel) × (slice_get c.labels place ≡ Some l)
labelled weighty nodes cloned c place next h =
    label_of weighty nodes cloned c place next (slice_get c.labels place) (slice_get cloned place) refl refl h

pub led : (weighty : ℕ → Bool) (nodes cloned : List Node) (c : NodesCloned weighty nodes cloned) (place next : ℕ) (l : CopyLabel) → slice_get c.labels place ≡ Some l →
    Contains (led_to (views_of cloned place)) next → Leads (cloning_by weighty nodes cloned c) l (views_of cloned place) next
led weighty nodes cloned c place next l e h =
    leads (cloning_by weighty nodes cloned c) l (views_of cloned place) next (ends_of weighty nodes cloned c) (c.each place l e) h

pub chooses_rarely : ChoosesRarely
chooses_rarely weighty nodes cloned c = record {
  entry = (shown weighty nodes cloned c 0 Enter c.entry).import;
  choices = λ place next h.
      let l = labelled weighty nodes cloned c place next h in
      let k = led weighty nodes cloned c place next l.0 l.1 h in
      (shown weighty nodes cloned c next k.label k.is).choice ∙ k.gate;
  imports = λ place next h.
      let l = labelled weighty nodes cloned c place next h in
      let k = led weighty nodes cloned c place next l.0 l.1 h in
      (shown weighty nodes cloned c next k.label k.is).import ∙ k.back;
}

-- a path goes on within a region
pub record GoesOn (weighty : ℕ → Bool) (q : View) (next : ℕ) : Type 0 where
  pub leads : Contains (led_to q) next
  pub opens : opens_region q ≡ false
  pub light : calls_weighty weighty q ≡ false

light_next : (weighty : ℕ → Bool) (function to next : ℕ) (b : Bool) → weighty function ≡ b → Contains (if b then [] else to ∷ []) next →
    GoesOn weighty (Calls function to) next
light_next weighty function to next true e c = absurd (none_in next c)
light_next weighty function to next false e c = record { leads = c; opens = refl; light = e }

goes_on : (weighty : ℕ → Bool) (q : View) (next : ℕ) → is_import q ≡ false → Contains (next_nodes weighty q) next → GoesOn weighty q next
goes_on weighty (Turns to) next i c = absurd (none_in next c)
goes_on weighty (Calls function to) next i c = light_next weighty function to next (weighty function) refl c
goes_on weighty (Imports to) next i c = cc
goes_on weighty q next i c = record { leads = c; opens = refl; light = refl }

-- the node stands in the fast copy
abbrev pub IsFast : (ℕ → Option CopyLabel) → ℕ → Type 0
IsFast label place = (l : CopyLabel) × (label place ≡ Some l) × (side_of l ≡ Some Fast)

in_copy : (l : CopyLabel) → side_of l ≡ Some Fast → (is_gate l ≡ false) × (is_back l ≡ false)
in_copy (In side node owed) e = (refl, refl)
in_copy (Out side node) e = (refl, refl)
in_copy l e = cc

chosen_by : (weighty : ℕ → Bool) (nodes cloned : List Node) (c : NodesCloned weighty nodes cloned) (place weight fast slow : ℕ) (l : CopyLabel) →
    slice_get c.labels place ≡ Some l → is_gate l ≡ true → views_of cloned place ≡ Picks weight fast slow → IsFast (slice_get c.labels) fast
chosen_by weighty nodes cloned c place weight fast slow (Gate node) e g p =
    let r = c.each place (Gate node) e in
    let same : r.1 ≡ fast = let both : Picks r.0 r.1 r.2 ≡ Picks weight fast slow = sym r.3 ∙ p in cc in
    let k = in_label (cloning_by weighty nodes cloned c) Fast r.1 node 0 r.5 in
    subst (λ (m : ℕ). IsFast (slice_get c.labels) m) same (In Fast k.0 k.1, k.2, refl)
chosen_by weighty nodes cloned c place weight fast slow l e g p = cc

chosen : (weighty : ℕ → Bool) (nodes cloned : List Node) (c : NodesCloned weighty nodes cloned) (place weight fast slow : ℕ) →
    views_of cloned place ≡ Picks weight fast slow → IsFast (slice_get c.labels) fast
chosen weighty nodes cloned c place weight fast slow p =
    let first : Contains (fast ∷ slow ∷ []) fast = (0, omega arith, refl) in
    let l = labelled weighty nodes cloned c place fast (subst (λ (v : View). Contains (led_to v) fast) (sym p) first) in
    let gate : is_gate l.0 ≡ true = sym (shown weighty nodes cloned c place l.0 l.1).choice ∙ ap is_choice p in
    chosen_by weighty nodes cloned c place weight fast slow l.0 l.1 gate p

on_fast_way : (weighty : ℕ → Bool) (nodes cloned : List Node) (c : NodesCloned weighty nodes cloned) (fast node : ℕ) → IsFast (slice_get c.labels) fast →
    IsOnPath weighty (views_of cloned) fast node → IsFast (slice_get c.labels) node
on_fast_way weighty nodes cloned c fast node h First = h
on_fast_way weighty nodes cloned c fast node h (Later place path next) =
    let l = on_fast_way weighty nodes cloned c fast place h path in
    let s = shown weighty nodes cloned c place l.0 l.1 in
    let copy = in_copy l.0 l.2 in
    let on = goes_on weighty (views_of cloned place) node (s.import ∙ copy.1) next in
    let k = led weighty nodes cloned c place node l.0 l.1 on.leads in
    (k.label, k.is, k.side on.opens on.light copy.0 ∙ l.2)

pub fast_ways_look_at_nothing : FastWaysLookAtNothing
fast_ways_look_at_nothing weighty nodes cloned c place weight fast slow node p path =
    let l = on_fast_way weighty nodes cloned c fast node (chosen weighty nodes cloned c place weight fast slow p) path in
    fast_looks_at_nothing weighty nodes cloned c node l.0 l.1 l.2
