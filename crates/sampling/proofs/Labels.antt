-- What the label of a node says of the node, and of the labels of the nodes to which it leads.
use Rattle.std.proofs.Common.{◌≡◌, ◌⊎◌, inl, inr, ℕ, suc, Bool, true, false, List, [], ◌∷◌, None, Some, refl, sym, ap, ◌∙◌, subst}
use Rattle.std.specs.List.{Contains}
use Rattle.base_lists.proofs.Every.{none_in, only_in, two_in}
use Rattle.flow.specs.declared.node.View.{View}
use Rattle.flow.specs.declared.node.View.TheVariants.{Row, Halts, Forks, Turns, Calls, Gives, Quits, Skips, Picks, Imports, Exports}
use Rattle.flow.specs.Nodes.{led_to}
use Rattle.regions.specs.Blocks.{ends_block}
use Rattle.copied_nodes.specs.declared.label.CopyLabel.{CopyLabel}
use Rattle.copied_nodes.specs.declared.label.CopyLabel.TheVariants.{Enter, Gate, Back, In, Out}
use Rattle.copied_nodes.specs.declared.label.Side.{Side}
use Rattle.copied_nodes.specs.declared.label.Side.TheVariants.{Fast, Slow}
use Rattle.clone_paths.specs.Form.{Cloning, Here, IsOutletInCopy, IsAsLabelled, IsSame, StandsForNode, Owed, is_last, is_outlet}
use Rattle.sampling.specs.Choices.{calls_weighty, is_choice, is_import, opens_region}
use Rattle.sampling.specs.FastCopies.{LooksAtNothing, side_of}
use Rattle.sampling.proofs.Crossing.{Inner, Leaves, Looks, Passes, Passing, Pays, Remains, inner}

abbrev pub is_gate : CopyLabel → Bool
is_gate (Gate node) = true
is_gate other = false

abbrev pub is_back : CopyLabel → Bool
is_back Enter = true
is_back (Back node) = true
is_back other = false

-- within a block control goes on, and where it leaves the block, it goes to where one begins
abbrev pub Ends : Cloning → Type 0
Ends t = (node : ℕ) → ends_block (t.at node) ≡ true → is_last t.starts (led_to (t.at node)) ≡ true

-- neither a choice nor an import
abbrev pub IsQuiet : View → Type 0
IsQuiet q = (is_choice q ≡ false) × (is_import q ≡ false)

-- a node that looks at a site stands in the slow copy
abbrev pub MayLook : Side → View → Type 0
MayLook Fast q = LooksAtNothing q
MayLook Slow q = Unit {0}

abbrev pub IsCommon : Side → View → Type 0
IsCommon side q = IsQuiet q × MayLook side q

looks : (side : Side) (q : View) → LooksAtNothing q → MayLook side q
looks Fast q h = h
looks Slow q h = tt

common : (side : Side) (v q : View) → q ≡ v → is_choice v ≡ false → is_import v ≡ false → LooksAtNothing v → IsCommon side q
common side v q e choice import nothing = subst (IsCommon side) (sym e) ((choice, import), looks side v nothing)

same_common : (t : Cloning) (side : Side) (owed : ℕ) (v q : View) → IsSame t side owed v q → IsCommon side q
same_common t side owed (Row op next) q h = common side (Row op h.0) q h.1 refl refl tt
same_common t side owed (Halts op) q h = common side (Halts op) q h refl refl tt
same_common t side owed (Forks a b) q h = common side (Forks h.0 h.1) q h.2 refl refl tt
same_common t side owed (Turns next) q h = common side (Turns h.0) q h.1 refl refl tt
same_common t side owed (Calls function next) q h = common side (Calls function h.0) q h.1 refl refl tt
same_common t side owed v q h = absurd h

passing_common : (t : Cloning) (side : Side) (node owed : ℕ) (v q : View) → Passing t side node owed v q → IsCommon side q
passing_common t side node owed v q (Leaves place z o e l) = common side (Exports place) q e refl refl tt
passing_common t side node owed v q (Remains o ends same) = same_common t side owed v q same

slow_looks : (side : Side) (q : View) → side ≡ Slow → MayLook side q
slow_looks Fast q e = cc
slow_looks Slow q e = tt

inner_common : (t : Cloning) (side : Side) (node : ℕ) (v q : View) → Inner t side node v q → IsCommon side q
inner_common t side node v q (Passes owed h) = passing_common t side node owed v q h
inner_common t side node v q (Pays by place next fast e l) = common side (Skips by place) q e refl refl tt
inner_common t side node v q (Looks site place next slow e l) =
    (subst IsQuiet (sym e) (refl, refl), slow_looks side q slow)

out_common : (t : Cloning) (side : Side) (v q : View) → is_outlet t.weighty v ≡ true → IsOutletInCopy t v q → IsCommon side q
out_common t side Gives q o h = common side Gives q h refl refl tt
out_common t side Quits q o h = common side Quits q h refl refl tt
out_common t side (Calls function next) q o h = common side (Calls function h.0) q h.1 refl refl tt
out_common t side v q o h = cc

-- what a node shows of its label
pub record Shows (l : CopyLabel) (q : View) : Type 0 where
  pub choice : is_choice q ≡ is_gate l
  pub import : is_import q ≡ is_back l
  pub looks : side_of l ≡ Some Fast → LooksAtNothing q

no_side : (q : View) → None ≡ Some Fast → LooksAtNothing q
no_side q e = cc

in_side : (side : Side) (q : View) → MayLook side q → Some side ≡ Some Fast → LooksAtNothing q
in_side Fast q h e = h
in_side Slow q h e = cc

pub shows : (t : Cloning) (l : CopyLabel) (q : View) → Ends t → IsAsLabelled t l q → Shows l q
shows t Enter q ends h = record { choice = ap is_choice h.1; import = ap is_import h.1; looks = no_side q }
shows t (Gate node) q ends h = record { choice = ap is_choice h.3; import = ap is_import h.3; looks = no_side q }
shows t (Back node) q ends h = record { choice = ap is_choice h.1; import = ap is_import h.1; looks = no_side q }
shows t (In side node owed) q ends h =
    let c = inner_common t side node (t.at node) q (inner t side node owed (t.at node) q (ends node) h.0 h.1) in
    record { choice = c.0.0; import = c.0.1; looks = in_side side q c.1 }
shows t (Out side node) q ends h =
    let c = out_common t side (t.at node) q h.0 h.1 in
    record { choice = c.0.0; import = c.0.1; looks = in_side side q c.1 }

-- the label of a node in a copy
pub in_label : (t : Cloning) (side : Side) (place node owed : ℕ) → StandsForNode t side place node owed → (n o : ℕ) × (t.label place ≡ Some (In side n o))
in_label t side place node owed (Here e) = (node, owed, e)
in_label t side place node owed (Owed site next fast at starts rest) = in_label t side place next (suc owed) rest

-- what a node shows of the label of one to which it leads
pub record Leads (t : Cloning) (l : CopyLabel) (q : View) (next : ℕ) : Type 0 where
  pub label : CopyLabel
  pub is : t.label next ≡ Some label
  pub gate : is_gate label ≡ opens_region q
  pub back : is_back label ≡ calls_weighty t.weighty q
  pub side : opens_region q ≡ false → calls_weighty t.weighty q ≡ false → is_gate l ≡ false → side_of label ≡ side_of l

pub to_none : {A : Type 0} (q : View) (x : ℕ) → led_to q ≡ [] → Contains (led_to q) x → A
to_none q x e c = absurd (none_in x (subst (λ (xs : List ℕ). Contains xs x) e c))

to_one : (t : Cloning) (l : CopyLabel) (q : View) (m x : ℕ) → led_to q ≡ m ∷ [] → Leads t l q m → Contains (led_to q) x → Leads t l q x
to_one t l q m x e h c = subst (λ (y : ℕ). Leads t l q y) (sym (only_in m x (subst (λ (xs : List ℕ). Contains xs x) e c))) h

to_two : (t : Cloning) (l : CopyLabel) (q : View) (m n x : ℕ) → led_to q ≡ m ∷ n ∷ [] → Leads t l q m → Leads t l q n → Contains (led_to q) x → Leads t l q x
to_two t l q m n x e h k c =
    elim (two_in m n x (subst (λ (xs : List ℕ). Contains xs x) e c)) as (λ _. Leads t l q x) [
      | inl first ↦ subst (λ (y : ℕ). Leads t l q y) (sym first) h
      | inr second ↦ subst (λ (y : ℕ). Leads t l q y) (sym second) k
    ]

-- to a node of the same copy
to_inner : (t : Cloning) (side : Side) (l : CopyLabel) (q : View) (m node owed : ℕ) → side_of l ≡ Some side → opens_region q ≡ false →
    calls_weighty t.weighty q ≡ false → StandsForNode t side m node owed → Leads t l q m
to_inner t side l q m node owed s o w h =
    let k = in_label t side m node owed h in
    record { label = In side k.0 k.1; is = k.2; gate = sym o; back = sym w; side = λ a b c. sym s }

opened : (q : View) {A : Type 0} → opens_region q ≡ true → opens_region q ≡ false → A
opened q e f = cc

same_leads : (t : Cloning) (side : Side) (owed : ℕ) (l : CopyLabel) (v q : View) (x : ℕ) → side_of l ≡ Some side → is_outlet t.weighty v ≡ false →
    IsSame t side owed v q → Contains (led_to q) x → Leads t l q x
same_leads t side owed l (Row op next) q x s o h c =
    to_one t l q h.0 x (ap led_to h.1) (to_inner t side l q h.0 next owed s (ap opens_region h.1) (ap (calls_weighty t.weighty) h.1) h.2) c
same_leads t side owed l (Halts op) q x s o h c = to_none q x (ap led_to h) c
same_leads t side owed l (Forks a b) q x s o h c =
    to_two t l q h.0 h.1 x (ap led_to h.2) (to_inner t side l q h.0 a owed s (ap opens_region h.2) (ap (calls_weighty t.weighty) h.2) h.3)
    (to_inner t side l q h.1 b owed s (ap opens_region h.2) (ap (calls_weighty t.weighty) h.2) h.4) c
same_leads t side owed l (Turns next) q x s o h c =
    to_one t l q h.0 x (ap led_to h.1) (record {
      label = Gate next;
      is = h.2;
      gate = sym (ap opens_region h.1);
      back = sym (ap (calls_weighty t.weighty) h.1);
      side = λ a b k. opened q (ap opens_region h.1) a;
    }) c
same_leads t side owed l (Calls function next) q x s o h c =
    to_one t l q h.0 x (ap led_to h.1) (to_inner t side l q h.0 next owed s (ap opens_region h.1) (ap (calls_weighty t.weighty) h.1 ∙ o) h.2) c
same_leads t side owed l v q x s o h c = absurd h

inner_leads : (t : Cloning) (side : Side) (node : ℕ) (l : CopyLabel) (v q : View) (x : ℕ) → side_of l ≡ Some side → Inner t side node v q → Contains (led_to q) x →
    Leads t l q x
inner_leads t side node l v q x s (Passes owed (Leaves place z o e label)) c =
    to_one t l q place x (ap led_to e) (record {
      label = Out side node;
      is = label;
      gate = sym (ap opens_region e);
      back = sym (ap (calls_weighty t.weighty) e);
      side = λ a b k. sym s;
    }) c
inner_leads t side node l v q x s (Passes owed (Remains o ends same)) c = same_leads t side owed l v q x s o same c
inner_leads t side node l v q x s (Pays by place next fast e label) c =
    to_one t l q place x (ap led_to e) (to_inner t side l q place next 0 s (ap opens_region e) (ap (calls_weighty t.weighty) e) label) c
inner_leads t side node l v q x s (Looks site place next slow e label) c =
    to_one t l q place x (ap led_to e) (to_inner t side l q place next 0 s (ap opens_region e) (ap (calls_weighty t.weighty) e) label) c

called : (q : View) (b : Bool) {A : Type 0} → b ≡ true → b ≡ false → A
called q b e f = cc

out_leads : (t : Cloning) (l : CopyLabel) (v q : View) (x : ℕ) → is_outlet t.weighty v ≡ true → IsOutletInCopy t v q → Contains (led_to q) x → Leads t l q x
out_leads t l Gives q x o h c = to_none q x (ap led_to h) c
out_leads t l Quits q x o h c = to_none q x (ap led_to h) c
out_leads t l (Calls function next) q x o h c =
    to_one t l q h.0 x (ap led_to h.1) (record {
      label = Back next;
      is = h.2;
      gate = sym (ap opens_region h.1);
      back = sym (ap (calls_weighty t.weighty) h.1 ∙ o);
      side = λ a b k. called q (calls_weighty t.weighty q) (ap (calls_weighty t.weighty) h.1 ∙ o) b;
    }) c
out_leads t l v q x o h c = cc

import_leads : (t : Cloning) (l : CopyLabel) (q : View) (m node x : ℕ) → q ≡ Imports m → t.label m ≡ Some (Gate node) → Contains (led_to q) x → Leads t l q x
import_leads t l q m node x e label c =
    to_one t l q m x (ap led_to e) (record {
      label = Gate node;
      is = label;
      gate = sym (ap opens_region e);
      back = sym (ap (calls_weighty t.weighty) e);
      side = λ a b k. opened q (ap opens_region e) a;
    }) c

gate_to : (t : Cloning) (side : Side) (node : ℕ) (q : View) (weight fast slow m : ℕ) → q ≡ Picks weight fast slow → StandsForNode t side m node 0 →
    Leads t (Gate node) q m
gate_to t side node q weight fast slow m e h =
    let k = in_label t side m node 0 h in
    record { label = In side k.0 k.1; is = k.2; gate = sym (ap opens_region e); back = sym (ap (calls_weighty t.weighty) e); side = λ a b c. cc }

pub leads : (t : Cloning) (l : CopyLabel) (q : View) (x : ℕ) → Ends t → IsAsLabelled t l q → Contains (led_to q) x → Leads t l q x
leads t Enter q x ends h c = import_leads t Enter q h.0 0 x h.1 h.2 c
leads t (Back node) q x ends h c = import_leads t (Back node) q h.0 node x h.1 h.2 c
leads t (Gate node) q x ends h c =
    to_two t (Gate node) q h.1 h.2 x (ap led_to h.3) (gate_to t Fast node q h.0 h.1 h.2 h.1 h.3 h.5) (gate_to t Slow node q h.0 h.1 h.2 h.2 h.3 h.6) c
leads t (In side node owed) q x ends h c =
    inner_leads t side node (In side node owed) (t.at node) q x refl (inner t side node owed (t.at node) q (ends node) h.0 h.1) c
leads t (Out side node) q x ends h c = out_leads t (Out side node) (t.at node) q x h.0 h.1 c
