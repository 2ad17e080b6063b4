-- Two labellings of the same copies.
use Rattle.std.proofs.Common.{◌≡◌, inl, inr, ℕ, zero, suc, Bool, true, false, List, [], ◌∷◌, Option, Some, slice_get, sym, ap, ◌∙◌, subst}
use Rattle.std.proofs.Math.Path.{fun_ext}
use Rattle.std.specs.Bool.{MatchBool}
use Rattle.std.specs.List.{Contains}
use Rattle.base_lists.proofs.Tests.{same_tests}
use Rattle.base_lists.proofs.Every.{only_in, two_in}
use Rattle.flow.specs.declared.node.Node.{Node}
use Rattle.flow.specs.declared.node.View.{View}
use Rattle.flow.specs.declared.node.View.TheVariants.{Row, Halts, Forks, Turns, Calls, Gives, Quits, Marks, Skips, Exports}
use Rattle.flow.specs.Nodes.{led_to}
use Rattle.regions.specs.Flags.{is_in}
use Rattle.regions.specs.Weighty.{views_of}
use Rattle.copied_nodes.specs.declared.label.CopyLabel.{CopyLabel}
use Rattle.copied_nodes.specs.declared.label.CopyLabel.TheVariants.{Enter, Gate, Back, In, Out}
use Rattle.copied_nodes.specs.declared.label.Side.{Side}
use Rattle.copied_nodes.specs.declared.label.Side.TheVariants.{Fast, Slow}
use Rattle.clone_paths.specs.Cloned.{NodesCloned}
use Rattle.clone_paths.specs.Form.{Cloning, Here, IsNodeInCopy, IsOutletInCopy, IsOwing, IsAsLabelled, IsSame, IsVisit, StandsForNode, Owed, is_last, is_outlet}
use Rattle.sampling.specs.Labelling.{Entry, Later, OneLabelling}
use Rattle.sampling.proofs.Crossing.{both_ways, in_owing, visit_cases}
use Rattle.sampling.proofs.Functions.{cloning_by, labelled}
use Rattle.sampling.proofs.Labels.{to_none}

-- each node is what its label says
abbrev pub EachRight : Cloning → (ℕ → View) → Type 0
EachRight t at = (place : ℕ) (l : CopyLabel) → t.label place ≡ Some l → IsAsLabelled t l (at place)

-- the same function and copies, with other labels
abbrev pub relabelled : Cloning → (ℕ → Option CopyLabel) → Cloning
relabelled t label = record t { label = label }

-- both labellings fit
pub record BothFit (t : Cloning) (label : ℕ → Option CopyLabel) (at : ℕ → View) : Type 0 where
  pub one : EachRight t at
  pub other : EachRight (relabelled t label) at

-- a visit within a block has no node of its own in the fast copy
not_here : (t : Cloning) (at : ℕ → View) (side : Side) (place node owed site next : ℕ) → EachRight t at → side ≡ Fast → t.at node ≡ Marks site next →
    t.starts next ≡ false → t.label place ≡ Some (In side node owed) → ⊥
not_here t at side place node owed site next each fast m starts e =
    let r = each place (In side node owed) e in
    let v : IsVisit t side owed site next (at place) = subst (λ (w : View). IsNodeInCopy t side node owed w (at place)) m r.1 in
    let f : IsVisit t Fast owed site next (at place) = subst (λ (s : Side). IsVisit t s owed site next (at place)) fast v in
    both_ways (t.starts next) f.1 starts

one_stands : (t : Cloning) (label : ℕ → Option CopyLabel) (at : ℕ → View) (side : Side) (place node owed : ℕ) → BothFit t label at →
    StandsForNode t side place node owed → StandsForNode (relabelled t label) side place node owed → t.label place ≡ label place
one_stands t label at side place node owed w (Here e) (Here f) = e ∙ sym f
one_stands t label at side place node owed w (Here e) (Owed site next fast m starts rest) =
    absurd (not_here t at side place node owed site next w.one fast m starts e)
one_stands t label at side place node owed w (Owed site next fast m starts rest) (Here f) =
    absurd (not_here (relabelled t label) at side place node owed site next w.other fast m starts f)
one_stands t label at side place node owed w (Owed site next fast m starts rest) (Owed named after again n begins more) =
    let same : after ≡ next = let both : Marks named after ≡ Marks site next = sym n ∙ m in cc in
    one_stands t label at side place next (suc owed) w rest (subst (λ (k : ℕ). StandsForNode (relabelled t label) side place k (suc owed)) same more)

in_one : (q : View) (m x : ℕ) → led_to q ≡ m ∷ [] → Contains (led_to q) x → x ≡ m
in_one q m x e c = only_in m x (subst (λ (xs : List ℕ). Contains xs x) e c)

one_label : (t : Cloning) (label : ℕ → Option CopyLabel) (q : View) (l : CopyLabel) (m n x : ℕ) → led_to q ≡ m ∷ [] → led_to q ≡ n ∷ [] → t.label m ≡ Some l → label n ≡ Some l →
    Contains (led_to q) x → t.label x ≡ label x
one_label t label q l m n x e f a b c = ap t.label (in_one q m x e c) ∙ a ∙ sym b ∙ sym (ap label (in_one q n x f c))

stands_at : (t : Cloning) (label : ℕ → Option CopyLabel) (at : ℕ → View) (side : Side) (m n x node owed : ℕ) → BothFit t label at → x ≡ m → x ≡ n →
    StandsForNode t side m node owed → StandsForNode (relabelled t label) side n node owed → t.label x ≡ label x
stands_at t label at side m n x node owed w e f a b =
    one_stands t label at side x node owed w (subst (λ (k : ℕ). StandsForNode t side k node owed) (sym e) a)
    (subst (λ (k : ℕ). StandsForNode (relabelled t label) side k node owed) (sym f) b)

one_inner : (t : Cloning) (label : ℕ → Option CopyLabel) (at : ℕ → View) (side : Side) (q : View) (m n x node owed : ℕ) → BothFit t label at →
    led_to q ≡ m ∷ [] → led_to q ≡ n ∷ [] → StandsForNode t side m node owed → StandsForNode (relabelled t label) side n node owed →
    Contains (led_to q) x → t.label x ≡ label x
one_inner t label at side q m n x node owed w e f a b c = stands_at t label at side m n x node owed w (in_one q m x e c) (in_one q n x f c) a b

-- to two nodes of a copy, or to one of each
pub record TwoStand (t : Cloning) (side also : Side) (m n a b owed : ℕ) : Type 0 where
  pub first : StandsForNode t side m a owed
  pub second : StandsForNode t also n b owed

two_inner : (t : Cloning) (label : ℕ → Option CopyLabel) (at : ℕ → View) (side also : Side) (q : View) (m n k j x first second owed : ℕ) → BothFit t label at →
    led_to q ≡ m ∷ n ∷ [] → led_to q ≡ k ∷ j ∷ [] → TwoStand t side also m n first second owed → TwoStand (relabelled t label) side also k j first second owed →
    Contains (led_to q) x → t.label x ≡ label x
two_inner t label at side also q m n k j x first second owed w e f a b c =
    let lists : m ∷ n ∷ [] ≡ k ∷ j ∷ [] = sym e ∙ f in
    elim (two_in m n x (subst (λ (xs : List ℕ). Contains xs x) e c)) as (λ _. t.label x ≡ label x) [
      | inl h ↦ let same : m ≡ k = cc in stands_at t label at side m k x first owed w h (h ∙ same) a.first b.first
      | inr h ↦ let same : n ≡ j = cc in stands_at t label at also n j x second owed w h (h ∙ same) a.second b.second
    ]

same_agrees : (t : Cloning) (label : ℕ → Option CopyLabel) (at : ℕ → View) (side : Side) (owed : ℕ) (v q : View) (x : ℕ) → BothFit t label at →
    IsSame t side owed v q → IsSame (relabelled t label) side owed v q → Contains (led_to q) x → t.label x ≡ label x
same_agrees t label at side owed (Row op next) q x w h k c = one_inner t label at side q h.0 k.0 x next owed w (ap led_to h.1) (ap led_to k.1) h.2 k.2 c
same_agrees t label at side owed (Halts op) q x w h k c = to_none q x (ap led_to h) c
same_agrees t label at side owed (Forks a b) q x w h k c =
    two_inner t label at side side q h.0 h.1 k.0 k.1 x a b owed w (ap led_to h.2) (ap led_to k.2) (record { first = h.3; second = h.4 })
    (record { first = k.3; second = k.4 }) c
same_agrees t label at side owed (Turns next) q x w h k c = one_label t label q (Gate next) h.0 k.0 x (ap led_to h.1) (ap led_to k.1) h.2 k.2 c
same_agrees t label at side owed (Calls function next) q x w h k c =
    one_inner t label at side q h.0 k.0 x next owed w (ap led_to h.1) (ap led_to k.1) h.2 k.2 c
same_agrees t label at side owed v q x w h k c = absurd h

abbrev pub Freed : Cloning → Side → ℕ → View → View → Bool → Type 0
Freed t side node v q b = MatchBool b ((m : ℕ) × (q ≡ Exports m) × (t.label m ≡ Some (Out side node))) (IsSame t side 0 v q)

free_agrees : (t : Cloning) (label : ℕ → Option CopyLabel) (at : ℕ → View) (side : Side) (node : ℕ) (v q : View) (x : ℕ) (b : Bool) → BothFit t label at →
    Freed t side node v q b → Freed (relabelled t label) side node v q b → Contains (led_to q) x → t.label x ≡ label x
free_agrees t label at side node v q x true w h k c = one_label t label q (Out side node) h.0 k.0 x (ap led_to h.1) (ap led_to k.1) h.2 k.2 c
free_agrees t label at side node v q x false w h k c = same_agrees t label at side 0 v q x w h k c

abbrev pub Paid : Cloning → Side → ℕ → ℕ → View → View → Bool → Type 0
Paid t side node owed v q b = MatchBool b ((m : ℕ) × (q ≡ Skips (suc owed) m) × StandsForNode t side m node 0) (IsSame t side (suc owed) v q)

paid_agrees : (t : Cloning) (label : ℕ → Option CopyLabel) (at : ℕ → View) (side : Side) (node owed : ℕ) (v q : View) (x : ℕ) (b : Bool) → BothFit t label at →
    Paid t side node owed v q b → Paid (relabelled t label) side node owed v q b → Contains (led_to q) x → t.label x ≡ label x
paid_agrees t label at side node owed v q x true w h k c = one_inner t label at side q h.0 k.0 x node 0 w (ap led_to h.1) (ap led_to k.1) h.2 k.2 c
paid_agrees t label at side node owed v q x false w h k c = same_agrees t label at side (suc owed) v q x w h k c

owing_agrees : (t : Cloning) (label : ℕ → Option CopyLabel) (at : ℕ → View) (side : Side) (node owed : ℕ) (v q : View) (x : ℕ) → BothFit t label at →
    IsOwing t side node owed v q → IsOwing (relabelled t label) side node owed v q → Contains (led_to q) x → t.label x ≡ label x
owing_agrees t label at side node zero v q x w h k c = free_agrees t label at side node v q x (is_outlet t.weighty v) w h k c
owing_agrees t label at side node (suc owed) v q x w h k c = paid_agrees t label at side node owed v q x (is_last t.starts (led_to v)) w h k c

visit_agrees : (t : Cloning) (label : ℕ → Option CopyLabel) (at : ℕ → View) (side : Side) (owed site next : ℕ) (q : View) (x : ℕ) → BothFit t label at →
    IsVisit t side owed site next q → IsVisit (relabelled t label) side owed site next q → Contains (led_to q) x → t.label x ≡ label x
visit_agrees t label at Fast owed site next q x w h k c = one_inner t label at Fast q h.0 k.0 x next 0 w (ap led_to h.2) (ap led_to k.2) h.3 k.3 c
visit_agrees t label at Slow owed site next q x w h k c = one_inner t label at Slow q h.0 k.0 x next 0 w (ap led_to h.1) (ap led_to k.1) h.2 k.2 c

in_agrees : (t : Cloning) (label : ℕ → Option CopyLabel) (at : ℕ → View) (side : Side) (node owed : ℕ) (v q : View) (x : ℕ) → BothFit t label at →
    IsNodeInCopy t side node owed v q → IsNodeInCopy (relabelled t label) side node owed v q → Contains (led_to q) x → t.label x ≡ label x
in_agrees t label at side node owed v q x w h k c =
    elim (visit_cases v) as (λ _. t.label x ≡ label x) [
      | inl none ↦
          owing_agrees t label at side node owed v q x w (in_owing t side node owed v q none h) (in_owing (relabelled t label) side node owed v q none k) c
      | inr visit ↦
          visit_agrees t label at side owed visit.0 visit.1 q x w (subst (λ (u : View). IsNodeInCopy t side node owed u q) visit.2 h)
          (subst (λ (u : View). IsNodeInCopy (relabelled t label) side node owed u q) visit.2 k) c
    ]

out_agrees : (t : Cloning) (label : ℕ → Option CopyLabel) (v q : View) (x : ℕ) → is_outlet t.weighty v ≡ true → IsOutletInCopy t v q → IsOutletInCopy (relabelled t label) v q →
    Contains (led_to q) x → t.label x ≡ label x
out_agrees t label Gives q x o h k c = to_none q x (ap led_to h) c
out_agrees t label Quits q x o h k c = to_none q x (ap led_to h) c
out_agrees t label (Calls function next) q x o h k c = one_label t label q (Back next) h.0 k.0 x (ap led_to h.1) (ap led_to k.1) h.2 k.2 c
out_agrees t label v q x o h k c = cc

-- nodes of one label lead to nodes of one label
agrees : (t : Cloning) (label : ℕ → Option CopyLabel) (at : ℕ → View) (l : CopyLabel) (q : View) (x : ℕ) → BothFit t label at → IsAsLabelled t l q →
    IsAsLabelled (relabelled t label) l q → Contains (led_to q) x → t.label x ≡ label x
agrees t label at Enter q x w h k c = one_label t label q (Gate 0) h.0 k.0 x (ap led_to h.1) (ap led_to k.1) h.2 k.2 c
agrees t label at (Back node) q x w h k c = one_label t label q (Gate node) h.0 k.0 x (ap led_to h.1) (ap led_to k.1) h.2 k.2 c
agrees t label at (Gate node) q x w h k c =
    two_inner t label at Fast Slow q h.1 h.2 k.1 k.2 x node node 0 w (ap led_to h.3) (ap led_to k.3) (record { first = h.5; second = h.6 })
    (record { first = k.5; second = k.6 }) c
agrees t label at (In side node owed) q x w h k c = in_agrees t label at side node owed (t.at node) q x w h.1 k.1 c
agrees t label at (Out side node) q x w h k c = out_agrees t label (t.at node) q x h.0 h.1 k.1 c

-- one function has its blocks in one way
same_starts : (weighty : ℕ → Bool) (nodes cloned : List Node) (one other : NodesCloned weighty nodes cloned) → is_in other.starts ≡ is_in one.starts
same_starts weighty nodes cloned one other =
    fun_ext (λ (k : ℕ). same_tests (is_in other.starts k) (is_in one.starts k) (λ h. (one.are_starts.each k).1 ((other.are_starts.each k).0 h))
    (λ h. (other.are_starts.each k).1 ((one.are_starts.each k).0 h)))

both_fit : (weighty : ℕ → Bool) (nodes cloned : List Node) (one other : NodesCloned weighty nodes cloned) →
    BothFit (cloning_by weighty nodes cloned one) (slice_get other.labels) (views_of cloned)
both_fit weighty nodes cloned one other = record {
  one = one.each;
  other = λ place l e.
      subst (λ (starts : ℕ → Bool). let t : Cloning = record (cloning_by weighty nodes cloned other) { starts = starts } in IsAsLabelled t l (views_of cloned place))
      (same_starts weighty nodes cloned one other) (other.each place l e);
}

pub one_labelling : OneLabelling
one_labelling weighty nodes cloned one other place Entry = one.entry ∙ sym other.entry
one_labelling weighty nodes cloned one other place (Later before reached lead) =
    let l = labelled weighty nodes cloned one before place lead in
    let same = one_labelling weighty nodes cloned one other before reached in
    let w = both_fit weighty nodes cloned one other in
    agrees (cloning_by weighty nodes cloned one) (slice_get other.labels) (views_of cloned) l.0 (views_of cloned before) place w
    (w.one before l.0 l.1) (w.other before l.0 (sym same ∙ l.1)) lead
