-- A node for each label of a sampled function.
use Rattle.std.proofs.Common.{◌≡◌, ℕ, zero, suc, ◌+◌, ◌<◌, Bool, false, true, List, [], ◌∷◌, length, get_or, Some, refl, ap, sym, ◌∙◌, subst, arith, slice_get}
use Rattle.std.specs.Prelude.{if◌then◌else◌}
use Rattle.flow.specs.declared.node.Node.{Node}
use Rattle.flow.specs.declared.node.Node.TheVariants as node
use Rattle.flow.specs.declared.node.View.{View}
use Rattle.flow.specs.declared.node.View.TheVariants as view
use Rattle.flow.specs.View.{view as view_of}
use Rattle.regions.specs.Rows.{EachFits}
use Rattle.regions.proofs.Within.{no_node}
use Rattle.lower_relation.specs.Stands.{renumbered_view}
use Rattle.compiler_exists.proofs.Turning.{turned_node, view_turned}
use Rattle.copied_nodes.specs.declared.label.CopyLabel.{CopyLabel}
use Rattle.copied_nodes.specs.declared.label.CopyLabel.TheVariants.{Enter, Gate, Back, In, Out}
use Rattle.copied_nodes.specs.declared.label.Side.{Side}
use Rattle.copied_nodes.specs.declared.label.Side.TheVariants.{Fast, Slow}
use Rattle.clone_paths.specs.Form.{is_outlet}
use Rattle.clone_paths.specs.Layout.{place_in_copy}
use Rattle.clone_paths.specs.Made.{IsMade, IsLabelOfNode, Tables, made_node, made_free, made_in, made_out, made_same, made_visit}
use Rattle.clone_paths.specs.Parts.{is_debt_paid}

-- a node that is seen so
abbrev Seen : View → Type 0
Seen v = (x : Node) × (view_of x ≡ v)

module _ (t : Tables) where
  same_seen : (side : Side) (x : Node) (v : View) → view_of x ≡ v → Seen (made_same t side v)
  same_seen side x (view.Row op next) e =
      (turned_node (λ k. place_in_copy t.sheet side next) x, view_turned (λ k. place_in_copy t.sheet side next) x ∙ ap (renumbered_view (λ k. place_in_copy t.sheet side next)) e)
  same_seen side x (view.Forks when_true when_false) e = (node.Fork (place_in_copy t.sheet side when_true) (place_in_copy t.sheet side when_false), refl)
  same_seen side x (view.Turns next) e = (node.Again _, refl)
  same_seen side x (view.Calls function next) e = (node.Call function (place_in_copy t.sheet side next), refl)
  same_seen side x other e = (x, e)

  free_by : (side : Side) (place : ℕ) (x : Node) (v : View) (b : Bool) → view_of x ≡ v → Seen (if b then view.Exports (place + 1) else made_same t side v)
  free_by side place x v true e = (node.Export (place + 1), refl)
  free_by side place x v false e = same_seen side x v e

  paid_by : (side : Side) (owed place : ℕ) (x : Node) (v : View) (b : Bool) → view_of x ≡ v →
      Seen (if b then view.Skips owed (place + 1) else made_free t side place v)
  paid_by side owed place x v true e = (node.Skip owed (place + 1), refl)
  paid_by side owed place x v false e = free_by side place x v (is_outlet t.weighty v) e

  visit_seen : (side : Side) (owed site next : ℕ) → Seen (made_visit t.sheet side owed site next)
  visit_seen Slow owed site next = (node.Test site (place_in_copy t.sheet Slow next), refl)
  visit_seen Fast owed site next = (node.Skip (owed + 1) (place_in_copy t.sheet Fast next), refl)

  in_seen : (side : Side) (owed place : ℕ) (x : Node) (v : View) → view_of x ≡ v → Seen (made_in t side owed place v)
  in_seen side owed place x (view.Marks site next) e = visit_seen side owed site next
  in_seen side owed place x other e = paid_by side owed place x other (is_debt_paid t.starts owed other) e

  out_seen : (place : ℕ) (x : Node) (v : View) → view_of x ≡ v → Seen (made_out place v)
  out_seen place x (view.Calls function next) e = (node.Call function (place + 1), refl)
  out_seen place x other e = (x, e)

  module _ (nodes : List Node) (at : (i : ℕ) → i < length nodes → t.at i ≡ view_of (get_or nodes i no_node)) where
    label_seen : (place : ℕ) (l : CopyLabel) → IsLabelOfNode (length nodes) l → Seen (made_node t place l)
    label_seen place Enter of = (node.Import _, refl)
    label_seen place (Gate i) of = (node.Choose (t.weight i) (place_in_copy t.sheet Fast i) (place_in_copy t.sheet Slow i), refl)
    label_seen place (Back i) of = (node.Import _, refl)
    label_seen place (In side i owed) of = in_seen side owed place (get_or nodes i no_node) (t.at i) (sym (at i of.0))
    label_seen place (Out side i) of = out_seen place (get_or nodes i no_node) (t.at i) (sym (at i of))

    -- nodes for these labels, from this place on
    pub record Fitting (first : ℕ) (labels : List CopyLabel) (made_nodes : List Node) : Type 0 where
      pub few : length made_nodes ≡ length labels
      pub each : (i : ℕ) (l : CopyLabel) (x : Node) → slice_get labels i ≡ Some l → slice_get made_nodes i ≡ Some x → IsMade t (first + i) l x

    moved_made : (place place' : ℕ) (l l' : CopyLabel) (x x' : Node) → place ≡ place' → Some l ≡ Some l' → Some x ≡ Some x' →
        IsMade t place l x → IsMade t place' l' x'
    moved_made place place' l l' x x' e f h is =
        let labels : l ≡ l' = cc in
        let nodes_same : x ≡ x' = cc in
        subst (λ p. IsMade t p l' x') e (subst (λ k. IsMade t place k x') labels (subst (λ y. IsMade t place l y) nodes_same is))

    labels_seen : (first : ℕ) (labels : List CopyLabel) → ((i : ℕ) (l : CopyLabel) → slice_get labels i ≡ Some l → IsLabelOfNode (length nodes) l) →
        (made_nodes : List Node) × Fitting first labels made_nodes
    labels_seen first [] of = ([], record { few = refl; each = λ i l x e f. absurd (cc) })
    labels_seen first (l ∷ labels) of =
        let one = label_seen first l (of 0 l refl) in
        let rest = labels_seen (suc first) labels (λ i k e. of (suc i) k e) in (
          one.0 ∷ rest.0,
          record { few = ap suc rest.1.few; each = both_made first l labels one.0 rest.0 one.1 rest.1 },
        )
      where
        both_made : (first : ℕ) (l : CopyLabel) (labels : List CopyLabel) (x : Node) (xs : List Node) → view_of x ≡ made_node t first l →
            Fitting (suc first) labels xs → (i : ℕ) (k : CopyLabel) (y : Node) → slice_get (l ∷ labels) i ≡ Some k →
            slice_get (x ∷ xs) i ≡ Some y → IsMade t (first + i) k y
        both_made first l labels x xs is fits zero k y e f = moved_made first (first + 0) l k x y (omega arith) e f is
        both_made first l labels x xs is fits (suc i) k y e f =
            moved_made (suc first + i) (first + suc i) k k y y (omega arith) refl refl (fits.each i k y e f)

    -- nodes for all labels
    pub all_made : (labels : List CopyLabel) → ((i : ℕ) (l : CopyLabel) → slice_get labels i ≡ Some l → IsLabelOfNode (length nodes) l) →
        (made_nodes : List Node) × EachFits (IsMade t) labels made_nodes
    all_made labels of =
        let all = labels_seen 0 labels of in (
          all.0,
          record { few = all.1.few; each = λ i l x e f. moved_made (0 + i) i l l x x (omega arith) refl refl (all.1.each i l x e f) },
        )
