-- What is to be known of a function before it is cloned: where blocks and regions begin, and the weights.
use Rattle.std.proofs.Common.{◌≡◌, ℕ, zero, suc, ◌+◌, ◌<◌, Bool, false, true, List, length, replicate, set, get_or, Option, None, Some, refl, subst, arith}
use Rattle.std.proofs.lemmas.List.{length-replicate}
use Rattle.flow.specs.declared.node.Node.{Node}
use Rattle.flow.specs.Nodes.{led_to}
use Rattle.regions.specs.Blocks.{IsStart, ends_block}
use Rattle.regions.specs.Flags.{AreFlags}
use Rattle.regions.specs.Headers.{IsHeader, begun_after}
use Rattle.regions.specs.Noted.{Sets, at_entry, noted_all}
use Rattle.regions.specs.Weighty.{views_of}
use Rattle.regions.proofs.BlockLemmas.{Before, Known, Sized, known_all, known_entry, known_node}
use Rattle.regions.proofs.HeaderLemmas.{Begun, begun_all, begun_entry, begun_leads, begun_more, begun_same}
use Rattle.regions.proofs.Within.{leads_from}
use Rattle.weights.specs.Weight.{AreWeights, IsForward, weight_from}
use Rattle.weights.proofs.WeightLemmas.{Weighed, weighed_all, weighed_more, weighed_none}
use Rattle.clone_paths.specs.Parts.{HasOrder}

pub next_is : (i : ℕ) → i + 1 ≡ suc i
next_is i = omega arith

module _ (nodes : List Node) (entry : 0 < length nodes) (order : HasOrder nodes) where
  -- what is known of the blocks after so many nodes
  abbrev Noted : ℕ → Type 0
  Noted i = (s : Sets) × Known (views_of nodes) (Before (views_of nodes) i) s × Sized (length nodes) s

  noted_at : (i : ℕ) → Noted i
  noted_at zero = let k = known_entry (views_of nodes) (length nodes) entry in (at_entry (length nodes), k.0, k.1)
  noted_at (suc i) =
      let s = noted_at i in
      let k = known_node (views_of nodes) i (length nodes) s.0 s.1 s.2 (λ next h. order.within i next h) in
      let more : Noted (i + 1) = (noted_all (ends_block (views_of nodes i)) (led_to (views_of nodes i)) s.0, k.0, k.1) in
      subst Noted (next_is i) more

  -- where blocks begin
  pub starts_there : (starts : List Bool) × AreFlags (length nodes) (IsStart (views_of nodes)) starts
  starts_there =
      let s = noted_at (length nodes) in
      (s.0.starts, known_all (views_of nodes) (length nodes) s.0 s.1 s.2 (λ place next h. leads_from nodes place next h))

  module _ (weighty : ℕ → Bool) where
    abbrev Heads : ℕ → Type 0
    Heads i = (flags : List Bool) × Begun weighty (views_of nodes) (length nodes) i flags

    heads_step : (i : ℕ) (o : Option ℕ) → begun_after weighty (views_of nodes i) ≡ o → Heads i → Heads (i + 1)
    heads_step i None e h = (h.0, begun_same weighty (views_of nodes) (length nodes) i h.0 h.1 e)
    heads_step i (Some x) e h = (
      set h.0 x true,
      begun_more weighty (views_of nodes) (length nodes) i x h.0 h.1 e (order.within i x (begun_leads weighty (views_of nodes i) x e)),
    )

    heads_at : (i : ℕ) → Heads i
    heads_at zero = (set (replicate (length nodes) false) 0 true, begun_entry weighty (views_of nodes) (length nodes) entry)
    heads_at (suc i) = subst Heads (next_is i) (heads_step i (begun_after weighty (views_of nodes i)) refl (heads_at i))

    -- where regions begin
    pub headers_there : (headers : List Bool) × AreFlags (length nodes) (IsHeader weighty (views_of nodes)) headers
    headers_there = let h = heads_at (length nodes) in (h.0, begun_all weighty nodes h.0 h.1)

    module _ (forward : IsForward weighty nodes) where
      abbrev Weights : ℕ → Type 0
      Weights i = (weights : List ℕ) × Weighed weighty nodes i weights

      -- from the last node down
      weights_at : (left i : ℕ) → i + left ≡ length nodes → Weights i
      weights_at zero i e =
          let last : length nodes ≡ i = omega (arith, e) in
          subst Weights last (replicate (length nodes) 0, weighed_none weighty nodes (replicate (length nodes) 0) (length-replicate (length nodes) 0))
      weights_at (suc left) i e =
          let w = weights_at left (i + 1) (omega (arith, e)) in
          (set w.0 i (weight_from weighty (λ x. get_or w.0 x 0) (views_of nodes i)), weighed_more weighty nodes i w.0 forward w.1 (omega (arith, e)))

      pub weights_there : (weights : List ℕ) × AreWeights weighty nodes weights
      weights_there = let w = weights_at (length nodes) 0 (omega arith) in (w.0, weighed_all weighty nodes w.0 w.1)
