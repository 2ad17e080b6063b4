-- What is owed before each node of a fast copy, and where these copies stand.
use Rattle.std.proofs.Common.{◌≡◌, ℕ, zero, suc, ◌+◌, ◌<◌, Bool, List, length, replicate, set, get_or, Option, None, Some, refl, subst, arith}
use Rattle.flow.specs.declared.node.Node.{Node}
use Rattle.flow.specs.Nodes.{led_to}
use Rattle.regions.specs.Blocks.{IsStart}
use Rattle.regions.specs.Flags.{AreFlags, is_in}
use Rattle.regions.specs.Weighty.{views_of}
use Rattle.weights.specs.Paths.{mark_count}
use Rattle.clone_paths.specs.Made.{Resolved, next_visited}
use Rattle.clone_paths.specs.Parts.{AreDebts, HasOrder, next_inside}
use Rattle.clone_paths.proofs.DebtLemmas.{Owed, owed_all, owed_more, owed_none, owed_same}
use Rattle.clone_paths.proofs.ResolveLemmas.{ResolvedFrom, resolved_all, resolved_more, resolved_none, resolved_same}
use Rattle.compiler_exists.proofs.Preparing.{next_is}

module _ (nodes : List Node) (entry : 0 < length nodes) (order : HasOrder nodes) (starts : List Bool)
    (are : AreFlags (length nodes) (IsStart (views_of nodes)) starts) where
  abbrev Debts : ℕ → Type 0
  Debts i = (debts : List ℕ) × Owed nodes starts i debts

  debts_step : (i : ℕ) (o : Option ℕ) → next_inside (is_in starts) (led_to (views_of nodes i)) ≡ o → Debts i → Debts (i + 1)
  debts_step i None e d = (d.0, owed_same nodes starts i d.0 are d.1 e)
  debts_step i (Some x) e d = (set d.0 x (get_or d.0 i 0 + mark_count (views_of nodes i)), owed_more nodes starts i x d.0 order are d.1 e)

  debts_at : (i : ℕ) → Debts i
  debts_at zero = (replicate (length nodes) 0, owed_none nodes starts)
  debts_at (suc i) = subst Debts (next_is i) (debts_step i (next_inside (is_in starts) (led_to (views_of nodes i))) refl (debts_at i))

  -- what is owed before each node
  pub debts_there : (debts : List ℕ) × AreDebts nodes starts debts
  debts_there = let d = debts_at (length nodes) in (d.0, owed_all nodes starts d.0 d.1)

  module _ (old : List ℕ) (long : length old ≡ length nodes) where
    abbrev Places : ℕ → Type 0
    Places i = (new : List ℕ) × ResolvedFrom starts nodes old new i

    places_step : (i : ℕ) (o : Option ℕ) → i < length nodes → next_visited (is_in starts) (views_of nodes i) ≡ o → Places (i + 1) → Places i
    places_step i None low e r = (r.0, resolved_same starts nodes old r.0 i r.1 e)
    places_step i (Some x) low e r = (set r.0 i (get_or r.0 x 0), resolved_more starts nodes old r.0 i x order r.1 low e)

    places_at : (left i : ℕ) → i + left ≡ length nodes → Places i
    places_at zero i e =
        let last : length nodes ≡ i = omega (arith, e) in
        subst Places last (old, resolved_none starts nodes old long)
    places_at (suc left) i e =
        places_step i (next_visited (is_in starts) (views_of nodes i)) (omega (arith, e)) refl (places_at left (i + 1) (omega (arith, e)))

    -- where the fast copies stand
    pub places_there : (new : List ℕ) × Resolved starts nodes old new
    places_there = let r = places_at (length nodes) 0 (omega arith) in (r.0, resolved_all starts nodes old r.0 long r.1)
