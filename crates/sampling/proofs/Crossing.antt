-- How control passes a node of a copy.
use Rattle.std.proofs.Common.{◌≡◌, ◌⊎◌, inl, inr, ℕ, zero, suc, ◌+◌, Bool, true, false, ◌||◌, List, [], ◌∷◌, Some, refl, ap, subst, arith}
use Rattle.std.specs.Bool.{MatchBool}
use Rattle.std.specs.List.{Contains}
use Rattle.std.proofs.lemmas.Bool.{false_from_ne_true}
use Rattle.flow.specs.declared.node.View.{View}
use Rattle.flow.specs.declared.node.View.TheVariants.{Calls, Gives, Quits, Marks, Skips, Tests, Exports}
use Rattle.flow.specs.Nodes.{led_to}
use Rattle.regions.specs.Blocks.{ends_block}
use Rattle.weights.specs.Paths.{mark_count}
use Rattle.copied_nodes.specs.declared.label.CopyLabel.TheVariants.{Out}
use Rattle.copied_nodes.specs.declared.label.Side.{Side}
use Rattle.copied_nodes.specs.declared.label.Side.TheVariants.{Fast, Slow}
use Rattle.clone_paths.specs.Form.{Cloning, IsOwingNothing, IsNodeInCopy, IsOwing, IsSame, IsVisit, StandsForNode, MayOwe, is_last, is_outlet}

-- control passes the node: it leaves the copy, or stays in it, where nothing is owed once the block ends
pub data Passing (t : Cloning) (side : Side) (node owed : ℕ) (v q : View) : Type 0 where
  Leaves : (place : ℕ) → owed ≡ 0 → is_outlet t.weighty v ≡ true → q ≡ Exports place → t.label place ≡ Some (Out side node) →
      Passing t side node owed v q
  Remains : is_outlet t.weighty v ≡ false → (ends_block v ≡ true → owed ≡ 0) → IsSame t side owed v q →
      Passing t side node owed v q

free_by : (t : Cloning) (side : Side) (node : ℕ) (v q : View) (b : Bool) → is_outlet t.weighty v ≡ b →
    MatchBool b ((m : ℕ) × (q ≡ Exports m) × (t.label m ≡ Some (Out side node))) (IsSame t side 0 v q) →
    Passing t side node 0 v q
free_by t side node v q true e h = Leaves h.0 refl e h.1 h.2
free_by t side node v q false e h = Remains e (λ ends. refl) h

pub free_passes : (t : Cloning) (side : Side) (node : ℕ) (v q : View) → IsOwingNothing t side node v q → Passing t side node 0 v q
free_passes t side node v q h = free_by t side node v q (is_outlet t.weighty v) refl h

-- a list of block starts
pub all_last : (starts : ℕ → Bool) (l : List ℕ) → ((x : ℕ) → Contains l x → starts x ≡ true) → is_last starts l ≡ true
all_last starts [] h = refl
all_last starts (x ∷ []) h = h x (0, omega arith, refl)
all_last starts (x ∷ y ∷ l) h = ap (λ (b : Bool). b || is_last starts (y ∷ l)) (h x (0, omega arith, refl))

outlet_last : (weighty starts : ℕ → Bool) (v : View) → is_outlet weighty v ≡ true → (ends_block v ≡ true → is_last starts (led_to v) ≡ true) →
    is_last starts (led_to v) ≡ true
outlet_last weighty starts Gives o h = refl
outlet_last weighty starts Quits o h = refl
outlet_last weighty starts (Calls function next) o h = h refl
outlet_last weighty starts v o h = cc

pub both_ways : (b : Bool) → b ≡ true → b ≡ false → ⊥
both_ways b e f = cc

-- within a block control stays in the copy
pub remains : (t : Cloning) (side : Side) (node owed : ℕ) (v q : View) → (ends_block v ≡ true → is_last t.starts (led_to v) ≡ true) →
    is_last t.starts (led_to v) ≡ false → IsSame t side owed v q → Passing t side node owed v q
remains t side node owed v q ends last same =
    Remains
    (false_from_ne_true (is_outlet t.weighty v) (λ o. both_ways (is_last t.starts (led_to v)) (outlet_last t.weighty t.starts v o ends) last))
    (λ e. absurd (both_ways (is_last t.starts (led_to v)) (ends e) last))
    same

pub in_owing : (t : Cloning) (side : Side) (node owed : ℕ) (v q : View) → mark_count v ≡ 0 → IsNodeInCopy t side node owed v q → IsOwing t side node owed v q
in_owing t side node owed (Marks site next) q m h = absurd (omega arith)
in_owing t side node owed v q m h = h

abbrev pub VisitCases : View → Type 0
VisitCases v = (mark_count v ≡ 0) ⊎ ((site next : ℕ) × (v ≡ Marks site next))

pub visit_cases : (v : View) → VisitCases v
visit_cases (Marks site next) = inr (site, next, refl)
visit_cases v = inl refl

-- a node of a copy passes the node that it stands for, pays what is owed, or tests a visit
pub data Inner (t : Cloning) (side : Side) (node : ℕ) (v q : View) : Type 0 where
  Passes : (owed : ℕ) → Passing t side node owed v q → Inner t side node v q
  Pays : (by place next : ℕ) → side ≡ Fast → q ≡ Skips by place → StandsForNode t side place next 0 → Inner t side node v q
  Looks : (site place next : ℕ) → side ≡ Slow → q ≡ Tests site place → StandsForNode t side place next 0 → Inner t side node v q

visit_inner : (t : Cloning) (side : Side) (node owed site next : ℕ) (v q : View) → IsVisit t side owed site next q → Inner t side node v q
visit_inner t Fast node owed site next v q h = Pays (owed + 1) h.0 next refl h.2 h.3
visit_inner t Slow node owed site next v q h = Looks site h.0 next refl h.1 h.2

owing_by : (t : Cloning) (node owed : ℕ) (v q : View) (b : Bool) → is_last t.starts (led_to v) ≡ b → (ends_block v ≡ true → is_last t.starts (led_to v) ≡ true) →
    MatchBool b ((m : ℕ) × (q ≡ Skips (suc owed) m) × StandsForNode t Fast m node 0) (IsSame t Fast (suc owed) v q) → Inner t Fast node v q
owing_by t node owed v q true e ends h = Pays (suc owed) h.0 node refl h.1 h.2
owing_by t node owed v q false e ends h = Passes (suc owed) (remains t Fast node (suc owed) v q ends e h)

owing_inner : (t : Cloning) (side : Side) (node owed : ℕ) (v q : View) → (ends_block v ≡ true → is_last t.starts (led_to v) ≡ true) → MayOwe side owed →
    IsOwing t side node owed v q → Inner t side node v q
owing_inner t side node zero v q ends may h = Passes 0 (free_passes t side node v q h)
owing_inner t Fast node (suc owed) v q ends may h = owing_by t node owed v q (is_last t.starts (led_to v)) refl ends h
owing_inner t Slow node (suc owed) v q ends may h = absurd (omega arith)

pub inner : (t : Cloning) (side : Side) (node owed : ℕ) (v q : View) → (ends_block v ≡ true → is_last t.starts (led_to v) ≡ true) → MayOwe side owed →
    IsNodeInCopy t side node owed v q → Inner t side node v q
inner t side node owed v q ends may h =
    elim (visit_cases v) as (λ _. Inner t side node v q) [
      | inl none ↦ owing_inner t side node owed v q ends may (in_owing t side node owed v q none h)
      | inr visit ↦ visit_inner t side node owed visit.0 visit.1 v q (subst (λ (w : View). IsNodeInCopy t side node owed w q) visit.2 h)
    ]
