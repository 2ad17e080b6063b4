-- What is owed is paid before control leaves the block.
use Rattle.std.proofs.Common.{◌≡◌, ℕ, zero, suc, ◌+◌, ◌-◌, ◌<◌, Bool, true, false, if◌then◌else◌, nat_lt, Some, refl, sym, ap, ◌∙◌, subst, arith}
use Rattle.std.specs.Bool.{MatchBool}
use Rattle.std.specs.List.{Contains}
use Rattle.std.proofs.lemmas.Bool.Decides.{nat_tests}
use Rattle.clone_paths.proofs.ChunkLemmas.{may_owe_none}
use Rattle.cbi_base.specs.declared.outcome.Outcome.TheVariants.{Trapped}
use Rattle.cbi_base.specs.declared.trap.Trap.TheVariants.{Internal}
use Rattle.flow.specs.declared.node.View.{View}
use Rattle.flow.specs.declared.node.View.TheVariants.{Skips}
use Rattle.flow.specs.Words.{visits_skipped, next_of, led_to, Next, On, State, run_ended}
use Rattle.regions.specs.Blocks.{ends_block}
use Rattle.weights.specs.Paths.{mark_count}
use Rattle.copied_nodes.specs.declared.label.CopyLabel.TheVariants.{In}
use Rattle.copied_nodes.specs.declared.label.Side.{Side}
use Rattle.clone_paths.specs.Form.{Here, IsNodeInCopy, IsOwing, IsSame, StandsForNode, MayOwe, Owed, is_last}
use Rattle.sampling.specs.Copies.{AreCopies, Copies, cloning}
use Rattle.sampling.specs.Follows.{OwnState, sampled_state}
use Rattle.sampling.proofs.Crossing.{Passing, all_last, free_passes, in_owing, remains}
use Rattle.sampling.proofs.Entering.{views}
use Rattle.sampling.proofs.Matching.{Matches}

ends_last : (t : Copies) (function node : ℕ) (v : View) → AreCopies t → t.weighty function ≡ true → t.full.at function node ≡ v →
    ends_block v ≡ true → is_last (t.starts function) (led_to v) ≡ true
ends_last t function node v are heavy e ends =
    all_last (t.starts function) (led_to v) (λ x h.
    are.ends function node x heavy (ap ends_block e ∙ ends) (subst (λ (w : View). Contains (led_to w) x) (sym e) h))

-- a node that visits no site has a node of its own in the copy
pub here_of : (t : Copies) (function : ℕ) (side : Side) (place node owed : ℕ) → StandsForNode (cloning t function) side place node owed →
    mark_count (t.full.at function node) ≡ 0 → t.label function place ≡ Some (In side node owed)
here_of t function side place node owed (Here e) m = e
here_of t function side place node owed (Owed site next fast at starts rest) m = let k = ap mark_count at in absurd (omega arith)

-- what the node in the copy is
owing_of : (t : Copies) (function : ℕ) (side : Side) (place node owed : ℕ) (v : View) → AreCopies t → t.weighty function ≡ true → t.full.at function node ≡ v →
    mark_count v ≡ 0 → StandsForNode (cloning t function) side place node owed → IsOwing (cloning t function) side node owed v (t.at function place)
owing_of t function side place node owed v are heavy e m l =
    let label = here_of t function side place node owed l (ap mark_count e ∙ m) in
    let r = are.each function place (In side node owed) heavy label in
    in_owing (cloning t function) side node owed v (t.at function place) m
    (subst (λ (w : View). IsNodeInCopy (cloning t function) side node owed w (t.at function place)) e r.1)

abbrev pub with_copy : OwnState → ℕ → ℕ → OwnState
with_copy own place count = record own { node = place; copy = Some count }

-- the countdown is lowered, and stays above zero
pub skip_by : (t : Copies) (a : Next) (s : State) (own : OwnState) (count by left place : ℕ) → 0 < left → count ≡ left + by →
    t.at s.function own.node ≡ Skips by place → Matches t a (On (sampled_state s (with_copy own place left))) →
    Matches t a (On (sampled_state s (record own { copy = Some count })))
unfolding next_of
skip_by t a s own count by left place some is e h =
    let lower : nat_lt by count ≡ true = grind (arith, nat_tests) in
    let minus : count - by ≡ left = omega arith in
    let skips : visits_skipped count by place (sampled_state s (record own { copy = Some count })) ≡ On (sampled_state s (with_copy own place left)) =
    ap (λ (b : Bool). if b then On (sampled_state s (with_copy own place (count - by))) else run_ended (Trapped Internal) (sampled_state s (record own { copy = Some count }))) lower
    ∙ ap (λ (k : ℕ). On (sampled_state s (with_copy own place k))) minus
    in
    views t a s (record own { copy = Some count }) (Skips by place) e (subst (λ (n : Next). Matches t a n) (sym skips) h)

-- the sampled program pays what it owes, where the block ends here, and then passes the node
abbrev pub Onward : Copies → Next → State → OwnState → Side → ℕ → View → Type 0
Onward t a s own side countdown v =
    (place owed : ℕ) → MayOwe side owed → Passing (cloning t s.function) side s.node owed v (t.at s.function place) → Matches t a (On (sampled_state s (with_copy own place (countdown + owed))))

settle_by : (t : Copies) (a : Next) (s : State) (own : OwnState) (side : Side) (countdown owed : ℕ) (v : View) (b : Bool) → AreCopies t → 0 < countdown →
    t.weighty s.function ≡ true → t.full.at s.function s.node ≡ v → mark_count v ≡ 0 → MayOwe side (suc owed) →
    is_last (t.starts s.function) (led_to v) ≡ b →
    MatchBool b ((m : ℕ) × (t.at s.function own.node ≡ Skips (suc owed) m) × StandsForNode (cloning t s.function) side m s.node 0)
    (IsSame (cloning t s.function) side (suc owed) v (t.at s.function own.node)) →
    Onward t a s own side countdown v → Matches t a (On (sampled_state s (with_copy own own.node (countdown + suc owed))))
settle_by t a s own side countdown owed v true are some heavy e m may last h go =
    let owing = owing_of t s.function side h.0 s.node 0 v are heavy e m h.2 in
    skip_by t a s own (countdown + suc owed) (suc owed) (countdown + 0) h.0 (omega arith) (omega arith) h.1
    (go h.0 0 (may_owe_none side) (free_passes (cloning t s.function) side s.node v (t.at s.function h.0) owing))
settle_by t a s own side countdown owed v false are some heavy e m may last h go =
    go own.node (suc owed) may
    (remains (cloning t s.function) side s.node (suc owed) v (t.at s.function own.node) (ends_last t s.function s.node v are heavy e) last h)

pub settle : (t : Copies) (a : Next) (s : State) (own : OwnState) (side : Side) (countdown owed : ℕ) (v : View) → AreCopies t → 0 < countdown →
    t.weighty s.function ≡ true → t.full.at s.function s.node ≡ v → mark_count v ≡ 0 → MayOwe side owed →
    StandsForNode (cloning t s.function) side own.node s.node owed → Onward t a s own side countdown v → Matches t a (On (sampled_state s (with_copy own own.node (countdown + owed))))
settle t a s own side countdown zero v are some heavy e m may l go =
    go own.node 0 may (free_passes (cloning t s.function) side s.node v (t.at s.function own.node) (owing_of t s.function side own.node s.node 0 v are heavy e m l))
settle t a s own side countdown (suc owed) v are some heavy e m may l go =
    settle_by t a s own side countdown owed v (is_last (t.starts s.function) (led_to v)) are some heavy e m may refl
    (owing_of t s.function side own.node s.node (suc owed) v are heavy e m l) go
