-- Control passes a node of a copy: it stays in the copy, or it leaves it by an outlet.
use Rattle.std.proofs.Common.{◌≡◌, ℕ, ◌+◌, Bool, true, false, if◌then◌else◌, [], ◌∷◌, None, Some, refl, sym, ap, subst, arith}
use Rattle.std.specs.List.{Contains}
use Rattle.base_lists.proofs.Every.{first_in, second_in}
use Rattle.flow.specs.declared.node.View.{View}
use Rattle.flow.specs.declared.node.View.TheVariants.{Row, Halts, Forks, Turns, Calls, Gives, Quits, Exports}
use Rattle.flow.specs.Words.{call, has_result, params_of, caller_waiting, at_node, next_of, Now, value_taken, operands_taken, row_effect, Frame, On, State}
use Rattle.regions.specs.Blocks.{ends_block}
use Rattle.weights.specs.Paths.{mark_count, next_nodes}
use Rattle.copied_nodes.specs.declared.label.CopyLabel.TheVariants.{Back, Out}
use Rattle.copied_nodes.specs.declared.label.Side.{Side}
use Rattle.copied_nodes.specs.declared.label.Side.TheVariants.{Fast, Slow}
use Rattle.clone_paths.specs.Form.{IsOutletInCopy, IsSame, StandsForNode, MayOwe, is_outlet}
use Rattle.sampling.specs.Copies.{AreCopies, Copies, cloning}
use Rattle.sampling.specs.Follows.{Copied, Follows, IsAbove, MayRun, OwnState, Returns, Spot, RunsBeside, Waits, sampled_state}
use Rattle.sampling.specs.Tally.{Tally}
use Rattle.sampling.proofs.Entering.{Rest, at_entry, at_gate, give_by, quit_by, views}
use Rattle.sampling.proofs.Matching.{Matches, call_by, fork_by, halt_by, put_off, row_by, spend_by}
use Rattle.sampling.proofs.Crossing.{Leaves, Passing, Remains}
use Rattle.sampling.proofs.Settling.{with_copy}

-- the countdown stays above what the paths from the next node visit
above_next : (t : Copies) (function node next countdown left : ℕ) (v : View) → t.full.at function node ≡ v → Contains (next_nodes t.weighty v) next →
    countdown ≡ mark_count v + left → IsAbove t countdown function node → IsAbove t left function next
above_next t function node next countdown left v e c is above =
    λ rest path.
    let there = subst (λ (w : View). Contains (next_nodes t.weighty w) next) (sym e) c in
    let m = above (next ∷ rest) (there, path) in
    let k = ap mark_count e in
    omega arith

pub run_next : (t : Copies) (side : Side) (function node next countdown left : ℕ) (v : View) → t.full.at function node ≡ v →
    Contains (next_nodes t.weighty v) next → countdown ≡ mark_count v + left → MayRun side t countdown function node → MayRun side t left function next
run_next t Fast function node next countdown left v e c is above = above_next t function node next countdown left v e c is above
run_next t Slow function node next countdown left v e c is above = tt

-- what is known of a function that runs within a copy, at this node
pub record Within (t : Copies) (s : State) (own : OwnState) (side : Side) (countdown owed : ℕ) (v : View) : Type 0 where
  pub are : AreCopies t
  pub tally : Tally t.full.bank s.watch.seen own.watch.seen countdown own.watch.drawn
  pub heavy : t.weighty s.function ≡ true
  pub at : t.full.at s.function s.node ≡ v
  pub may : MayOwe side owed
  pub run : MayRun side t countdown s.function s.node
  pub returns : Returns t s.below own.spots

-- the next node of the copy
follow : (t : Copies) (s : State) (own : OwnState) (side : Side) (countdown owed next place : ℕ) (v : View) → Within t s own side countdown owed v →
    mark_count v ≡ 0 → Contains (next_nodes t.weighty v) next → StandsForNode (cloning t s.function) side place next owed →
    Follows t (record s { node = next }) (with_copy own place (countdown + owed))
follow t s own side countdown owed next place v w m c l = record {
  countdown = countdown;
  tally = w.tally;
  stands = Copied side owed w.heavy w.may l refl (run_next t side s.function s.node next countdown countdown v w.at c (omega arith) w.run) w.returns;
}

tally_at : (t : Copies) (s : State) (own : OwnState) (countdown owed : ℕ) → owed ≡ 0 → Tally t.full.bank s.watch.seen own.watch.seen countdown own.watch.drawn →
    Tally t.full.bank s.watch.seen own.watch.seen (countdown + owed) own.watch.drawn
tally_at t s own countdown owed z tally =
    let e : countdown ≡ countdown + owed = omega arith in
    subst (λ (k : ℕ). Tally t.full.bank s.watch.seen own.watch.seen k own.watch.drawn) e tally

after_call : (b : Bool) (next : ℕ) → b ≡ false → Contains (if b then [] else next ∷ []) next
after_call true next e = cc
after_call false next e = first_in next []

-- a caller that waits for a weightless function
wait_light : (t : Copies) (s : State) (own : OwnState) (side : Side) (countdown owed next m function place : ℕ) (d : Now) →
    Within t s own side countdown owed (Calls function next) → t.weighty function ≡ false → StandsForNode (cloning t s.function) side m next owed →
    Rest t countdown own.watch.countdown (record { function = s.function; node = next; operands = d.operands; locals = d.locals; copy = s.copy } ∷ s.below)
    (record { node = m; copy = Some (countdown + owed) } ∷ own.spots) (t.weighty function)
wait_light t s own side countdown owed next m function place d w light l =
    let stands : RunsBeside t countdown s.function next m (Some (countdown + owed)) (Returns t s.below own.spots) (Waits t countdown own.watch.countdown s.below own.spots) =
    Copied side owed w.heavy w.may l refl
    (run_next t side s.function s.node next countdown countdown (Calls function next) w.at (after_call (t.weighty function) next light) (omega arith) w.run)
    w.returns
    in
    let frame : Frame = record { function = s.function; node = next; operands = d.operands; locals = d.locals; copy = s.copy } in
    let spot : Spot = record { node = m; copy = Some (countdown + owed) } in
    subst (λ (b : Bool). Rest t countdown own.watch.countdown (frame ∷ s.below) (spot ∷ own.spots) b) (sym light) stands

-- control stays within the copy
remain_by : (t : Copies) (s : State) (own : OwnState) (side : Side) (countdown owed place : ℕ) (v : View) → Within t s own side countdown owed v →
    is_outlet t.weighty v ≡ false → (ends_block v ≡ true → owed ≡ 0) → IsSame (cloning t s.function) side owed v (t.at s.function place) →
    Matches t (next_of t.full v s) (On (sampled_state s (with_copy own place (countdown + owed))))
unfolding next_of
remain_by t s own side countdown owed place (Row op next) w o ends h =
    views t (next_of t.full (Row op next) s) s (with_copy own place (countdown + owed)) (Row op h.0) h.1
    (row_by t s (with_copy own place (countdown + owed)) next h.0 (row_effect t.full.statics op s.now)
    (follow t s own side countdown owed next h.0 (Row op next) w refl (first_in next []) h.2))
remain_by t s own side countdown owed place (Halts op) w o ends h =
    views t (next_of t.full (Halts op) s) s (with_copy own place (countdown + owed)) (Halts op) h
    (halt_by t s (with_copy own place (countdown + owed)) countdown (row_effect t.full.statics op s.now) w.tally)
remain_by t s own side countdown owed place (Forks a b) w o ends h =
    views t (next_of t.full (Forks a b) s) s (with_copy own place (countdown + owed)) (Forks h.0 h.1) h.2
    (fork_by t s (with_copy own place (countdown + owed)) a b h.0 h.1 (value_taken s.now)
    (follow t s own side countdown owed a h.0 (Forks a b) w refl (first_in a (b ∷ [])) h.3)
    (follow t s own side countdown owed b h.1 (Forks a b) w refl (second_in a b []) h.4))
remain_by t s own side countdown owed place (Turns next) w o ends h =
    views t (next_of t.full (Turns next) s) s (with_copy own place (countdown + owed)) (Turns h.0) h.1
    (spend_by t s (with_copy own place (countdown + owed)) countdown s.turns (λ u. On (at_node next u)) (λ u. On (at_node h.0 u)) w.tally
    (λ left. at_gate t (record s { node = next; turns = left }) (record own { node = h.0 }) (countdown + owed) w.are
    (tally_at t s own countdown owed (ends refl) w.tally) w.heavy h.2 w.returns))
remain_by t s own side countdown owed place (Calls function next) w o ends h =
    let c = countdown + owed in
    views t (next_of t.full (Calls function next) s) s (with_copy own place c) (Calls function h.0) h.1
    (spend_by t s (with_copy own place c) countdown s.turns
    (call (t.full.callee function) function next) (call (t.full.callee function) function h.0) w.tally
    (λ left. call_by t (record s { turns = left }) (with_copy own place c) countdown function next h.0 (t.full.callee function)
    (operands_taken (params_of (t.full.callee function)) s.now) w.tally
    (λ d. at_entry t (caller_waiting next d (record s { turns = left })) (put_off h.0 (with_copy own place c)) countdown function w.are w.tally
    (wait_light t s own side countdown owed next h.0 function place d w o h.2))))
remain_by t s own side countdown owed place v w o ends h = absurd h

-- the copy of the countdown was given back
abbrev pub given_back : OwnState → ℕ → ℕ → OwnState
given_back own place count = record own { node = place; copy = None; watch = record own.watch { countdown = count } }

-- and for a weighty one
wait_heavy : (t : Copies) (s : State) (own : OwnState) (count next m function : ℕ) (d : Now) → t.weighty s.function ≡ true → Returns t s.below own.spots →
    t.weighty function ≡ true → t.label s.function m ≡ Some (Back next) →
    Rest t count count (record { function = s.function; node = next; operands = d.operands; locals = d.locals; copy = s.copy } ∷ s.below)
    (record { node = m; copy = None } ∷ own.spots) (t.weighty function)
wait_heavy t s own count next m function d heavy returns callee label =
    let frame : Frame = record { function = s.function; node = next; operands = d.operands; locals = d.locals; copy = s.copy } in
    let spot : Spot = record { node = m; copy = None } in
    subst (λ (b : Bool). Rest t count count (frame ∷ s.below) (spot ∷ own.spots) b) (sym callee) (refl, (heavy, label, refl, returns))

-- the outlet itself
out_by : (t : Copies) (s : State) (own : OwnState) (count place : ℕ) (v : View) → AreCopies t → Tally t.full.bank s.watch.seen own.watch.seen count own.watch.drawn →
    t.weighty s.function ≡ true → Returns t s.below own.spots → is_outlet t.weighty v ≡ true → IsOutletInCopy (cloning t s.function) v (t.at s.function place) →
    Matches t (next_of t.full v s) (On (sampled_state s (given_back own place count)))
unfolding next_of
out_by t s own count place Gives are tally heavy returns o h =
    views t (next_of t.full Gives s) s (given_back own place count) Gives h
    (give_by t s (given_back own place count) count (has_result (t.full.callee s.function)) (value_taken s.now) true are tally (refl, returns))
out_by t s own count place Quits are tally heavy returns o h =
    views t (next_of t.full Quits s) s (given_back own place count) Quits h
    (quit_by t s (given_back own place count) count (has_result (t.full.callee s.function)) s.below own.spots true are tally (refl, returns))
out_by t s own count place (Calls function next) are tally heavy returns o h =
    views t (next_of t.full (Calls function next) s) s (given_back own place count) (Calls function h.0) h.1
    (spend_by t s (given_back own place count) count s.turns
    (call (t.full.callee function) function next) (call (t.full.callee function) function h.0) tally
    (λ left. call_by t (record s { turns = left }) (given_back own place count) count function next h.0 (t.full.callee function)
    (operands_taken (params_of (t.full.callee function)) s.now) tally
    (λ d. at_entry t (caller_waiting next d (record s { turns = left })) (put_off h.0 (given_back own place count)) count function are tally
    (wait_heavy t s own count next h.0 function d heavy returns o h.2))))
out_by t s own count place v are tally heavy returns o h = cc

pub pass_by : (t : Copies) (s : State) (own : OwnState) (side : Side) (countdown owed place : ℕ) (v : View) → Within t s own side countdown owed v →
    Passing (cloning t s.function) side s.node owed v (t.at s.function place) →
    Matches t (next_of t.full v s) (On (sampled_state s (with_copy own place (countdown + owed))))
unfolding next_of
pass_by t s own side countdown owed place v w (Leaves m z o q label) =
    let out = w.are.each s.function m (Out side s.node) w.heavy label in
    let is : IsOutletInCopy (cloning t s.function) v (t.at s.function m) = subst (λ (x : View). IsOutletInCopy (cloning t s.function) x (t.at s.function m)) w.at out.1 in
    views t (next_of t.full v s) s (with_copy own place (countdown + owed)) (Exports m) q
    (out_by t s own (countdown + owed) m v w.are (tally_at t s own countdown owed z w.tally) w.heavy w.returns o is)
pass_by t s own side countdown owed place v w (Remains o ends same) = remain_by t s own side countdown owed place v w o ends same
