-- One step of the full program, and what the sampled one does meanwhile.
use Rattle.std.proofs.Common.{◌≡◌, inl, inr, ℕ, ◌+◌, Bool, false, ◌∷◌, Option, None, Some, refl, sym, ap, ◌∙◌, subst}
use Rattle.flow.specs.declared.node.View.{View}
use Rattle.flow.specs.declared.node.View.TheVariants.{Row, Halts, Forks, Turns, Calls, Gives, Quits, Marks, Nowhere}
use Rattle.flow.specs.Words.{call, has_result, params_of, caller_waiting, at_node, next_of, step, Now, value_taken, operands_taken, row_effect, IsPositive, Frame, On, State, IsPlain}
use Rattle.copied_nodes.specs.declared.label.CopyLabel.TheVariants.{In}
use Rattle.copied_nodes.specs.declared.label.Side.{Side}
use Rattle.clone_paths.specs.Form.{Here, IsNodeInCopy, IsVisit, StandsForNode, Owed}
use Rattle.sampling.specs.Copies.{AreCopies, Copies, cloning}
use Rattle.sampling.specs.Follows.{Copied, Follows, OwnState, Returns, Spot, RunsBeside, Waits, Weightless, sampled_state}
use Rattle.sampling.specs.Tally.{Tally}
use Rattle.sampling.proofs.Crossing.{visit_cases}
use Rattle.sampling.proofs.Entering.{Rest, at_entry, give_by, quit_by, views}
use Rattle.sampling.proofs.Matching.{Matches, call_by, fork_by, halt_by, internal, put_off, row_by, spend_by, stays}
use Rattle.sampling.proofs.Passing.{Within, pass_by}
use Rattle.sampling.proofs.Settling.{settle, with_copy}
use Rattle.sampling.proofs.Visits.{owed_visit, visit_by}

-- a node that has a node of its own in the copy
here_by : (t : Copies) (s : State) (own : OwnState) (side : Side) (countdown owed : ℕ) (v : View) → IsPositive t.full.bank → Within t s own side countdown owed v →
    t.label s.function own.node ≡ Some (In side s.node owed) →
    Matches t (next_of t.full v s) (On (sampled_state s (with_copy own own.node (countdown + owed))))
unfolding next_of
here_by t s own side countdown owed v positive w label =
    elim (visit_cases v) as (λ _. Matches t (next_of t.full v s) (On (sampled_state s (with_copy own own.node (countdown + owed))))) [
      | inl none ↦
          settle t (next_of t.full v s) s own side countdown owed v w.are w.tally.ahead w.heavy w.at none w.may (Here label)
          (λ place left may passing. pass_by t s own side countdown left place v
          (record { are = w.are; tally = w.tally; heavy = w.heavy; at = w.at; may = may; run = w.run; returns = w.returns }) passing)
      | inr visit ↦
          let r = w.are.each s.function own.node (In side s.node owed) w.heavy label in
          let at = w.at ∙ visit.2 in
          let is : IsVisit (cloning t s.function) side owed visit.0 visit.1 (t.at s.function own.node) =
          subst (λ (x : View). IsNodeInCopy (cloning t s.function) side s.node owed x (t.at s.function own.node)) at r.1
          in
          subst (λ (x : View). Matches t (next_of t.full x s) (On (sampled_state s (with_copy own own.node (countdown + owed))))) (sym visit.2)
          (visit_by t s own side countdown owed visit.0 visit.1
          (record { are = w.are; tally = w.tally; heavy = w.heavy; at = at; may = w.may; run = w.run; returns = w.returns }) positive is)
    ]

-- within a copy, by what stands for the node
copied_by : (t : Copies) (s : State) (own : OwnState) (side : Side) (countdown node owed : ℕ) → IsPositive t.full.bank →
    Within t (record s { node = node }) own side countdown owed (t.full.at s.function node) → StandsForNode (cloning t s.function) side own.node node owed →
    Matches t (next_of t.full (t.full.at s.function node) (record s { node = node })) (On (sampled_state s (with_copy own own.node (countdown + owed))))
unfolding next_of
copied_by t s own side countdown node owed positive w (Here label) =
    here_by t (record s { node = node }) own side countdown owed (t.full.at s.function node) positive w label
copied_by t s own side countdown node owed positive w (Owed site next fast at starts rest) =
    subst (λ (v : View). Matches t (next_of t.full v (record s { node = node })) (On (sampled_state s (with_copy own own.node (countdown + owed))))) (sym at)
    (owed_visit t (record s { node = node }) own side countdown owed site next
    (record { are = w.are; tally = w.tally; heavy = w.heavy; at = at; may = w.may; run = w.run; returns = w.returns }) positive fast rest)

-- what is known of a weightless function that runs
pub record Lightly (t : Copies) (s : State) (own : OwnState) (countdown : ℕ) (v : View) : Type 0 where
  pub are : AreCopies t
  pub tally : Tally t.full.bank s.watch.seen own.watch.seen countdown own.watch.drawn
  pub light : t.weighty s.function ≡ false
  pub at : t.full.at s.function s.node ≡ v
  pub also : t.at s.function own.node ≡ v
  pub copy : own.copy ≡ None
  pub waits : Waits t countdown own.watch.countdown s.below own.spots

light_follow : (t : Copies) (s : State) (own : OwnState) (countdown next turns : ℕ) (v : View) → Lightly t s own countdown v →
    Follows t (record s { node = next; turns = turns }) (record own { node = next })
light_follow t s own countdown next turns v w =
    record { countdown = countdown; tally = w.tally; stands = Weightless w.light refl w.copy w.waits }

light_call : (t : Copies) (s : State) (own : OwnState) (countdown function next : ℕ) (d : Now) → Lightly t s own countdown (Calls function next) →
    Rest t countdown own.watch.countdown (record { function = s.function; node = next; operands = d.operands; locals = d.locals; copy = s.copy } ∷ s.below)
    (record { node = next; copy = own.copy } ∷ own.spots) (t.weighty function)
light_call t s own countdown function next d w =
    let light = w.are.calls s.function s.node function next w.light w.at in
    let stands : RunsBeside t countdown s.function next next own.copy (Returns t s.below own.spots) (Waits t countdown own.watch.countdown s.below own.spots) =
    Weightless w.light refl w.copy w.waits
    in
    let frame : Frame = record { function = s.function; node = next; operands = d.operands; locals = d.locals; copy = s.copy } in
    let spot : Spot = record { node = next; copy = own.copy } in
    subst (λ (b : Bool). Rest t countdown own.watch.countdown (frame ∷ s.below) (spot ∷ own.spots) b) (sym light) stands

-- a weightless function does the same
light_by : (t : Copies) (s : State) (own : OwnState) (countdown : ℕ) (v : View) → Lightly t s own countdown v → Matches t (next_of t.full v s) (On (sampled_state s own))
unfolding next_of
light_by t s own countdown (Row op next) w =
    views t (next_of t.full (Row op next) s) s own (Row op next) w.also
    (row_by t s own next next (row_effect t.full.statics op s.now) (light_follow t s own countdown next s.turns (Row op next) w))
light_by t s own countdown (Halts op) w =
    views t (next_of t.full (Halts op) s) s own (Halts op) w.also (halt_by t s own countdown (row_effect t.full.statics op s.now) w.tally)
light_by t s own countdown (Forks a b) w =
    views t (next_of t.full (Forks a b) s) s own (Forks a b) w.also
    (fork_by t s own a b a b (value_taken s.now) (light_follow t s own countdown a s.turns (Forks a b) w) (light_follow t s own countdown b s.turns (Forks a b) w))
light_by t s own countdown (Turns next) w =
    views t (next_of t.full (Turns next) s) s own (Turns next) w.also
    (spend_by t s own countdown s.turns (λ u. On (at_node next u)) (λ u. On (at_node next u)) w.tally
    (λ left. stays t (record s { node = next; turns = left }) (record own { node = next }) (light_follow t s own countdown next left (Turns next) w)))
light_by t s own countdown (Calls function next) w =
    views t (next_of t.full (Calls function next) s) s own (Calls function next) w.also
    (spend_by t s own countdown s.turns (call (t.full.callee function) function next) (call (t.full.callee function) function next) w.tally
    (λ left. call_by t (record s { turns = left }) own countdown function next next (t.full.callee function)
    (operands_taken (params_of (t.full.callee function)) s.now) w.tally
    (λ d. at_entry t (caller_waiting next d (record s { turns = left })) (put_off next own) countdown function w.are w.tally
    (light_call t s own countdown function next d w))))
light_by t s own countdown Gives w =
    views t (next_of t.full Gives s) s own Gives w.also
    (give_by t s own countdown (has_result (t.full.callee s.function)) (value_taken s.now) false w.are w.tally w.waits)
light_by t s own countdown Quits w =
    views t (next_of t.full Quits s) s own Quits w.also
    (quit_by t s own countdown (has_result (t.full.callee s.function)) s.below own.spots false w.are w.tally w.waits)
light_by t s own countdown (Marks site next) w = absurd (w.are.unmarked s.function s.node site next w.light w.at)
light_by t s own countdown Nowhere w = internal t s (On (sampled_state s own))
light_by t s own countdown v w = absurd (subst IsPlain w.at (w.are.plain s.function s.node))

-- each step of the full program is followed
stands_by : (t : Copies) (s : State) (own : OwnState) (countdown : ℕ) → AreCopies t → IsPositive t.full.bank →
    Tally t.full.bank s.watch.seen own.watch.seen countdown own.watch.drawn →
    RunsBeside t countdown s.function s.node own.node own.copy (Returns t s.below own.spots) (Waits t countdown own.watch.countdown s.below own.spots) →
    Matches t (step t.full s) (On (sampled_state s own))
stands_by t s own countdown are positive tally (Copied side owed heavy may label copy run returns) =
    subst (λ (c : Option ℕ). Matches t (step t.full s) (On (sampled_state s (record own { copy = c })))) (sym copy)
    (copied_by t s own side countdown s.node owed positive
    (record { are = are; tally = tally; heavy = heavy; at = refl; may = may; run = run; returns = returns }) label)
stands_by t s own countdown are positive tally (Weightless light place copy waits) =
    light_by t s own countdown (t.full.at s.function s.node) (record {
      are = are;
      tally = tally;
      light = light;
      at = refl;
      also = ap (t.at s.function) place ∙ are.same s.function s.node light;
      copy = copy;
      waits = waits;
    })

pub followed : (t : Copies) (s : State) (own : OwnState) → AreCopies t → IsPositive t.full.bank → Follows t s own → Matches t (step t.full s) (On (sampled_state s own))
followed t s own are positive f = stands_by t s own f.countdown are positive f.tally f.stands
