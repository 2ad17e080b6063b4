-- The visit of a site: in the fast copy the countdown is lowered, at once or later; in the slow copy it is tested.
use Rattle.std.proofs.Common.{◌≡◌, inl, inr, ℕ, zero, suc, ◌+◌, ◌-◌, ◌++◌, ◌<◌, true, [], ◌∷◌, Some, Result, Ok, Err, refl, sym, ap, subst, arith}
use Rattle.cbi_base.specs.declared.observation.Seen.{Seen}
use Rattle.cbi_base.specs.declared.outcome.Outcome.TheVariants.{Trapped}
use Rattle.cbi_base.specs.declared.trap.Trap.{Trap}
use Rattle.flow.specs.declared.node.View.TheVariants.{Forks, Marks, Skips, Tests}
use Rattle.flow.specs.Words.{at_node, countdown_lowered, seen_or_trapped, countdown_drawn, with_seen, with_test, next_of, IsPositive, Next, On, State, run_ended, sees_now}
use Rattle.weights.specs.Paths.{mark_count}
use Rattle.copied_nodes.specs.declared.label.Side.{Side}
use Rattle.copied_nodes.specs.declared.label.Side.TheVariants.{Fast, Slow}
use Rattle.clone_paths.specs.Form.{IsVisit, StandsForNode, MayOwe}
use Rattle.sampling.specs.Copies.{AreCopies, Copies, cloning, sampled_code}
use Rattle.sampling.specs.Follows.{Copied, IsAbove, MayRun, OwnState, Returns, sampled_state}
use Rattle.sampling.specs.Tally.{Tally}
use Rattle.sampling.proofs.Entering.{no_debt, views}
use Rattle.sampling.proofs.Crossing.{Leaves, Passing, Remains}
use Rattle.sampling.proofs.Faults.{ForkTraps, unseen}
use Rattle.sampling.proofs.Matching.{Matches, over_both, stays}
use Rattle.sampling.proofs.Passing.{Within, run_next}
use Rattle.sampling.proofs.Settling.{settle, skip_by, with_copy}
use Rattle.sampling.proofs.Tallies.{tally_hit, tally_miss}

-- the fork traps in the copy too
fault_passes : (t : Copies) (s : State) (own : OwnState) (side : Side) (countdown owed count place next a b : ℕ) (trap : Trap) →
    Tally t.full.bank s.watch.seen own.watch.seen countdown own.watch.drawn → ForkTraps s.now.operands s.now trap →
    Passing (cloning t s.function) side next owed (Forks a b) (t.at s.function place) →
    Matches t (run_ended (Trapped trap) s) (On (sampled_state s (with_copy own place count)))
unfolding next_of
fault_passes t s own side countdown owed count place next a b trap tally traps (Leaves m z o q label) = cc
fault_passes t s own side countdown owed count place next a b trap tally traps (Remains o ends h) =
    views t (run_ended (Trapped trap) s) s (with_copy own place count) (Forks h.0 h.1) h.2
    (subst (λ (n : Next). Matches t (run_ended (Trapped trap) s) n) (sym (traps h.0 h.1 (sampled_state s (with_copy own place count))))
    (over_both t s (with_copy own place count) countdown (Trapped trap) tally))

-- what is known where the node after a visit stands in the copy: the countdown that is left, and what is owed there
pub record After (t : Copies) (s : State) (own : OwnState) (side : Side) (count owed site next : ℕ) : Type 0 where
  pub are : AreCopies t
  pub positive : IsPositive t.full.bank
  pub heavy : t.weighty s.function ≡ true
  pub at : t.full.at s.function s.node ≡ Marks site next
  pub may : MayOwe side owed
  pub run : MayRun side t (suc count) s.function next
  pub returns : Returns t s.below own.spots
  pub label : StandsForNode (cloning t s.function) side own.node next owed

unseen_by : (t : Copies) (s : State) (own : OwnState) (side : Side) (countdown count owed site next : ℕ) (trap : Trap) → After t s own side count owed site next →
    Tally t.full.bank s.watch.seen own.watch.seen countdown own.watch.drawn → sees_now (t.full.site site) s.now ≡ Err trap →
    Matches t (run_ended (Trapped trap) s) (On (sampled_state s (with_copy own own.node (suc count + owed))))
unseen_by t s own side countdown count owed site next trap a tally e =
    elim (unseen (t.full.site site) s.now trap e) as (λ _. Matches t (run_ended (Trapped trap) s) (On (sampled_state s (with_copy own own.node (suc count + owed))))) [
      | inl internal ↦ λ no. absurd (no (ap (λ (x : Trap). Trapped x) internal))
      | inr traps ↦
          let fork = a.are.branches s.function s.node site next a.at traps.0 in
          settle t (run_ended (Trapped trap) s) (record s { node = next }) own side (suc count) owed (Forks fork.0 fork.1) a.are (omega arith) a.heavy fork.2 refl
          a.may a.label
          (λ place left may passing. fault_passes t s own side countdown left (suc count + left) place next fork.0 fork.1 trap tally traps.1 passing)
    ]

-- a visit that is not sampled
pub missed : (t : Copies) (s : State) (own : OwnState) (side : Side) (count owed site next : ℕ) (r : Result Seen Trap) → After t s own side count owed site next →
    Tally t.full.bank s.watch.seen own.watch.seen (suc (suc count)) own.watch.drawn → sees_now (t.full.site site) s.now ≡ r →
    Matches t (seen_or_trapped r site s (λ u. On (at_node next u))) (On (sampled_state s (with_copy own own.node (suc count + owed))))
missed t s own side count owed site next (Ok seen) a tally e =
    stays t (at_node next (with_seen site seen s)) (with_copy own own.node (suc count + owed)) (record {
      countdown = suc count;
      tally = tally_miss t.full.bank s.watch.seen own.watch.seen (record { site = site; seen = seen }) count own.watch.drawn a.positive tally;
      stands = Copied side owed a.heavy a.may a.label refl a.run a.returns;
    })
missed t s own side count owed site next (Err trap) a tally e = unseen_by t s own side (suc (suc count)) count owed site next trap a tally e

recount : (t : Copies) (a : Next) (s : State) (own : OwnState) (place m n : ℕ) → m ≡ n → Matches t a (On (sampled_state s (with_copy own place m))) →
    Matches t a (On (sampled_state s (with_copy own place n)))
recount t a s own place m n e h = subst (λ (k : ℕ). Matches t a (On (sampled_state s (with_copy own place k)))) e h

-- one more test
abbrev pub tested : OwnState → OwnState
tested own = record own { watch = record own.watch { work = record own.watch.work { tests = own.watch.work.tests + 1 } } }

-- a visit that is sampled, and the next number that is drawn
abbrev pub drew : Copies → OwnState → ℕ → ℕ → Seen → OwnState
drew t own place site seen = record own {
  node = place;
  copy = Some (t.full.bank own.watch.drawn);
  watch = record own.watch {
    seen = own.watch.seen ++ record { site = site; seen = seen } ∷ [];
    drawn = own.watch.drawn + 1;
    work = record own.watch.work { tests = own.watch.work.tests + 1 };
  };
}

hit : (t : Copies) (s : State) (own : OwnState) (place site next : ℕ) (r : Result Seen Trap) → AreCopies t → IsPositive t.full.bank →
    Tally t.full.bank s.watch.seen own.watch.seen 1 own.watch.drawn → t.weighty s.function ≡ true → Returns t s.below own.spots →
    StandsForNode (cloning t s.function) Slow place next 0 → sees_now (t.full.site site) s.now ≡ r →
    Matches t (seen_or_trapped r site s (λ u. On (at_node next u))) (countdown_lowered zero (sampled_code t) site place (with_test (sampled_state s (record own { copy = Some 1 }))))
hit t s own place site next (Ok seen) are positive tally heavy returns label e =
    let stays_on : Matches t (On (at_node next (with_seen site seen s))) (On (sampled_state (at_node next (with_seen site seen s)) (drew t own place site seen))) =
    stays t (at_node next (with_seen site seen s)) (drew t own place site seen) (record {
      countdown = t.full.bank own.watch.drawn;
      tally = tally_hit t.full.bank s.watch.seen own.watch.seen (record { site = site; seen = seen }) own.watch.drawn positive tally;
      stands = Copied Slow 0 heavy refl label (no_debt (t.full.bank own.watch.drawn)) tt returns;
    })
    in
    subst (λ (x : Result Seen Trap). Matches t (On (at_node next (with_seen site seen s)))
    (seen_or_trapped x site (record (sampled_state s (tested own)) { copy = Some 0 }) (λ v. On (at_node place (countdown_drawn (sampled_code t) v))))) (sym e) stays_on
hit t s own place site next (Err trap) are positive tally heavy returns label e =
    subst (λ (x : Result Seen Trap). Matches t (run_ended (Trapped trap) s)
    (seen_or_trapped x site (record (sampled_state s (tested own)) { copy = Some 0 }) (λ v. On (at_node place (countdown_drawn (sampled_code t) v))))) (sym e)
    (over_both t s (record (tested own) { copy = Some 0 }) 1 (Trapped trap) tally)

-- the visit is tested
slow_visit : (t : Copies) (s : State) (own : OwnState) (count place site next : ℕ) → AreCopies t → IsPositive t.full.bank →
    Tally t.full.bank s.watch.seen own.watch.seen (suc count) own.watch.drawn → t.weighty s.function ≡ true → t.full.at s.function s.node ≡ Marks site next →
    Returns t s.below own.spots → StandsForNode (cloning t s.function) Slow place next 0 →
    Matches t (seen_or_trapped (sees_now (t.full.site site) s.now) site s (λ u. On (at_node next u)))
    (countdown_lowered count (sampled_code t) site place (with_test (sampled_state s (record own { copy = Some (suc count) }))))
slow_visit t s own zero place site next are positive tally heavy at returns label =
    hit t s own place site next (sees_now (t.full.site site) s.now) are positive tally heavy returns label refl
slow_visit t s own (suc count) place site next are positive tally heavy at returns label =
    recount t (seen_or_trapped (sees_now (t.full.site site) s.now) site s (λ u. On (at_node next u))) s (tested own) place (suc count + 0) (suc count) (omega arith)
    (missed t s (record (tested own) { node = place }) Slow count 0 site next (sees_now (t.full.site site) s.now)
    (record { are = are; positive = positive; heavy = heavy; at = at; may = refl; run = tt; returns = returns; label = label }) tally refl)

-- the countdown is one above another number
before : (n : ℕ) → 0 < n → (k : ℕ) × (n ≡ suc k)
before zero l = absurd (omega arith)
before (suc k) l = (k, refl)

-- above the visit and what follows it
enough : (t : Copies) (function node site next countdown : ℕ) → t.full.at function node ≡ Marks site next → IsAbove t countdown function node → 1 < countdown
enough t function node site next countdown e above = let m = above [] tt in let k = ap mark_count e in omega arith

two_before : (n : ℕ) → 1 < n → (k : ℕ) × (n ≡ suc (suc k))
two_before zero l = absurd (omega arith)
two_before (suc zero) l = absurd (omega arith)
two_before (suc (suc k)) l = (k, refl)

tally_to : (t : Copies) (s : State) (own : OwnState) (m n : ℕ) → m ≡ n → Tally t.full.bank s.watch.seen own.watch.seen m own.watch.drawn →
    Tally t.full.bank s.watch.seen own.watch.seen n own.watch.drawn
tally_to t s own m n e tally = subst (λ (k : ℕ). Tally t.full.bank s.watch.seen own.watch.seen k own.watch.drawn) e tally

-- after a visit in the fast copy
after_fast : (t : Copies) (s : State) (own : OwnState) (side : Side) (countdown count owed left site next : ℕ) → Within t s own side countdown owed (Marks site next) →
    IsPositive t.full.bank → countdown ≡ suc (suc count) → MayOwe side left → StandsForNode (cloning t s.function) side own.node next left →
    After t s own side count left site next
after_fast t s own side countdown count owed left site next w positive e may label = record {
  are = w.are;
  positive = positive;
  heavy = w.heavy;
  at = w.at;
  may = may;
  run = run_next t side s.function s.node next countdown (suc count) (Marks site next) w.at (0, omega arith, refl) (omega arith) w.run;
  returns = w.returns;
  label = label;
}

abbrev pub seen_next : Copies → State → ℕ → ℕ → Next
seen_next t s site next = seen_or_trapped (sees_now (t.full.site site) s.now) site s (λ u. On (at_node next u))

fast_count : (t : Copies) (s : State) (own : OwnState) (side : Side) (countdown owed site next : ℕ) → Within t s own side countdown owed (Marks site next) → side ≡ Fast →
    (k : ℕ) × (countdown ≡ suc (suc k))
fast_count t s own side countdown owed site next w fast =
    let above : MayRun Fast t countdown s.function s.node = subst (λ (x : Side). MayRun x t countdown s.function s.node) fast w.run in
    two_before countdown (enough t s.function s.node site next countdown w.at above)

-- a visit within a block of the fast copy: what it owes is paid later
pub owed_visit : (t : Copies) (s : State) (own : OwnState) (side : Side) (countdown owed site next : ℕ) → Within t s own side countdown owed (Marks site next) →
    IsPositive t.full.bank → side ≡ Fast → StandsForNode (cloning t s.function) side own.node next (suc owed) →
    Matches t (seen_next t s site next) (On (sampled_state s (with_copy own own.node (countdown + owed))))
owed_visit t s own side countdown owed site next w positive fast label =
    let k = fast_count t s own side countdown owed site next w fast in
    let may : MayOwe side (suc owed) = subst (λ (x : Side). MayOwe x (suc owed)) (sym fast) tt in
    let more : suc k.0 + suc owed ≡ countdown + owed = omega (arith, k.1) in
    recount t (seen_next t s site next) s own own.node (suc k.0 + suc owed) (countdown + owed) more
    (missed t s own side k.0 (suc owed) site next (sees_now (t.full.site site) s.now)
    (after_fast t s own side countdown k.0 owed (suc owed) site next w positive k.1 may label)
    (tally_to t s own countdown (suc (suc k.0)) k.1 w.tally) refl)

-- a visit at the end of a block of the fast copy
last_visit : (t : Copies) (s : State) (own : OwnState) (countdown owed place site next : ℕ) → Within t s own Fast countdown owed (Marks site next) → IsPositive t.full.bank →
    t.at s.function own.node ≡ Skips (owed + 1) place → StandsForNode (cloning t s.function) Fast place next 0 →
    Matches t (seen_next t s site next) (On (sampled_state s (with_copy own own.node (countdown + owed))))
last_visit t s own countdown owed place site next w positive e label =
    let k = fast_count t s own Fast countdown owed site next w refl in
    let is : countdown + owed ≡ (suc k.0 + 0) + (owed + 1) = omega (arith, k.1) in
    skip_by t (seen_next t s site next) s own (countdown + owed) (owed + 1) (suc k.0 + 0) place (omega arith) is e
    (missed t s (record own { node = place }) Fast k.0 0 site next (sees_now (t.full.site site) s.now)
    (after_fast t s (record own { node = place }) Fast countdown k.0 owed 0 site next
    (record { are = w.are; tally = w.tally; heavy = w.heavy; at = w.at; may = w.may; run = w.run; returns = w.returns }) positive k.1 tt label)
    (tally_to t s own countdown (suc (suc k.0)) k.1 w.tally) refl)

test_visit : (t : Copies) (s : State) (own : OwnState) (countdown owed place site next : ℕ) → Within t s own Slow countdown owed (Marks site next) → IsPositive t.full.bank →
    t.at s.function own.node ≡ Tests site place → StandsForNode (cloning t s.function) Slow place next 0 →
    Matches t (seen_next t s site next) (On (sampled_state s (with_copy own own.node (countdown + owed))))
unfolding next_of
test_visit t s own countdown owed place site next w positive e label =
    let k = before countdown w.tally.ahead in
    let none : owed ≡ 0 = w.may in
    let count : countdown + owed ≡ suc k.0 = omega (arith, k.1) in
    let u = sampled_state s (with_copy own own.node (suc k.0)) in
    let one : suc k.0 - 1 ≡ k.0 = omega arith in
    recount t (seen_next t s site next) s own own.node (suc k.0) (countdown + owed) (sym count)
    (views t (seen_next t s site next) s (with_copy own own.node (suc k.0)) (Tests site place) e
    (subst (λ (n : ℕ). Matches t (seen_next t s site next) (countdown_lowered n (sampled_code t) site place (with_test u))) (sym one)
    (slow_visit t s own k.0 place site next w.are positive (tally_to t s own countdown (suc k.0) k.1 w.tally) w.heavy w.at w.returns label)))

-- a visit that has a node of its own
pub visit_by : (t : Copies) (s : State) (own : OwnState) (side : Side) (countdown owed site next : ℕ) → Within t s own side countdown owed (Marks site next) →
    IsPositive t.full.bank → IsVisit (cloning t s.function) side owed site next (t.at s.function own.node) →
    Matches t (seen_next t s site next) (On (sampled_state s (with_copy own own.node (countdown + owed))))
visit_by t s own Fast countdown owed site next w positive h = last_visit t s own countdown owed h.0 site next w positive h.2 h.3
visit_by t s own Slow countdown owed site next w positive h = test_visit t s own countdown owed h.0 site next w positive h.1 h.2
