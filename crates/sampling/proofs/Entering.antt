-- How the sampled program comes into a copy of a function: at its entry, at a return into it, and at the choice before a region.
use Rattle.std.proofs.Common.{◌≡◌, ℕ, ◌+◌, ◌<◌, Bool, true, false, if◌then◌else◌, nat_lt, List, [], ◌∷◌, None, Some, refl, sym, ap, subst, arith}
use Rattle.std.proofs.lemmas.Bool.Decides.{nat_tests}
use Rattle.cbi_base.specs.declared.outcome.Outcome.TheVariants.{Trapped}
use Rattle.cbi_base.specs.declared.scalar.Scalar.{Scalar}
use Rattle.cbi_base.specs.declared.scalar.Scalar.TheVariants.{Number, Place, Null, Undefined}
use Rattle.cbi_base.specs.declared.trap.Trap.TheVariants.{Internal}
use Rattle.cbi_base.specs.declared.trap.Trap.TheVariants as fault
use Rattle.flow.specs.declared.node.View.{View}
use Rattle.flow.specs.declared.node.View.TheVariants.{Picks, Imports}
use Rattle.flow.specs.Words.{left_with_value, give_to, left_without_value, caller_resumed, path_picked, next_of, Now, Lacks, Taken, Takes, Frame, Next, On, State, Watch, run_ended}
use Rattle.weights.specs.Weight.{IsWeight}
use Rattle.copied_nodes.specs.declared.label.CopyLabel.TheVariants.{Back, Enter, Gate}
use Rattle.copied_nodes.specs.declared.label.Side.TheVariants.{Fast, Slow}
use Rattle.clone_paths.specs.Form.{StandsForNode}
use Rattle.sampling.specs.Copies.{AreCopies, Copies, cloning, sampled_code}
use Rattle.sampling.specs.Follows.{Copied, IsAbove, OwnState, Returns, Spot, Waits, Weightless, sampled_state, frames_at_spots}
use Rattle.sampling.specs.Tally.{Tally}
use Rattle.sampling.proofs.Matching.{Matches, Enters, at_first, ended_by, internal, over_both, stays, stepped}

-- the sampled program's step, by the view of its node
pub views : (t : Copies) (a : Next) (s : State) (own : OwnState) (v : View) → t.at s.function own.node ≡ v →
    Matches t a (next_of (sampled_code t) v (sampled_state s own)) → Matches t a (On (sampled_state s own))
views t a s own v e h = stepped t a (sampled_state s own) (next_of (sampled_code t) v (sampled_state s own)) (ap (λ (w : View). next_of (sampled_code t) w (sampled_state s own)) e) h

above_of : (t : Copies) (function node weight count : ℕ) → IsWeight t.weighty (t.full.at function) node weight → weight < count → IsAbove t count function node
above_of t function node weight count w l = λ rest path. let m = w.most rest path in omega arith

-- a count with no debt
pub no_debt : (count : ℕ) → Some count ≡ Some (count + 0)
no_debt count = let e : count ≡ count + 0 = omega arith in ap (λ (k : ℕ). Some k) e

-- at the choice before a region
abbrev pub counted_fast : Watch → Watch
counted_fast w = record w { work = record w.work { fast = w.work.fast + 1 } }

abbrev pub counted_slow : Watch → Watch
counted_slow w = record w { work = record w.work { slow = w.work.slow + 1 } }

pick_by : (t : Copies) (s : State) (own : OwnState) (count weight fast slow : ℕ) (b : Bool) → nat_lt weight count ≡ b →
    Tally t.full.bank s.watch.seen own.watch.seen count own.watch.drawn → t.weighty s.function ≡ true →
    IsWeight t.weighty (t.full.at s.function) s.node weight → StandsForNode (cloning t s.function) Fast fast s.node 0 →
    StandsForNode (cloning t s.function) Slow slow s.node 0 → Returns t s.below own.spots →
    Matches t (On s) (path_picked b fast slow (sampled_state s (record own { copy = Some count })))
pick_by t s own count weight fast slow true e tally heavy w f l returns =
    let less : weight < count = grind (arith, nat_tests) in
    stays t s (record own { node = fast; copy = Some count; watch = counted_fast own.watch }) (record {
      countdown = count;
      tally = tally;
      stands = Copied Fast 0 heavy tt f (no_debt count) (above_of t s.function s.node weight count w less) returns;
    })
pick_by t s own count weight fast slow false e tally heavy w f l returns =
    stays t s (record own { node = slow; copy = Some count; watch = counted_slow own.watch }) (record {
      countdown = count;
      tally = tally;
      stands = Copied Slow 0 heavy refl l (no_debt count) tt returns;
    })

pub at_gate : (t : Copies) (s : State) (own : OwnState) (count : ℕ) → AreCopies t → Tally t.full.bank s.watch.seen own.watch.seen count own.watch.drawn →
    t.weighty s.function ≡ true → t.label s.function own.node ≡ Some (Gate s.node) → Returns t s.below own.spots →
    Matches t (On s) (On (sampled_state s (record own { copy = Some count })))
unfolding next_of
at_gate t s own count are tally heavy label returns =
    let r = are.each s.function own.node (Gate s.node) heavy label in
    views t (On s) s (record own { copy = Some count }) (Picks r.0 r.1 r.2) r.3
    (pick_by t s own count r.0 r.1 r.2 (nat_lt r.0 count) refl tally heavy r.4 r.5 r.6 returns)

-- where the shared countdown is copied
pub at_import : (t : Copies) (s : State) (own : OwnState) (place : ℕ) → AreCopies t →
    Tally t.full.bank s.watch.seen own.watch.seen own.watch.countdown own.watch.drawn → t.weighty s.function ≡ true →
    t.at s.function own.node ≡ Imports place → t.label s.function place ≡ Some (Gate s.node) → Returns t s.below own.spots →
    Matches t (On s) (On (sampled_state s own))
unfolding next_of
at_import t s own place are tally heavy e label returns =
    views t (On s) s own (Imports place) e (at_gate t s (record own { node = place }) own.watch.countdown are tally heavy label returns)

with_count : (t : Copies) (s : State) (own : OwnState) (countdown : ℕ) → Tally t.full.bank s.watch.seen own.watch.seen countdown own.watch.drawn →
    own.watch.countdown ≡ countdown → Tally t.full.bank s.watch.seen own.watch.seen own.watch.countdown own.watch.drawn
with_count t s own countdown tally e =
    subst (λ (k : ℕ). Tally t.full.bank s.watch.seen own.watch.seen k own.watch.drawn) (sym e) tally

-- what is known of the frames, by whether the function is weighty that runs above them
abbrev pub Rest : Copies → ℕ → ℕ → List Frame → List Spot → Bool → Type 0
Rest t countdown shared below spots true = (shared ≡ countdown) × Returns t below spots
Rest t countdown shared below spots false = Waits t countdown shared below spots

-- at the entry of a function
entry_by : (t : Copies) (s : State) (own : OwnState) (countdown function : ℕ) (b : Bool) → AreCopies t →
    Tally t.full.bank s.watch.seen own.watch.seen countdown own.watch.drawn → t.weighty function ≡ b →
    Rest t countdown own.watch.countdown s.below own.spots b → Enters t function s own
entry_by t s own countdown function true are tally heavy rest =
    λ callee objects.
    let r = are.each function 0 Enter heavy (are.entry function heavy) in
    at_import t (at_first function callee objects s) (record own { node = 0; copy = None }) r.0 are (with_count t s own countdown tally rest.0) heavy r.1 r.2 rest.1
entry_by t s own countdown function false are tally light rest =
    λ callee objects. stays t (at_first function callee objects s) (record own { node = 0; copy = None })
    (record { countdown = countdown; tally = tally; stands = Weightless light refl refl rest })

pub at_entry : (t : Copies) (s : State) (own : OwnState) (countdown function : ℕ) → AreCopies t →
    Tally t.full.bank s.watch.seen own.watch.seen countdown own.watch.drawn →
    Rest t countdown own.watch.countdown s.below own.spots (t.weighty function) → Enters t function s own
at_entry t s own countdown function are tally rest = entry_by t s own countdown function (t.weighty function) are tally refl rest

-- a function is left, and the one below goes on
abbrev pub refitted : Frame → Spot → Frame
refitted f spot = record f { node = spot.node; copy = spot.copy }

abbrev pub back_at : Spot → List Spot → OwnState → OwnState
back_at spot spots own = record own { node = spot.node; copy = spot.copy; spots = spots }

pub resume_by : (t : Copies) (s : State) (own : OwnState) (countdown : ℕ) (values : List Scalar) (f : Frame) (below : List Frame) (spot : Spot) (spots : List Spot) (b : Bool) →
    AreCopies t → Tally t.full.bank s.watch.seen own.watch.seen countdown own.watch.drawn →
    Rest t countdown own.watch.countdown (f ∷ below) (spot ∷ spots) b →
    Matches t (On (caller_resumed values f below s)) (On (caller_resumed values (refitted f spot) (frames_at_spots below spots) (sampled_state s own)))
resume_by t s own countdown values f below spot spots true are tally rest =
    let r = are.each f.function spot.node (Back f.node) (rest.1).0 (rest.1).1 in
    at_import t (caller_resumed values f below s) (back_at spot spots own) r.0 are (with_count t s own countdown tally rest.0) (rest.1).0 r.1 r.2 (rest.1).3
resume_by t s own countdown values f below spot spots false are tally rest =
    stays t (caller_resumed values f below s) (back_at spot spots own) (record { countdown = countdown; tally = tally; stands = rest })

no_spot : (t : Copies) (countdown shared : ℕ) (f : Frame) (below : List Frame) (b : Bool) → Rest t countdown shared (f ∷ below) [] b → ⊥
no_spot t countdown shared f below true rest = rest.1
no_spot t countdown shared f below false rest = rest

no_frame : (t : Copies) (countdown shared : ℕ) (spot : Spot) (spots : List Spot) (b : Bool) → Rest t countdown shared [] (spot ∷ spots) b → ⊥
no_frame t countdown shared spot spots true rest = rest.1
no_frame t countdown shared spot spots false rest = rest

give_to_by : (t : Copies) (s : State) (own : OwnState) (countdown : ℕ) (value : Scalar) (below : List Frame) (spots : List Spot) (b : Bool) → AreCopies t →
    Tally t.full.bank s.watch.seen own.watch.seen countdown own.watch.drawn → Rest t countdown own.watch.countdown below spots b →
    Matches t (give_to below value s) (give_to (frames_at_spots below spots) value (sampled_state s own))
give_to_by t s own countdown value [] [] b are tally rest = ended_by t s own countdown value tally
give_to_by t s own countdown value [] (spot ∷ spots) b are tally rest = absurd (no_frame t countdown own.watch.countdown spot spots b rest)
give_to_by t s own countdown value (f ∷ below) [] b are tally rest = absurd (no_spot t countdown own.watch.countdown f below b rest)
give_to_by t s own countdown value (f ∷ below) (spot ∷ spots) b are tally rest =
    resume_by t s own countdown (value ∷ []) f below spot spots b are tally rest

defined_by : (t : Copies) (s : State) (own : OwnState) (countdown : ℕ) (value : Scalar) (has : Bool) (b : Bool) → AreCopies t →
    Tally t.full.bank s.watch.seen own.watch.seen countdown own.watch.drawn → Rest t countdown own.watch.countdown s.below own.spots b → (rest : Now) →
    Matches t (left_with_value has (Takes value rest) s) (left_with_value has (Takes value rest) (sampled_state s own))
defined_by t s own countdown Undefined has b are tally h rest = over_both t s own countdown (Trapped fault.Undefined) tally
defined_by t s own countdown (Number kind value) true b are tally h rest = give_to_by t s own countdown (Number kind value) s.below own.spots b are tally h
defined_by t s own countdown (Place object offset) true b are tally h rest = give_to_by t s own countdown (Place object offset) s.below own.spots b are tally h
defined_by t s own countdown Null true b are tally h rest = give_to_by t s own countdown Null s.below own.spots b are tally h
defined_by t s own countdown (Number kind value) false b are tally h rest = internal t s (left_with_value false (Takes (Number kind value) rest) (sampled_state s own))
defined_by t s own countdown (Place object offset) false b are tally h rest = internal t s (left_with_value false (Takes (Place object offset) rest) (sampled_state s own))
defined_by t s own countdown Null false b are tally h rest = internal t s (left_with_value false (Takes Null rest) (sampled_state s own))

pub give_by : (t : Copies) (s : State) (own : OwnState) (countdown : ℕ) (has : Bool) (taken : Taken Scalar) (b : Bool) → AreCopies t →
    Tally t.full.bank s.watch.seen own.watch.seen countdown own.watch.drawn → Rest t countdown own.watch.countdown s.below own.spots b →
    Matches t (left_with_value has taken s) (left_with_value has taken (sampled_state s own))
give_by t s own countdown has (Takes value rest) b are tally h = defined_by t s own countdown value has b are tally h rest
give_by t s own countdown has (Lacks trap) b are tally h = over_both t s own countdown (Trapped trap) tally

pub quit_by : (t : Copies) (s : State) (own : OwnState) (countdown : ℕ) (has : Bool) (below : List Frame) (spots : List Spot) (b : Bool) → AreCopies t →
    Tally t.full.bank s.watch.seen own.watch.seen countdown own.watch.drawn → Rest t countdown own.watch.countdown below spots b →
    Matches t (left_without_value below has s) (left_without_value (frames_at_spots below spots) has (sampled_state s own))
quit_by t s own countdown has [] [] b are tally h = internal t s (run_ended (Trapped Internal) (sampled_state s own))
quit_by t s own countdown has [] (spot ∷ spots) b are tally h = absurd (no_frame t countdown own.watch.countdown spot spots b h)
quit_by t s own countdown has (f ∷ below) [] b are tally h = absurd (no_spot t countdown own.watch.countdown f below b h)
quit_by t s own countdown has (f ∷ below) (spot ∷ spots) b are tally h =
    resume_by t s own countdown (if has then Undefined ∷ [] else []) f below spot spots b are tally h
