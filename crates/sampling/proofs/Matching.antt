-- What it is for the sampled program to match the full one in what comes next, and that it does where both do the same.
use Rattle.std.proofs.Common.{◌≡◌, ℕ, zero, suc, ◌+◌, Bool, true, false, if◌then◌else◌, nat_lt, List, [], ◌∷◌, length, Option, None, Some, Ok, Err, Result, refl, ap, ◌∙◌}
use Rattle.cbi_base.specs.Words.{active_limit, Objects, truth_of}
use Rattle.cbi_base.specs.declared.outcome.Outcome.{Outcome}
use Rattle.cbi_base.specs.declared.outcome.Outcome.TheVariants.{Trapped, Ended, CutTurns}
use Rattle.cbi_base.specs.declared.scalar.Kind.TheVariants as kind
use Rattle.cbi_base.specs.declared.scalar.Scalar.{Scalar}
use Rattle.cbi_base.specs.declared.scalar.Scalar.TheVariants.{Number}
use Rattle.cbi_base.specs.declared.trap.Trap.{Trap}
use Rattle.cbi_base.specs.declared.trap.Trap.TheVariants.{Internal, StackOverflow}
use Rattle.flow.specs.Words.{call_with, function_entered, entered_with_locals, ended_with, locals_made, caller_waiting, Callee, Code, EndsFrom, Ends, branch_on_truth, fork, go_on, halt, spend_turn}
use Rattle.flow.specs.Words.{step, Effect, Goes, Lacks, Now, Stops, Taken, Takes, Ending, Next, On, Over, State, run_ended}
use Rattle.flow.proofs.Endings.{ends_over, leads_one}
use Rattle.sampling.specs.Copies.{Copies, sampled_code}
use Rattle.sampling.specs.Follows.{Follows, OwnState, sampled_state}
use Rattle.sampling.specs.Runs.{IsSampleOf}
use Rattle.sampling.specs.Tally.{Tally}

-- the sampled program comes to a state that follows this one
pub record Moved (t : Copies) (s : State) (n : Next) : Type 0 where
  pub own : OwnState
  pub follows : Follows t s own
  pub leads : (ending : Ending) → Ends (sampled_code t) (sampled_state s own) ending → EndsFrom (sampled_code t) n ending

-- the sampled program ends as a sample of this ending
pub record Finished (t : Copies) (full : Ending) (n : Next) : Type 0 where
  pub ending : Ending
  pub ends : EndsFrom (sampled_code t) n ending
  pub is_sample : IsSampleOf t.full.bank full ending

-- what comes next of the sampled program matches what comes next of the full one, unless that meets a fault of the program itself
abbrev pub Matches : Copies → Next → Next → Type 0
Matches t (Over full) n = (full.outcome ≡ Trapped Internal → ⊥) → Finished t full n
Matches t (On s) n = Moved t s n

ends_next : (q : Code) (u : State) (n : Next) (ending : Ending) → step q u ≡ n → EndsFrom q n ending → Ends q u ending
ends_next q u (Over last) ending e h = ends_over q u ending (e ∙ ap Over h)
ends_next q u (On v) ending e h = (leads_one q u v e).by ending h

-- one step of the sampled program alone
pub stepped : (t : Copies) (a : Next) (u : State) (n : Next) → step (sampled_code t) u ≡ n → Matches t a n → Matches t a (On u)
stepped t (Over full) u n e h =
    λ no. let f = h no in record { ending = f.ending; ends = ends_next (sampled_code t) u n f.ending e f.ends; is_sample = f.is_sample }
stepped t (On s) u n e h = record { own = h.own; follows = h.follows; leads = λ ending k. ends_next (sampled_code t) u n ending e (h.leads ending k) }

-- the state beside this one follows it
pub stays : (t : Copies) (s : State) (own : OwnState) → Follows t s own → Matches t (On s) (On (sampled_state s own))
stays t s own f = record { own = own; follows = f; leads = λ ending h. h }

-- data and turns may change on both sides
pub with_data : (t : Copies) (s : State) (own : OwnState) (d : Now) (turns : ℕ) → Follows t s own → Follows t (record s { now = d; turns = turns }) own
with_data t s own d turns f = record { countdown = f.countdown; tally = f.tally; stands = f.stands }

pub over_both : (t : Copies) (s : State) (own : OwnState) (countdown : ℕ) (outcome : Outcome) → Tally t.full.bank s.watch.seen own.watch.seen countdown own.watch.drawn →
    Matches t (run_ended outcome s) (run_ended outcome (sampled_state s own))
over_both t s own countdown outcome tally = λ no. record {
  ending = record { outcome = outcome; output = s.now.output; seen = own.watch.seen; work = own.watch.work; drawn = own.watch.drawn };
  ends = refl;
  is_sample = record { outcome = refl; output = refl; seen = tally.same };
}

pub internal : (t : Copies) (s : State) (n : Next) → Matches t (run_ended (Trapped Internal) s) n
internal t s n = λ no. absurd (no refl)

abbrev pub written : State → List ℕ → State
written s output = record s { now = record s.now { output = output } }

pub row_by : (t : Copies) (s : State) (own : OwnState) (next place : ℕ) (e : Effect) → Follows t (record s { node = next }) (record own { node = place }) →
    Matches t (go_on next s e) (go_on place (sampled_state s own) e)
row_by t s own next place (Goes d) f =
    stays t (record s { node = next; now = d }) (record own { node = place }) (with_data t (record s { node = next }) (record own { node = place }) d s.turns f)
row_by t s own next place (Stops outcome output) f = over_both t (written s output) own f.countdown outcome f.tally

pub halt_by : (t : Copies) (s : State) (own : OwnState) (countdown : ℕ) (e : Effect) → Tally t.full.bank s.watch.seen own.watch.seen countdown own.watch.drawn →
    Matches t (halt s e) (halt (sampled_state s own) e)
halt_by t s own countdown (Goes d) tally = internal t s (halt (sampled_state s own) (Goes d))
halt_by t s own countdown (Stops outcome output) tally = over_both t (written s output) own countdown outcome tally

branch_by : (t : Copies) (s : State) (own : OwnState) (a b m n : ℕ) (rest : Now) (truth : Result Bool Trap) → Follows t (record s { node = a }) (record own { node = m }) →
    Follows t (record s { node = b }) (record own { node = n }) → Matches t (branch_on_truth a b rest truth s) (branch_on_truth m n rest truth (sampled_state s own))
branch_by t s own a b m n rest (Ok true) f g =
    stays t (record s { node = a; now = rest }) (record own { node = m }) (with_data t (record s { node = a }) (record own { node = m }) rest s.turns f)
branch_by t s own a b m n rest (Ok false) f g =
    stays t (record s { node = b; now = rest }) (record own { node = n }) (with_data t (record s { node = b }) (record own { node = n }) rest s.turns g)
branch_by t s own a b m n rest (Err trap) f g = over_both t s own f.countdown (Trapped trap) f.tally

pub fork_by : (t : Copies) (s : State) (own : OwnState) (a b m n : ℕ) (taken : Taken Scalar) → Follows t (record s { node = a }) (record own { node = m }) →
    Follows t (record s { node = b }) (record own { node = n }) → Matches t (fork a b taken s) (fork m n taken (sampled_state s own))
fork_by t s own a b m n (Takes value rest) f g = branch_by t s own a b m n rest (truth_of value) f g
fork_by t s own a b m n (Lacks trap) f g = over_both t s own f.countdown (Trapped trap) f.tally

pub spend_by : (t : Copies) (s : State) (own : OwnState) (countdown turns : ℕ) (go also : State → Next) →
    Tally t.full.bank s.watch.seen own.watch.seen countdown own.watch.drawn →
    ((left : ℕ) → Matches t (go (record s { turns = left })) (also (record (sampled_state s own) { turns = left }))) →
    Matches t (spend_turn turns s go) (spend_turn turns (sampled_state s own) also)
spend_by t s own countdown zero go also tally h = over_both t s own countdown CutTurns tally
spend_by t s own countdown (suc left) go also tally h = h left

-- where a function stands that was entered
abbrev pub at_first : ℕ → Callee → Objects → State → State
at_first function callee objects s = record s {
  function = function;
  node = 0;
  now = record s.now { operands = []; locals = record { first = s.now.objects.made; count = length callee.locals }; objects = objects };
  copy = None;
  active = s.active + 1;
}

abbrev pub Enters : Copies → ℕ → State → OwnState → Type 0
Enters t function s own =
    (callee : Callee) (objects : Objects) →
    Moved t (at_first function callee objects s) (On (sampled_state (at_first function callee objects s) (record own { node = 0; copy = None })))

entered_by : (t : Copies) (s : State) (own : OwnState) (countdown function : ℕ) (callee : Callee) (made : Option Objects) →
    Tally t.full.bank s.watch.seen own.watch.seen countdown own.watch.drawn → Enters t function s own →
    Matches t (entered_with_locals function callee s made) (entered_with_locals function callee (sampled_state s own) made)
entered_by t s own countdown function callee None tally h = over_both t s own countdown (Trapped StackOverflow) tally
entered_by t s own countdown function callee (Some objects) tally h = h callee objects

active_by : (t : Copies) (s : State) (own : OwnState) (countdown function : ℕ) (callee : Callee) (made : Option Objects) (room : Bool) →
    Tally t.full.bank s.watch.seen own.watch.seen countdown own.watch.drawn → Enters t function s own →
    Matches t (if room then entered_with_locals function callee s made else run_ended (Trapped StackOverflow) s)
    (if room then entered_with_locals function callee (sampled_state s own) made else run_ended (Trapped StackOverflow) (sampled_state s own))
active_by t s own countdown function callee made true tally h = entered_by t s own countdown function callee made tally h
active_by t s own countdown function callee made false tally h = over_both t s own countdown (Trapped StackOverflow) tally

pub enter_by : (t : Copies) (s : State) (own : OwnState) (countdown function : ℕ) (arguments : List Scalar) (callee : Option Callee) →
    Tally t.full.bank s.watch.seen own.watch.seen countdown own.watch.drawn → Enters t function s own →
    Matches t (function_entered callee function arguments s) (function_entered callee function arguments (sampled_state s own))
enter_by t s own countdown function arguments None tally h = internal t s (run_ended (Trapped Internal) (sampled_state s own))
enter_by t s own countdown function arguments (Some callee) tally h =
    active_by t s own countdown function callee (locals_made callee arguments s.now.objects) (nat_lt s.active active_limit) tally h

-- the caller waits, on both sides at its own node
abbrev pub put_off : ℕ → OwnState → OwnState
put_off place own = record own { spots = record { node = place; copy = own.copy } ∷ own.spots }

pub call_by : (t : Copies) (s : State) (own : OwnState) (countdown function next place : ℕ) (callee : Option Callee) (taken : Taken (List Scalar)) →
    Tally t.full.bank s.watch.seen own.watch.seen countdown own.watch.drawn → ((d : Now) → Enters t function (caller_waiting next d s) (put_off place own)) →
    Matches t (call_with callee function next taken s) (call_with callee function place taken (sampled_state s own))
call_by t s own countdown function next place callee (Takes arguments rest) tally h =
    enter_by t (caller_waiting next rest s) (put_off place own) countdown function arguments callee tally (h rest)
call_by t s own countdown function next place callee (Lacks trap) tally h = over_both t s own countdown (Trapped trap) tally

pub ended_by : (t : Copies) (s : State) (own : OwnState) (countdown : ℕ) (value : Scalar) → Tally t.full.bank s.watch.seen own.watch.seen countdown own.watch.drawn →
    Matches t (ended_with value s) (ended_with value (sampled_state s own))
ended_by t s own countdown (Number kind.Int status) tally = over_both t s own countdown (Ended status) tally
ended_by t s own countdown value tally = internal t s (run_ended (Trapped Internal) (sampled_state s own))
