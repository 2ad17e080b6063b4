-- What a step of the machine does to what a run can still spend, and to what it observed. A turn lets it pass all nodes once more; each other step
-- leads to a later node or leaves a function.
use Rattle.std.proofs.Common.{◌≡◌, ℕ, zero, suc, ◌+◌, ◌-◌, ◌*◌, ◌<◌, ◌≤◌, ◌++◌, ◌⊎◌, inl, inr, Bool, true, false, List, [], ◌∷◌, Option, None, Some, Result, Ok, Err, nat_lt, if◌then◌else◌, length, slice_get, refl, ap, ◌∙◌, arith}
use Rattle.std.proofs.lemmas.Option.{slice_get_within}
use Rattle.cbi_base.specs.Words.{active_limit, Objects, truth_of}
use Rattle.cbi_base.specs.declared.observation.Observation.{Observation}
use Rattle.cbi_base.specs.declared.observation.Seen.{Seen}
use Rattle.cbi_base.specs.declared.scalar.Scalar.{Scalar}
use Rattle.cbi_base.specs.declared.scalar.Scalar.TheVariants.{Number, Place, Null, Undefined}
use Rattle.cbi_base.specs.declared.scalar.Kind.TheVariants.{Char, Int, Unsigned}
use Rattle.cbi_base.specs.declared.outcome.Outcome.TheVariants.{Trapped}
use Rattle.cbi_base.specs.declared.trap.Trap.{Trap}
use Rattle.cbi_base.specs.declared.trap.Trap.TheVariants.{Internal, StackOverflow}
use Rattle.flow.specs.declared.node.Node.{Node}
use Rattle.flow.specs.declared.node.View.{View}
use Rattle.flow.specs.declared.node.View.TheVariants.{Row, Halts, Forks, Turns, Calls, Gives, Quits, Marks, Skips, Tests, Picks, Imports, Exports, Nowhere}
use Rattle.flow.specs.declared.program.Function.{Function}
use Rattle.flow.specs.declared.program.ProgramParts.{ProgramParts}
use Rattle.flow.specs.Words.{call, call_with, function_entered, entered_with_locals, left_with_value, give_to, ended_with, has_result, locals_made, params_of, left_without_value, caller_waiting, Callee, Code}
use Rattle.flow.specs.Words.{code_of, view_at, view_in, at_node, countdown_exported, in_force, countdown_lowered, seen_or_trapped, path_picked, countdown_drawn, set_force, visits_skipped, with_fast, with_force}
use Rattle.flow.specs.Words.{with_seen, with_slow, with_test, sees_now, IsLater, LeadsOn, node_limit, branch_on_truth, fork, go_on, halt, next_of, spend_turn, Now}
use Rattle.flow.specs.Words.{Effect, Goes, Stops, Taken, Takes, Lacks, value_taken, operands_taken, IsProgram, row_effect, Frame, State, Next, Over, On, run_ended}
use Rattle.flow.proofs.Programs.{few_nodes}

-- what the functions that wait can still pass
abbrev pub left_below : List Frame → ℕ
left_below [] = 0
left_below (f ∷ below) = (node_limit - f.node) + left_below below

abbrev pub left : State → ℕ
left s = s.turns * (node_limit + 1) + (node_limit - s.node) + left_below s.below

-- nothing more was observed, or what one of the sites sees
abbrev pub Sees : Code → List Observation → List Observation → Type 0
Sees code before after =
    (after ≡ before)
    ⊎ ((site : ℕ) × (seen : Seen) × (d : Now) × (sees_now (code.site site) d ≡ Ok seen) × (after ≡ before ++ record { site = site; seen = seen } ∷ []))

-- the run is over with what it had observed, or it has less left
abbrev pub Steps : Code → ℕ → List Observation → Next → Type 0
Steps code bound seen (Over ending) = ending.seen ≡ seen
Steps code bound seen (On t) = (left t < bound) × Sees code seen t.watch.seen

-- a node that is there has one of the numbers of nodes
abbrev pub IsPlaced : ℕ → View → Type 0
IsPlaced place Nowhere = Unit {0}
IsPlaced place other = place < node_limit

-- a state that differs from another in nothing of what it can spend goes on at a later node
later_left : (next : ℕ) (s t : State) → IsLater s.node next → t.turns ≡ s.turns → t.below ≡ s.below → left (at_node next t) < left s
later_left next s t later turns below = let same : left_below t.below ≡ left_below s.below = ap left_below below in omega (arith, later.0, later.1, turns, same)

row_steps : (code : Code) (next : ℕ) (s : State) (e : Effect) → IsLater s.node next → Steps code (left s) s.watch.seen (go_on next s e)
row_steps code next s (Goes d) later = (omega (arith, later.0, later.1), inl refl)
row_steps code next s (Stops outcome output) later = refl

halt_steps : (code : Code) (s : State) (e : Effect) (bound : ℕ) → Steps code bound s.watch.seen (halt s e)
halt_steps code s (Goes d) bound = refl
halt_steps code s (Stops outcome output) bound = refl

branch_steps : (code : Code) (when_true when_false : ℕ) (rest : Now) (truth : Result Bool Trap) (s : State) → IsLater s.node when_true → IsLater s.node when_false →
    Steps code (left s) s.watch.seen (branch_on_truth when_true when_false rest truth s)
branch_steps code when_true when_false rest (Ok true) s first second = (omega (arith, first.0, first.1), inl refl)
branch_steps code when_true when_false rest (Ok false) s first second = (omega (arith, second.0, second.1), inl refl)
branch_steps code when_true when_false rest (Err t) s first second = refl

fork_steps : (code : Code) (when_true when_false : ℕ) (taken : Taken Scalar) (s : State) → IsLater s.node when_true → IsLater s.node when_false → Steps code (left s) s.watch.seen (fork when_true when_false taken s)
fork_steps code when_true when_false (Takes value rest) s first second = branch_steps code when_true when_false rest (truth_of value) s first second
fork_steps code when_true when_false (Lacks t) s first second = refl

-- a turn outweighs all nodes
spend_steps : (code : Code) (turns : ℕ) (s : State) (go : State → Next) (bound : ℕ) →
    ((t : ℕ) → turns ≡ suc t → Steps code bound s.watch.seen (go (record s { turns = t }))) → Steps code bound s.watch.seen (spend_turn turns s go)
spend_steps code zero s go bound each = refl
spend_steps code (suc turns) s go bound each = each turns refl

again_left : (next t : ℕ) (s : State) → next < node_limit → s.turns ≡ suc t → left (at_node next (record s { turns = t })) < left s
again_left next t s most turns = let paid : s.turns * (node_limit + 1) ≡ suc t * (node_limit + 1) = ap (λ n. n * (node_limit + 1)) turns in omega (arith, paid)

either_steps : (code : Code) (b : Bool) (x y : Next) (bound : ℕ) (seen : List Observation) → Steps code bound seen x → Steps code bound seen y →
    Steps code bound seen (if b then x else y)
either_steps code true x y bound seen first second = first
either_steps code false x y bound seen first second = second

entered_steps : (code : Code) (function : ℕ) (callee : Callee) (s : State) (made : Option Objects) (bound : ℕ) →
    s.turns * (node_limit + 1) + node_limit + left_below s.below < bound → Steps code bound s.watch.seen (entered_with_locals function callee s made)
entered_steps code function callee s None bound h = refl
entered_steps code function callee s (Some objects) bound h = (omega (arith, h), inl refl)

pub enter_steps : (code : Code) (callee : Option Callee) (function : ℕ) (arguments : List Scalar) (s : State) (bound : ℕ) →
    s.turns * (node_limit + 1) + node_limit + left_below s.below < bound → Steps code bound s.watch.seen (function_entered callee function arguments s)
enter_steps code None function arguments s bound h = refl
enter_steps code (Some callee) function arguments s bound h =
    let made = locals_made callee arguments s.now.objects in
    either_steps code (nat_lt s.active active_limit) (entered_with_locals function callee s made) (run_ended (Trapped StackOverflow) s) bound s.watch.seen
    (entered_steps code function callee s made bound h) refl

call_steps : (code : Code) (callee : Option Callee) (function next : ℕ) (taken : Taken (List Scalar)) (s : State) (bound : ℕ) →
    s.turns * (node_limit + 1) + node_limit + ((node_limit - next) + left_below s.below) < bound → Steps code bound s.watch.seen (call_with callee function next taken s)
call_steps code callee function next (Takes arguments rest) s bound h = enter_steps code callee function arguments (caller_waiting next rest s) bound h
call_steps code callee function next (Lacks t) s bound h = refl

-- the entry of a function and the node behind its call are both paid for by the turn
called_steps : (code : Code) (callee : Option Callee) (function next t : ℕ) (s : State) → IsLater s.node next → s.turns ≡ suc t →
    Steps code (left s) s.watch.seen (call callee function next (record s { turns = t }))
called_steps code callee function next t s later turns =
    let paid : s.turns * (node_limit + 1) ≡ suc t * (node_limit + 1) = ap (λ n. n * (node_limit + 1)) turns in
    call_steps code callee function next (operands_taken (params_of callee) s.now) (record s { turns = t }) (left s) (omega (arith, paid, later.0, later.1))

ended_steps : (code : Code) (value : Scalar) (s : State) (bound : ℕ) → Steps code bound s.watch.seen (ended_with value s)
ended_steps code (Number Int status) s bound = refl
ended_steps code (Number Char status) s bound = refl
ended_steps code (Number Unsigned status) s bound = refl
ended_steps code (Place object offset) s bound = refl
ended_steps code Null s bound = refl
ended_steps code Undefined s bound = refl

given_steps : (code : Code) (below : List Frame) (value : Scalar) (s : State) (bound : ℕ) → s.turns * (node_limit + 1) + left_below below < bound →
    Steps code bound s.watch.seen (give_to below value s)
given_steps code [] value s bound h = ended_steps code value s bound
given_steps code (f ∷ below) value s bound h = (omega (arith, h), inl refl)

give_steps : (code : Code) (has : Bool) (taken : Taken Scalar) (s : State) (bound : ℕ) → s.turns * (node_limit + 1) + left_below s.below < bound →
    Steps code bound s.watch.seen (left_with_value has taken s)
give_steps code true (Takes (Number kind value) rest) s bound h = given_steps code s.below (Number kind value) s bound h
give_steps code true (Takes (Place object offset) rest) s bound h = given_steps code s.below (Place object offset) s bound h
give_steps code true (Takes Null rest) s bound h = given_steps code s.below Null s bound h
give_steps code has (Lacks t) s bound h = refl
give_steps code has (Takes Undefined rest) s bound h = refl
give_steps code false (Takes (Number kind value) rest) s bound h = refl
give_steps code false (Takes (Place object offset) rest) s bound h = refl
give_steps code false (Takes Null rest) s bound h = refl

quit_steps : (code : Code) (below : List Frame) (has : Bool) (s : State) (bound : ℕ) → s.turns * (node_limit + 1) + left_below below < bound →
    Steps code bound s.watch.seen (left_without_value below has s)
quit_steps code [] has s bound h = refl
quit_steps code (f ∷ below) has s bound h = (omega (arith, h), inl refl)

-- the countdown in force is no part of what a state can spend, nor of what it observed
record IsForced (s t : State) : Type 0 where
  turns : t.turns ≡ s.turns
  below : t.below ≡ s.below
  seen : t.watch.seen ≡ s.watch.seen

forced : (copy : Option ℕ) (count : ℕ) (s : State) → IsForced s (set_force copy count s)
forced None count s = record { turns = refl; below = refl; seen = refl }
forced (Some was) count s = record { turns = refl; below = refl; seen = refl }

forced_left : (next : ℕ) (s t : State) → IsLater s.node next → IsForced s t → left (at_node next t) < left s
forced_left next s t later is = later_left next s t later is.turns is.below

observed_steps : (code : Code) (site next : ℕ) (s t : State) (after : State → State) (result : Result Seen Trap) → sees_now (code.site site) t.now ≡ result → IsLater s.node next → IsForced s t →
    ((u : State) → IsForced u (after u)) → Steps code (left s) s.watch.seen (seen_or_trapped result site t (λ u. On (at_node next (after u))))
observed_steps code site next s t after (Err trap) looks later is keeps = is.seen
observed_steps code site next s t after (Ok seen) looks later is keeps =
    let u : State = with_seen site seen t in
    let same = keeps u in (
      later_left next s (after u) later (same.turns ∙ is.turns) (same.below ∙ is.below),
      inr (site, seen, t.now, looks, same.seen ∙ ap (λ before. before ++ record { site = site; seen = seen } ∷ []) is.seen),
    )

itself : (s : State) → IsForced s s
itself s = record { turns = refl; below = refl; seen = refl }

skip_steps : (code : Code) (force by next : ℕ) (s : State) → IsLater s.node next → Steps code (left s) s.watch.seen (visits_skipped force by next s)
skip_steps code force by next s later =
    let is = forced s.copy (force - by) s in
    either_steps code (nat_lt by force) (On (at_node next (with_force (force - by) s))) (run_ended (Trapped Internal) s) (left s) s.watch.seen
    (forced_left next s (with_force (force - by) s) later is, inl is.seen) refl

redraws : (code : Code) (s : State) → IsForced s (countdown_drawn code s)
redraws code s = let is = forced s.copy (code.bank s.watch.drawn) s in record { turns = is.turns; below = is.below; seen = is.seen }

lowered_steps : (count : ℕ) (code : Code) (site next : ℕ) (s : State) → IsLater s.node next → Steps code (left s) s.watch.seen (countdown_lowered count code site next (with_test s))
lowered_steps zero code site next s later =
    let zeroed : State = with_force 0 (with_test s) in
    let is = forced s.copy 0 (with_test s) in
    observed_steps code site next s zeroed (countdown_drawn code) (sees_now (code.site site) zeroed.now) refl later
    (record { turns = is.turns; below = is.below; seen = is.seen }) (redraws code)
lowered_steps (suc count) code site next s later =
    let is = forced s.copy (suc count) (with_test s) in
    (later_left next s (with_force (suc count) (with_test s)) later is.turns is.below, inl is.seen)

pick_steps : (code : Code) (quick : Bool) (fast slow : ℕ) (s : State) → IsLater s.node fast → IsLater s.node slow → Steps code (left s) s.watch.seen (path_picked quick fast slow s)
pick_steps code true fast slow s first second = (later_left fast s (with_fast s) first refl refl, inl refl)
pick_steps code false fast slow s first second = (later_left slow s (with_slow s) second refl refl, inl refl)

export_steps : (code : Code) (copy : Option ℕ) (next : ℕ) (s : State) → IsLater s.node next → Steps code (left s) s.watch.seen (countdown_exported copy next s)
export_steps code None next s later = refl
export_steps code (Some count) next s later = (omega (arith, later.0, later.1), inl refl)

-- a step leaves less to spend, and observes at most one site
pub step_steps : (code : Code) (v : View) (s : State) → LeadsOn s.node v → IsPlaced s.node v → Steps code (left s) s.watch.seen (next_of code v s)
unfolding next_of
step_steps code (Row node next) s leads placed = row_steps code next s (row_effect code.statics node s.now) leads
step_steps code (Halts node) s leads placed = halt_steps code s (row_effect code.statics node s.now) (left s)
step_steps code (Forks when_true when_false) s leads placed = fork_steps code when_true when_false (value_taken s.now) s leads.0 leads.1
step_steps code (Turns next) s leads placed = spend_steps code s.turns s (λ t. On (at_node next t)) (left s) (λ t turns. (again_left next t s leads turns, inl refl))
step_steps code (Calls function next) s leads placed =
    spend_steps code s.turns s (call (code.callee function) function next) (left s) (λ t turns. called_steps code (code.callee function) function next t s leads turns)
step_steps code Gives s leads placed = give_steps code (has_result (code.callee s.function)) (value_taken s.now) s (left s) (omega (arith, placed))
step_steps code Quits s leads placed = quit_steps code s.below (has_result (code.callee s.function)) s (left s) (omega (arith, placed))
step_steps code (Marks site next) s leads placed = observed_steps code site next s s (λ t. t) (sees_now (code.site site) s.now) refl leads (itself s) itself
step_steps code (Skips by next) s leads placed = skip_steps code (in_force s.copy s.watch) by next s leads
step_steps code (Tests site next) s leads placed = lowered_steps (in_force s.copy s.watch - 1) code site next s leads
step_steps code (Picks weight fast slow) s leads placed = pick_steps code (nat_lt weight (in_force s.copy s.watch)) fast slow s leads.0 leads.1
step_steps code (Imports next) s leads placed = (omega (arith, leads.0, leads.1), inl refl)
step_steps code (Exports next) s leads placed = export_steps code s.copy next s leads
step_steps code Nowhere s leads placed = refl

place_known : (v : View) (place : ℕ) → place < node_limit → IsPlaced place v
place_known Nowhere place h = tt
place_known v place h = h

placed_at : (nodes : List Node) (place : ℕ) (found : Option Node) → length nodes ≤ node_limit → slice_get nodes place ≡ found → IsPlaced place (view_at found)
placed_at nodes place None few e = tt
placed_at nodes place (Some n) few e = let within = slice_get_within nodes place n e in place_known (view_at (Some n)) place (omega arith)

placed_in : (p : ProgramParts) (function place : ℕ) (found : Option Function) → IsProgram p → slice_get p.functions function ≡ found → IsPlaced place (view_in found place)
placed_in p function place None is e = tt
placed_in p function place (Some f) is e = placed_at f.nodes place (slice_get f.nodes place) (few_nodes p function f is e) refl

-- the nodes of a program stand at the numbers of nodes
pub placed : (p : ProgramParts) (bank : ℕ → ℕ) (function place : ℕ) → IsProgram p → IsPlaced place ((code_of p bank).at function place)
placed p bank function place is = placed_in p function place (slice_get p.functions function) is refl
