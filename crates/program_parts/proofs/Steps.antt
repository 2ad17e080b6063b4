-- One step of the part's program beside one of the whole program: their states differ in what was seen alone.
use Rattle.std.proofs.Common.{◌≡◌, ◌⊎◌, inl, inr, ℕ, zero, suc, Bool, true, false, if◌then◌else◌, nat_lt, List, [], ◌∷◌, Option, None, Some, Ok, Err, Result, refl, sym, ap, ◌∙◌, subst}
use Rattle.flow.specs.Words.{PartFits, call, call_with, ended_with, function_entered, entered_with_locals, left_with_value, give_to, has_result, locals_made, params_of, left_without_value, caller_waiting, Callee}
use Rattle.flow.specs.Words.{Code, at_node, seen_or_trapped, sees_now, EndsFrom, Ends, branch_on_truth, fork, go_on, halt, next_of, spend_turn, step, Effect, Goes, Lacks, Now}
use Rattle.flow.specs.Words.{Stops, Taken, Takes, value_taken, operands_taken, BranchesFork, IsPlain, row_effect, Frame, Next, On, Over, State, run_ended}
use Rattle.cbi_base.specs.Words.{active_limit, Objects, truth_of}
use Rattle.cbi_base.specs.declared.observation.Observation.{Observation}
use Rattle.cbi_base.specs.declared.observation.Seen.{Seen}
use Rattle.cbi_base.specs.declared.outcome.Outcome.TheVariants.{Trapped}
use Rattle.cbi_base.specs.declared.scalar.Kind.TheVariants as kind
use Rattle.cbi_base.specs.declared.scalar.Scalar.{Scalar}
use Rattle.cbi_base.specs.declared.scalar.Scalar.TheVariants.{Number, Undefined}
use Rattle.cbi_base.specs.declared.trap.Trap.{Trap}
use Rattle.cbi_base.specs.declared.trap.Trap.TheVariants.{StackOverflow}
use Rattle.flow.specs.declared.node.Node.TheVariants.{Pass}
use Rattle.flow.specs.declared.node.View.{View}
use Rattle.flow.specs.declared.node.View.TheVariants.{Row, Halts, Forks, Turns, Calls, Gives, Quits, Marks, Nowhere}
use Rattle.flow.proofs.Endings.{ends_over}
use Rattle.flow.specs.declared.choice.Part.{Part}
use Rattle.program_parts.specs.Part.{is_site_in_part, number_in, part_visits, whole_number}
use Rattle.program_parts.specs.Runs.{IsFaulty, part_ending}
use Rattle.program_parts.proofs.Faults.{Unlooked, unlooked}
use Rattle.program_parts.proofs.Numbers.{whole_back}
use Rattle.program_parts.proofs.Visits.{last_left, visit_kept}

abbrev pub view_by : Bool → Part → ℕ → ℕ → View
view_by true part site next = Marks (number_in part site) next
view_by false part site next = Row (Pass 0) next

-- the part's program as the machine sees it: other visits do nothing, and its sites are the part's
abbrev pub part_view : Part → View → View
part_view part (Marks site next) = view_by (is_site_in_part part site) part site next
part_view part other = other

abbrev pub part_code : Part → Code → Code
part_code part code =
    record code { at = λ function place. part_view part (code.at function place); site = λ number. code.site (whole_number part number) }

-- the same state, but that the part's visits alone were seen
abbrev pub kept : Part → State → State
kept part s = record s { watch = record s.watch { seen = part_visits part s.watch.seen } }

abbrev pub kept_next : Part → Next → Next
kept_next part (Over ending) = Over (part_ending part ending)
kept_next part (On s) = On (kept part s)

row_kept : (part : Part) (next : ℕ) (s : State) (e : Effect) → go_on next (kept part s) e ≡ kept_next part (go_on next s e)
row_kept part next s (Goes d) = refl
row_kept part next s (Stops outcome output) = refl

halt_kept : (part : Part) (s : State) (e : Effect) → halt (kept part s) e ≡ kept_next part (halt s e)
halt_kept part s (Goes d) = refl
halt_kept part s (Stops outcome output) = refl

branch_kept : (part : Part) (a b : ℕ) (rest : Now) (s : State) (truth : Result Bool Trap) → branch_on_truth a b rest truth (kept part s) ≡ kept_next part (branch_on_truth a b rest truth s)
branch_kept part a b rest s (Ok holds) = refl
branch_kept part a b rest s (Err t) = refl

fork_kept : (part : Part) (a b : ℕ) (s : State) (taken : Taken Scalar) → fork a b taken (kept part s) ≡ kept_next part (fork a b taken s)
fork_kept part a b s (Takes value rest) = branch_kept part a b rest s (truth_of value)
fork_kept part a b s (Lacks t) = refl

spend_kept : (part : Part) (turns : ℕ) (s : State) (go : State → Next) → ((t : State) → go (kept part t) ≡ kept_next part (go t)) →
    spend_turn turns (kept part s) go ≡ kept_next part (spend_turn turns s go)
spend_kept part zero s go h = refl
spend_kept part (suc turns) s go h = h (record s { turns = turns })

entered_kept : (part : Part) (function : ℕ) (callee : Callee) (s : State) (made : Option Objects) →
    entered_with_locals function callee (kept part s) made ≡ kept_next part (entered_with_locals function callee s made)
entered_kept part function callee s None = refl
entered_kept part function callee s (Some objects) = refl

active_kept : (part : Part) (function : ℕ) (callee : Callee) (s : State) (made : Option Objects) (room : Bool) →
    (if room then entered_with_locals function callee (kept part s) made else run_ended (Trapped StackOverflow) (kept part s))
    ≡ kept_next part (if room then entered_with_locals function callee s made else run_ended (Trapped StackOverflow) s)
active_kept part function callee s made true = entered_kept part function callee s made
active_kept part function callee s made false = refl

pub enter_kept : (part : Part) (callee : Option Callee) (function : ℕ) (arguments : List Scalar) (s : State) →
    function_entered callee function arguments (kept part s) ≡ kept_next part (function_entered callee function arguments s)
enter_kept part None function arguments s = refl
enter_kept part (Some callee) function arguments s =
    active_kept part function callee s (locals_made callee arguments s.now.objects) (nat_lt s.active active_limit)

call_kept : (part : Part) (callee : Option Callee) (function next : ℕ) (s : State) (taken : Taken (List Scalar)) →
    call_with callee function next taken (kept part s) ≡ kept_next part (call_with callee function next taken s)
call_kept part callee function next s (Takes arguments rest) = enter_kept part callee function arguments (caller_waiting next rest s)
call_kept part callee function next s (Lacks t) = refl

ended_kept : (part : Part) (value : Scalar) (s : State) → ended_with value (kept part s) ≡ kept_next part (ended_with value s)
ended_kept part (Number kind.Int status) s = refl
ended_kept part other s = refl

given_kept : (part : Part) (below : List Frame) (value : Scalar) (s : State) → give_to below value (kept part s) ≡ kept_next part (give_to below value s)
given_kept part [] value s = ended_kept part value s
given_kept part (f ∷ below) value s = refl

give_kept : (part : Part) (has_value : Bool) (s : State) (taken : Taken Scalar) → left_with_value has_value taken (kept part s) ≡ kept_next part (left_with_value has_value taken s)
give_kept part has_value s (Lacks t) = refl
give_kept part has_value s (Takes Undefined rest) = refl
give_kept part true s (Takes value rest) = given_kept part s.below value s
give_kept part false s (Takes value rest) = refl

quit_kept : (part : Part) (has_value : Bool) (s : State) (below : List Frame) → left_without_value below has_value (kept part s) ≡ kept_next part (left_without_value below has_value s)
quit_kept part has_value s [] = refl
quit_kept part has_value s (f ∷ below) = refl

-- what comes next of the part's program, beside what comes next of the whole one
abbrev pub Matches : Part → Code → Next → Next → Type 0
Matches part code (Over ending) m = IsFaulty ending ⊎ EndsFrom (part_code part code) m (part_ending part ending)
Matches part code (On s) m = m ≡ On (kept part s)

pub alike : (part : Part) (code : Code) (n m : Next) → m ≡ kept_next part n → Matches part code n m
alike part code (Over ending) m e = inr (subst (λ (x : Next). EndsFrom (part_code part code) x (part_ending part ending)) (sym e) refl)
alike part code (On s) m e = e

abbrev go_to : ℕ → State → Next
go_to next t = On (at_node next t)

-- a visit that the part has
seen_kept : (part : Part) (site next : ℕ) (s : State) (r : Result Seen Trap) → is_site_in_part part site ≡ true →
    seen_or_trapped r (number_in part site) (kept part s) (go_to next) ≡ kept_next part (seen_or_trapped r site s (go_to next))
seen_kept part site next s (Ok seen) h =
    let visit : Observation = record { site = site; seen = seen } in
    ap (λ (visits : List Observation). let t : State = record s { node = next; watch = record s.watch { seen = visits } } in On t)
    (sym (visit_kept part s.watch.seen visit [] h))
seen_kept part site next s (Err t) h = refl

mark_kept : (part : Part) (code : Code) (site next : ℕ) (s : State) → PartFits part → is_site_in_part part site ≡ true →
    Matches part code (next_of code (Marks site next) s) (next_of (part_code part code) (Marks (number_in part site) next) (kept part s))
unfolding next_of
mark_kept part code site next s is h =
    alike part code (seen_or_trapped (sees_now (code.site site) s.now) site s (go_to next))
    (seen_or_trapped (sees_now (code.site (whole_number part (number_in part site))) s.now) (number_in part site) (kept part s) (go_to next))
    (ap (λ (k : ℕ). seen_or_trapped (sees_now (code.site k) s.now) (number_in part site) (kept part s) (go_to next)) (whole_back part site is h)
    ∙ seen_kept part site next s (sees_now (code.site site) s.now) h)

-- the fork behind a visit that the part hasn't meets the trap that the visit met
fork_traps : (part : Part) (code : Code) (s : State) (next a b : ℕ) (t : Trap) → code.at s.function next ≡ Forks a b →
    fork a b (value_taken s.now) (kept part (at_node next s)) ≡ run_ended (Trapped t) (kept part (at_node next s)) →
    Ends (part_code part code) (kept part (at_node next s)) (part_ending part (record { outcome = Trapped t; output = s.now.output; seen = s.watch.seen; work = s.watch.work; drawn = s.watch.drawn }))
unfolding next_of
fork_traps part code s next a b t e h =
    ends_over (part_code part code) (kept part (at_node next s)) (part_ending part (record { outcome = Trapped t; output = s.now.output; seen = s.watch.seen; work = s.watch.work; drawn = s.watch.drawn }))
    (ap (λ (v : View). next_of (part_code part code) (part_view part v) (kept part (at_node next s))) e ∙ h)

trap_left : (part : Part) (code : Code) (site next : ℕ) (s : State) (t : Trap) → BranchesFork code.at code.site → code.at s.function s.node ≡ Marks site next →
    Unlooked (code.site site) s.now t → Matches part code (run_ended (Trapped t) s) (On (kept part (at_node next s)))
trap_left part code site next s t ready e (inl fault) = inl (ap Trapped fault)
trap_left part code site next s t ready e (inr (b, traps)) =
    let f = ready s.function s.node site next e b in
    inr (fork_traps part code s next f.0 f.1 t f.2 (traps f.0 f.1 (kept part (at_node next s))))

seen_left : (part : Part) (code : Code) (site next : ℕ) (s : State) (r : Result Seen Trap) → BranchesFork code.at code.site → code.at s.function s.node ≡ Marks site next →
    sees_now (code.site site) s.now ≡ r → is_site_in_part part site ≡ false →
    Matches part code (seen_or_trapped r site s (go_to next)) (On (kept part (at_node next s)))
seen_left part code site next s (Ok seen) ready e l h =
    let visit : Observation = record { site = site; seen = seen } in
    ap (λ (visits : List Observation). let t : State = record s { node = next; watch = record s.watch { seen = visits } } in On t)
    (sym (last_left part s.watch.seen visit h))
seen_left part code site next s (Err t) ready e l h = trap_left part code site next s t ready e (unlooked (code.site site) s.now t l)

mark_left : (part : Part) (code : Code) (site next : ℕ) (s : State) → BranchesFork code.at code.site → code.at s.function s.node ≡ Marks site next →
    is_site_in_part part site ≡ false → Matches part code (next_of code (Marks site next) s) (next_of (part_code part code) (Row (Pass 0) next) (kept part s))
unfolding next_of row_effect
mark_left part code site next s ready e h = seen_left part code site next s (sees_now (code.site site) s.now) ready e refl h

mark_matches : (part : Part) (code : Code) (site next : ℕ) (s : State) (b : Bool) → PartFits part → BranchesFork code.at code.site →
    code.at s.function s.node ≡ Marks site next → is_site_in_part part site ≡ b →
    Matches part code (next_of code (Marks site next) s) (next_of (part_code part code) (view_by b part site next) (kept part s))
mark_matches part code site next s true is ready e h = mark_kept part code site next s is h
mark_matches part code site next s false is ready e h = mark_left part code site next s ready e h

view_matches : (part : Part) (code : Code) (s : State) (v : View) → PartFits part → BranchesFork code.at code.site → IsPlain v → code.at s.function s.node ≡ v →
    Matches part code (next_of code v s) (next_of (part_code part code) (part_view part v) (kept part s))
unfolding next_of
view_matches part code s (Row node next) is ready plain e = alike part code (go_on next s (row_effect code.statics node s.now)) _ (row_kept part next s (row_effect code.statics node s.now))
view_matches part code s (Halts node) is ready plain e = alike part code (halt s (row_effect code.statics node s.now)) _ (halt_kept part s (row_effect code.statics node s.now))
view_matches part code s (Forks a b) is ready plain e = alike part code (fork a b (value_taken s.now) s) _ (fork_kept part a b s (value_taken s.now))
view_matches part code s (Turns next) is ready plain e = alike part code (spend_turn s.turns s (go_to next)) _ (spend_kept part s.turns s (go_to next) (λ t. refl))
view_matches part code s (Calls function next) is ready plain e =
    let callee = code.callee function in
    alike part code (spend_turn s.turns s (call callee function next)) _
    (spend_kept part s.turns s (call callee function next) (λ t. call_kept part callee function next t (operands_taken (params_of callee) t.now)))
view_matches part code s Gives is ready plain e =
    alike part code (left_with_value (has_result (code.callee s.function)) (value_taken s.now) s) _ (give_kept part (has_result (code.callee s.function)) s (value_taken s.now))
view_matches part code s Quits is ready plain e =
    alike part code (left_without_value s.below (has_result (code.callee s.function)) s) _ (quit_kept part (has_result (code.callee s.function)) s s.below)
view_matches part code s (Marks site next) is ready plain e = mark_matches part code site next s (is_site_in_part part site) is ready e refl
view_matches part code s Nowhere is ready plain e = inl refl
view_matches part code s v is ready plain e = absurd plain

abbrev pub PlainCode : Code → Type 0
PlainCode code = (function place : ℕ) → IsPlain (code.at function place)

pub matched : (part : Part) (code : Code) (s : State) → PartFits part → BranchesFork code.at code.site → PlainCode code →
    Matches part code (step code s) (step (part_code part code) (kept part s))
matched part code s is ready plain = view_matches part code s (code.at s.function s.node) is ready (plain s.function s.node) refl
