-- Whole runs.
use Rattle.std.proofs.Common.{◌≡◌, ℕ, zero, suc, Bool, true, false, List, [], Option, None, Some, slice_get, refl, sym, ap, ◌∙◌, subst, arith}
use Rattle.std.proofs.Math.Path.{fun_ext}
use Rattle.cbi_base.specs.Words.{each_made, Objects, no_objects}
use Rattle.cbi_base.specs.declared.observation.Observation.{Observation}
use Rattle.cbi_base.specs.declared.outcome.Outcome.TheVariants.{Trapped}
use Rattle.cbi_base.specs.declared.trap.Trap.TheVariants.{Internal, StackOverflow}
use Rattle.flow.specs.declared.program.Function.{Function}
use Rattle.flow.specs.declared.program.Global.{Global}
use Rattle.flow.specs.declared.program.ProgramParts.{ProgramParts}
use Rattle.flow.specs.declared.program.Text.{Text}
use Rattle.flow.specs.declared.site.Site.{Site}
use Rattle.flow.specs.Words.{Callee, Code, callee_of, code_of, counts_of, EndsFrom, MachineEnds, at_start, begin_with, no_work, run, step, program_objects}
use Rattle.flow.specs.Words.{IsProgram, parts_of, IsPositive, total_of, Ending, Next, On, Over, State, IsReady}
use Rattle.flow.proofs.Endings.{goes}
use Rattle.clone_paths.specs.Cloned.{Cloned, MayClone}
use Rattle.sampling.specs.Copies.{AreCopies, Copies, sampled_code}
use Rattle.sampling.specs.Follows.{Follows, OwnState, sampled_state}
use Rattle.sampling.specs.Runs.{RunsLike, SampledRuns}
use Rattle.sampling.specs.Tally.{Tally}
use Rattle.sampling.proofs.Entering.{Rest, at_entry}
use Rattle.sampling.proofs.Forms.{Pair, are_copies, copies_of, same_callee}
use Rattle.sampling.proofs.Matching.{Finished, Matches, enter_by, over_both}
use Rattle.sampling.proofs.Steps.{followed}

abbrev Faultless : Ending → Type 0
Faultless full = full.outcome ≡ Trapped Internal → ⊥

-- a run of the sampled program from a state that follows
abbrev Follow : Copies → ℕ → Ending → Type 0
Follow t steps full = (s : State) (own : OwnState) → Follows t s own → run t.full steps s ≡ Some full → Finished t full (On (sampled_state s own))

next_by : (t : Copies) (steps : ℕ) (full : Ending) → Faultless full → Follow t steps full → (n m : Next) → Matches t n m → goes t.full steps n ≡ Some full →
    Finished t full m
next_by t steps full faultless rest (Over a) m h e =
    let same : a ≡ full = cc in subst (λ (x : Ending). Faultless x → Finished t x m) same h faultless
next_by t steps full faultless rest (On s) m h e =
    let f = rest s h.own h.follows e in record { ending = f.ending; ends = h.leads f.ending f.ends; is_sample = f.is_sample }

follow_run : (t : Copies) → AreCopies t → IsPositive t.full.bank → (full : Ending) → Faultless full → (steps : ℕ) → Follow t steps full
unfolding run
follow_run t are positive full faultless zero = λ s own f e. cc
follow_run t are positive full faultless (suc steps) =
    λ s own f e. next_by t steps full faultless (follow_run t are positive full faultless steps) (step t.full s) (On (sampled_state s own)) (followed t s own are positive f) e

ends_by : (t : Copies) → AreCopies t → IsPositive t.full.bank → (full : Ending) → Faultless full → (n m : Next) → Matches t n m → EndsFrom t.full n full →
    Finished t full m
ends_by t are positive full faultless (Over a) m h e = subst (λ (x : Ending). Faultless x → Finished t x m) e h faultless
ends_by t are positive full faultless (On s) m h e =
    let f = follow_run t are positive full faultless e.steps s h.own h.follows e.is in
    record { ending = f.ending; ends = h.leads f.ending f.ends; is_sample = f.is_sample }

-- before the main function is entered
abbrev own_start : Copies → OwnState
own_start t = record {
  node = 0;
  copy = None;
  spots = [];
  watch = record { countdown = t.full.bank 0; drawn = 1; seen = []; work = no_work };
}

start_tally : (bank : ℕ → ℕ) → IsPositive bank → Tally bank [] [] (bank 0) 1
start_tally bank positive = record {
  due = omega arith;
  ahead = omega (arith, positive 0);
  last = λ draws e. let same : draws ≡ 0 = omega arith in omega (arith, ap (total_of bank) same);
  same = refl;
}

start_rest : (t : Copies) (count : ℕ) (b : Bool) → Rest t count count [] [] b
start_rest t count true = (refl, tt)
start_rest t count false = refl

begins : (t : Copies) (main turns : ℕ) (input : List ℕ) (made : Option Objects) → AreCopies t → IsPositive t.full.bank →
    Matches t (begin_with t.full main input turns made) (begin_with (sampled_code t) main input turns made)
begins t main turns input None are positive =
    over_both t (at_start t.full input turns no_objects) (own_start t) (t.full.bank 0) (Trapped StackOverflow) (start_tally t.full.bank positive)
begins t main turns input (Some objects) are positive =
    enter_by t (at_start t.full input turns objects) (own_start t) (t.full.bank 0) main [] (t.full.callee main) (start_tally t.full.bank positive)
    (at_entry t (at_start t.full input turns objects) (own_start t) (t.full.bank 0) main are (start_tally t.full.bank positive)
    (start_rest t (t.full.bank 0) (t.weighty main)))

-- the sampled program's code, but for its nodes
same_code : (p : ProgramParts) (gs : List Function) (bank : ℕ → ℕ) (c : Pair p gs) → sampled_code (copies_of p gs bank c) ≡ code_of (record p { functions = gs }) bank
same_code p gs bank c =
    let t = copies_of p gs bank c in
    let callees : t.full.callee ≡ (λ (function : ℕ). callee_of (slice_get gs function)) =
    fun_ext (λ (function : ℕ). sym (same_callee p gs c function (slice_get p.functions function) (slice_get gs function) refl refl))
    in
    ap (λ (callee : ℕ → Option Callee). let code : Code = record (sampled_code t) { callee = callee } in code) callees

with_functions : (p : ProgramParts) (gs : List Function) (input : List ℕ) (bank : ℕ → ℕ) (turns : ℕ) (full : Ending) → IsProgram p → MayClone p → IsReady p →
    Pair p gs → IsPositive bank → MachineEnds p input bank turns full → Faultless full → RunsLike p (record p { functions = gs }) input bank turns full
with_functions p gs input bank turns full is may ready c positive ends faultless =
    let t = copies_of p gs bank c in
    let are = are_copies p gs bank c is may ready in
    let made = each_made (program_objects p) no_objects in
    let f = ends_by t are positive full faultless (begin_with t.full p.main input turns made)
    (begin_with (sampled_code t) p.main input turns made) (begins t p.main turns input made are positive) ends
    in
    record {
      ending = f.ending;
      ends = subst (λ (code : Code). EndsFrom code (begin_with code p.main input turns made) f.ending) (same_code p gs bank c) f.ends;
      is_sample = f.is_sample;
      counts = ap (λ (seen : List Observation). counts_of p.sites seen) f.is_sample.seen;
    }

same_parts : (p q : ProgramParts) → Cloned p q → (let parts : ProgramParts = record p { functions = q.functions } in parts ≡ q)
same_parts p q c =
    ap (λ (texts : List Text). parts_of texts p.globals q.functions p.main p.sites) (sym c.texts)
    ∙ ap (λ (globals : List Global). parts_of q.texts globals q.functions p.main p.sites) (sym c.globals)
    ∙ ap (λ (main : ℕ). parts_of q.texts q.globals q.functions main p.sites) (sym c.main)
    ∙ ap (λ (sites : List Site). parts_of q.texts q.globals q.functions q.main sites) (sym c.sites)

pub sampled_runs : SampledRuns
sampled_runs p q is may ready c input bank turns full positive ends faultless =
    subst (λ (x : ProgramParts). RunsLike p x input bank turns full) (same_parts p q c)
    (with_functions p q.functions input bank turns full is may ready
    (record { weighty = c.weighty; are_weighty = c.are_weighty; few = c.functions.few; each = c.functions.each }) positive ends faultless)
