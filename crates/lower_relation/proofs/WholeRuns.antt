-- A whole run, from its beginning to its end.
use Rattle.std.proofs.Common.{◌≡◌, ℕ, ◌≤◌, refl, ap, subst, sym, arith, List, [], ◌∷◌, Some, None, Bool, true, false, eq-eqb}
use Rattle.std.specs.Prelude.{Option, pos}
use Rattle.std.specs.Option.{option_map}
use Rattle.cbi_base.specs.Words.{each_made, Objects, no_objects}
use Rattle.cbi_base.specs.declared.scalar.Kind.TheVariants.{Char, Int, Unsigned}
use Rattle.cbi_base.specs.declared.scalar.Scalar.{Scalar}
use Rattle.cbi_base.specs.declared.scalar.Scalar.TheVariants.{Number, Place, Null, Undefined}
use Rattle.flow.specs.declared.node.View.TheVariants as view
use Rattle.flow.specs.declared.program.ProgramParts.{ProgramParts}
use Rattle.flow.specs.Words.{left_with_value, has_result, left_without_value, Code, code_of, Ends, EndsFrom, MachineEnds, at_start, run_start, begin_with, no_work, step, program_objects}
use Rattle.flow.specs.Words.{Takes, Ending, State, Watch}
use Rattle.flow.specs.Calls as flow_calls
use Rattle.flow.proofs.Endings.{ends_over, one_end_from}
use Rattle.c_meaning.specs.Words.{Signature, Source, run_behaviour, call_at, enter_function, enter_with, first_world, gives_value, body_world, locals_at, meaning}
use Rattle.c_meaning.specs.Words.{run_body, run_from, run_main, value_left, has_value, World, Out, Go, Stop, Flow, Next, Broken, Continued, Returned, bind}
use Rattle.c_meaning.specs.Words.{stuck_run}
use Rattle.lower_relation.specs.Functions.{BodyIn, EndsAt, GivesAt, IsGraphOf, FunctionExits, Lowered, callee_with, ending_of}
use Rattle.lower_relation.specs.Paths.{Exits, Stuck}
use Rattle.lower_relation.proofs.FunctionSounds.{body_does, callee_is, calls_ok, running}
use Rattle.lower_relation.proofs.Flows.{flow_at, flow_post}
use Rattle.lower_relation.proofs.Leaving.{comes_ok, gives_step, quits_step, zero_pushed}
use Rattle.lower_relation.proofs.Reach.{Stack, Reach, le_self, state_at}
use Rattle.lower_relation.proofs.Sounds.{Standing, now, state, stuck_ok, to}

-- the watch of a run: one number is drawn
abbrev pub first_watch : (ℕ → ℕ) → Watch
first_watch bank = record { countdown = bank 0; drawn = 1; seen = []; work = no_work }

module _ (bank : ℕ → ℕ) where
  reach_end : {A : Type 0} (code : Code) (s : State) (t : ℕ) (m : Out A) (k : A → World → State) (f : A → World → Out Scalar)
      → Reach code (first_watch bank) s t m k → ((a : A) (u : World) → u.turns ≤ t → Ends code (k a u) (ending_of (run_behaviour (f a u))))
      → Ends code s (ending_of (run_behaviour (bind m f)))
  reach_end code s t (Go a u) k f r g = r.0.by _ (g a u r.1)
  reach_end code s t (Stop o u) k f r g = r

  -- how `main` is left, which no function waits for
  module _ (y : Standing) where
    abbrev z : Standing
    z = record y { below = []; watch = first_watch bank }

    abbrev EndsAs : ℕ → Stack → World → Out Scalar → Type 0
    EndsAs i xs u m = Ends z.code (state z i xs u) (ending_of (run_behaviour m))

    given_ends : (i : ℕ) (v : Scalar) (u : World) → step z.code (state z i (v ∷ []) u) ≡ left_with_value true (Takes v (now z [] u)) (state z i (v ∷ []) u)
        → EndsAs i (v ∷ []) u (value_left true true (Returned (Some v)) u)
    given_ends i (Number Int status) u e = ends_over z.code _ _ e
    given_ends i (Number Char status) u e = ends_over z.code _ _ e
    given_ends i (Number Unsigned status) u e = ends_over z.code _ _ e
    given_ends i (Place object offset) u e = ends_over z.code _ _ e
    given_ends i Null u e = ends_over z.code _ _ e
    given_ends i Undefined u e = ends_over z.code _ _ e

    left_ends : (i : ℕ) (u : World) (has : Bool) → step z.code (state z i [] u) ≡ left_without_value [] has (state z i [] u) → EndsAs i [] u (Go Undefined u)
    left_ends i u has e = ends_over z.code _ _ e

    stuck_ends : (i : ℕ) (xs : Stack) (u : World) → u.turns ≤ z.turns → Stuck z.graph {K = ℕ} i 0 → EndsAs i xs u (stuck_run u)
    stuck_ends i xs u le h = (stuck_ok z {A = Scalar} {K = ℕ} (λ ys. ys) to (λ _ ys. ys)).runs i 0 xs u le h

    ended_ends : (x : Exits) (has : Bool) → has_result (z.code.callee z.function) ≡ has → z.graph x.leaves view.Quits → GivesAt z.graph has x.gives
        → EndsAt z.graph true has x → (u : World) → EndsAs x.next [] u (value_left true has Next u)
    ended_ends x true result leaves gives ends u =
        (zero_pushed z true result x.next x.gives u ends).by _
        (given_ends x.gives (Number Int (pos 0)) u (gives_step z true result x.gives (Number Int (pos 0)) u gives))
    ended_ends x false result leaves gives ends u = rw ends (left_ends x.leaves u false (quits_step z false result x.leaves u leaves))

    leave_ends : (x : Exits) (has : Bool) → has_result (z.code.callee z.function) ≡ has → FunctionExits z.graph true has x → (flow : Flow) (u : World)
        → u.turns ≤ z.turns
        → EndsAs (flow_at flow x) (flow_post flow []) u (value_left true has flow u)
    leave_ends x has result h Next u le = ended_ends x has result h.1 h.0 h.2 u
    leave_ends x true result h (Returned (Some v)) u le = given_ends x.gives v u (gives_step z true result x.gives v u h.0)
    leave_ends x false result h (Returned (Some v)) u le = stuck_ends x.gives (v ∷ []) u le h.0
    leave_ends x true result h (Returned None) u le = left_ends x.leaves u true (quits_step z true result x.leaves u h.1)
    leave_ends x false result h (Returned None) u le = left_ends x.leaves u false (quits_step z false result x.leaves u h.1)
    leave_ends x true result h Broken u le = stuck_ends x.breaks [] u le h.3
    leave_ends x false result h Broken u le = stuck_ends x.breaks [] u le h.3
    leave_ends x true result h Continued u le = stuck_ends x.continues [] u le h.4
    leave_ends x false result h Continued u le = stuck_ends x.continues [] u le h.4

module _ (src : Source) (p : ProgramParts) (is : IsGraphOf src p) (input : List ℕ) (bank : ℕ → ℕ) (turns : ℕ) where
  abbrev code : Code
  code = code_of p bank

  abbrev lowered : Lowered code src
  lowered = is.lowered bank

  -- `main` does its body
  main_ok : (s : Signature) → src.facts.signature src.main ≡ Some s → (w u : World) → u.turns ≤ turns
      → Ends code (state_at (first_watch bank) src.main [] (locals_at s w) 0 [] u)
      (ending_of (run_behaviour (bind (run_body src (call_at src turns) turns s (locals_at s w) (src.body src.main) u) (value_left true (has_value s.result)))))
  main_ok s sig w u le =
      let b : BodyIn code src src.main s = lowered.bodies src.main s sig in
      let z : Standing = running code (first_watch bank) src lowered src.main s b [] (locals_at s w) turns in
      rw b.first_node at ((comes_ok z b.start b.entry [] u b.begins).by _
      (reach_end bank code (state z b.entry [] u) u.turns (run_body src (call_at src turns) turns s (locals_at s w) (src.body src.main) u)
      (λ flow y. state z (flow_at flow b.exits) (flow_post flow []) y) (value_left true (has_value s.result))
      ((body_does code (first_watch bank) src lowered turns (calls_ok code (first_watch bank) src lowered turns) src.main s b [] w (src.body src.main)).runs
      b.entry b.exits [] u le b.runs)
      (λ flow y l. leave_ends bank z b.exits (has_value s.result) (ap has_result (callee_is code (first_watch bank) src lowered src.main s sig))
      (subst (λ t. FunctionExits z.graph t (has_value s.result) b.exits) (eq-eqb src.main src.main refl) b.leaves) flow y (omega (arith, l, le)))))

  -- the variables of `main` are made
  made_ok : (s : Signature) → src.facts.signature src.main ≡ Some s → (objects : Objects) (made : Option Objects)
      → EndsFrom code (flow_calls.entered_with_locals src.main (callee_with s) (at_start code input turns objects) made)
      (ending_of (run_behaviour (bind (enter_with src (call_at src turns) turns src.main s (first_world objects input turns) made)
      (value_left true (has_value s.result)))))
  made_ok s sig objects None = refl
  made_ok s sig objects (Some made) = main_ok s sig (first_world objects input turns) (body_world made (first_world objects input turns)) (le_self turns)

  -- `main` is entered
  entered_ok : (objects : Objects) (o : Option Signature) → src.facts.signature src.main ≡ o
      → EndsFrom code (flow_calls.function_entered (option_map callee_with o) src.main [] (at_start code input turns objects))
      (ending_of (run_behaviour (bind (enter_function src (call_at src turns) turns src.main o [] (first_world objects input turns)) (value_left true (gives_value o)))))
  entered_ok objects None sig = refl
  entered_ok objects (Some s) sig = made_ok s sig objects _

  -- the objects of the beginning are made
  begun_ok : (made : Option Objects) → EndsFrom code (begin_with code src.main input turns made) (ending_of (run_behaviour (run_from src input turns made)))
  begun_ok None = refl
  begun_ok (Some objects) =
      subst (λ c. EndsFrom code (flow_calls.function_entered c src.main [] (at_start code input turns objects))
      (ending_of (run_behaviour (run_from src input turns (Some objects)))))
      (sym (lowered.callees src.main)) (entered_ok objects (src.facts.signature src.main) refl)

  pub run_ok : MachineEnds p input bank turns (ending_of (meaning src input turns))
  unfolding meaning
  run_ok =
      subst (λ main. EndsFrom code (begin_with code main input turns (each_made (program_objects p) no_objects))
      (ending_of (run_behaviour (run_main src input turns src.objects)))) (sym is.main)
      (subst (λ o. EndsFrom code (begin_with code src.main input turns (each_made (program_objects p) no_objects))
      (ending_of (run_behaviour (run_main src input turns o)))) (sym is.objects)
      (begun_ok (each_made (program_objects p) no_objects)))

  pub only_ending : (ending : Ending) → MachineEnds p input bank turns ending → ending ≡ ending_of (meaning src input turns)
  only_ending ending h = one_end_from code (run_start p input bank turns) ending (ending_of (meaning src input turns)) h run_ok
