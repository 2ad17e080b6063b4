-- A call's node does what the function means.
use Rattle.std.proofs.Common.{◌≡◌, ℕ, zero, suc, ◌≤◌, ap, subst, sym, ◌∙◌, arith, List, [], ◌∷◌, ◌++◌, Some, None, Bool, true, false, length}
use Rattle.std.specs.Prelude.{Option, ◌==◌, if◌then◌else◌, nat_lt, reverse}
use Rattle.std.specs.List.{list_all}
use Rattle.std.specs.Option.{option_map}
use Rattle.cbi_base.specs.Words.{is_defined_value, active_limit, all_made, first_cells, Locals, Objects}
use Rattle.cbi_base.specs.declared.outcome.Outcome.TheVariants.{CutTurns, Trapped}
use Rattle.cbi_base.specs.declared.scalar.Scalar.{Scalar}
use Rattle.cbi_base.specs.declared.trap.Trap.TheVariants as trap
use Rattle.c_syntax.specs.StatementTree.{EntryList}
use Rattle.flow.specs.declared.node.View.TheVariants as view
use Rattle.flow.specs.Words.{call_with, entered_with_locals, has_result, caller_waiting, Code, next_of, step, Lacks, Takes, operands_taken, Frame, State, Watch, run_ended}
use Rattle.flow.specs.Calls as flow_calls
use Rattle.flow.proofs.Endings.{ends_over, leads_one}
use Rattle.c_meaning.specs.Words.{all_defined, Signature, Source, call_at, enter_function, enter_with, body_world, left_function, locals_at, run_body, value_left}
use Rattle.c_meaning.specs.Words.{locals_of, gives_value, has_value, World, Out, Go, Stop, Flow, bind, one_turn_spent}
use Rattle.lower_relation.specs.Functions.{BodyDoes, BodyIn, Lowered, callee_with, graph_of_nodes}
use Rattle.lower_relation.proofs.Flows.{Executes, flow_at, flow_post}
use Rattle.lower_relation.proofs.Leaving.{comes_ok, frame_of, leave_ok}
use Rattle.lower_relation.proofs.Reach.{now_of, Stack, Reach, first, le_self, reach_bind, state_at}
use Rattle.lower_relation.proofs.Sounds.{CallsSound, Standing, bare, result_on, state, stuck_ok}
use Rattle.lower_relation.proofs.StatementSounds.{exec_all_ok}
use Rattle.lower_relation.proofs.Taken.{several_on}

module _ (code : Code) (watch : Watch) (src : Source) (lowered : Lowered code src) where
  -- the function with this number knows what a call knows of it
  pub callee_is : (number : ℕ) (s : Signature) → src.facts.signature number ≡ Some s → code.callee number ≡ Some (callee_with s)
  callee_is number s sig = lowered.callees number ∙ ap (option_map callee_with) sig

  -- the graph of a function's body, in a run of the function
  abbrev pub running : (number : ℕ) (s : Signature) → BodyIn code src number s → List Frame → Locals → ℕ → Standing
  running number s b below locals turns = record {
    code = code;
    function = number;
    graph = graph_of_nodes b.nodes;
    ren = b.ren;
    stands = b.stands;
    below = below;
    locals = locals;
    watch = watch;
    turns = turns;
  }

  module _ (n : ℕ) (calls : CallsSound code watch src.facts n (call_at src n)) where
    -- the graph does the body
    pub body_does : (number : ℕ) (s : Signature) (b : BodyIn code src number s) (below : List Frame) (w : World) (o : Option EntryList)
        → Executes (running number s b below (locals_at s w) n) (run_body src (call_at src n) n s (locals_at s w) o)
        (BodyDoes (graph_of_nodes b.nodes) src.facts src.sites s.result o)
    body_does number s b below w None = stuck_ok (running number s b below (locals_at s w) n) bare flow_at flow_post
    body_does number s b below w (Some body) =
        let z : Standing = running number s b below (locals_at s w) n in
        exec_all_ok z src.facts src.sites lowered.agrees (call_at src n) calls s.result body

    module _ (f node : ℕ) (operands : Stack) (locals : Locals) (below : List Frame) (number : ℕ) (s : Signature)
        (sig : src.facts.signature number ≡ Some s) where
      -- the caller, to which the function gives its result
      abbrev caller : Scalar → World → State
      caller v u = state_at watch f below locals node (result_on (has_value s.result) v operands) u

      -- what comes after the body
      abbrev leaves : World → Flow → World → Out Scalar
      leaves w flow y = bind (value_left (number == src.main) (has_value s.result) flow y) (left_function (locals_at s w))

      -- the caller waits
      abbrev waits : ℕ → Stack → World → State
      waits i ys w = caller_waiting node (now_of locals operands w) (state_at watch f below locals i ys w)

      -- the body, and the end of the function
      body_ok : (w u : World) → u.turns ≤ n
          → Reach code watch (state_at watch number (frame_of f node operands locals ∷ below) (locals_at s w) 0 [] u) u.turns
          (bind (run_body src (call_at src n) n s (locals_at s w) (src.body number) u) (leaves w)) caller
      body_ok w u le =
          let b : BodyIn code src number s = lowered.bodies number s sig in
          let z : Standing = running number s b below (locals_at s w) n in
          let y : Standing = running number s b (frame_of f node operands locals ∷ below) (locals_at s w) n in
          rw b.first_node at
          (first code watch (state y b.start [] u) (state y b.entry [] u) u.turns u.turns
          (bind (run_body src (call_at src n) n s (locals_at s w) (src.body number) u) (leaves w)) caller
          (comes_ok y b.start b.entry [] u b.begins) (le_self u.turns)
          (reach_bind code watch (state y b.entry [] u) u.turns (run_body src (call_at src n) n s (locals_at s w) (src.body number) u) _ _ _
          ((body_does number s b (frame_of f node operands locals ∷ below) w (src.body number)).runs b.entry b.exits [] u le b.runs)
          (λ flow t l. leave_ok z f node operands locals b.exits (number == src.main) (has_value s.result)
          (ap has_result (callee_is number s sig)) b.leaves flow t
          (omega (arith, l, le)))))

      -- the function is entered, or there is no room for it
      entry_ok : (i m : ℕ) (ys : Stack) (w u : World) (allowed : Bool) (made : Option Objects) → u.turns ≤ n → u.turns ≤ m
          → step code (state_at watch f below locals i ys w)
          ≡ (if allowed then entered_with_locals number (callee_with s) (waits i ys u) made else run_ended (Trapped trap.StackOverflow) (waits i ys u))
          → Reach code watch (state_at watch f below locals i ys w) m
          (bind (if allowed then enter_with src (call_at src n) n number s u made else Stop (Trapped trap.StackOverflow) u) (leaves u)) caller
      entry_ok i m ys w u false made le lt e = ends_over code _ _ e
      entry_ok i m ys w u true None le lt e = ends_over code _ _ e
      entry_ok i m ys w u true (Some objects) le lt e =
          first code watch _ _ _ _ (bind (run_body src (call_at src n) n s (locals_at s u) (src.body number) (body_world objects u)) (leaves u)) caller
          (leads_one code _ _ e) lt (body_ok u (body_world objects u) le)

      -- the arguments are taken, or one of them is undefined
      taken_ok : (i m : ℕ) (args : Stack) (w u : World) (defined : Bool) → u.turns ≤ n → u.turns ≤ m
          → step code (state_at watch f below locals i (args ++ operands) w)
          ≡ call_with (Some (callee_with s)) number node (if defined then Takes (reverse args) (now_of locals operands u) else Lacks trap.Undefined)
          (state_at watch f below locals i (args ++ operands) u)
          → Reach code watch (state_at watch f below locals i (args ++ operands) w) m
          (bind (if defined then Go (reverse args) u else Stop (Trapped trap.Undefined) u)
          (λ vs _. bind (enter_function src (call_at src n) n number (Some s) vs u) (leaves u))) caller
      taken_ok i m args w u false le lt e = ends_over code _ _ e
      taken_ok i m args w u true le lt e =
          entry_ok i m (args ++ operands) w u (nat_lt u.active active_limit) (all_made (first_cells (reverse args) s.locals) u.objects) le lt e

      call_step : (i : ℕ) (args : Stack) (u : World) (m : ℕ) → code.at f i ≡ view.Calls number node → length args ≡ length s.params
          → step code (state_at watch f below locals i (args ++ operands) (record u { turns = suc m }))
          ≡ call_with (Some (callee_with s)) number node
          (if list_all is_defined_value args then Takes (reverse args) (now_of locals operands u) else Lacks trap.Undefined)
          (state_at watch f below locals i (args ++ operands) (record u { turns = m }))
      unfolding next_of
      call_step i args u m at l =
          let st : State = state_at watch f below locals i (args ++ operands) (record u { turns = m }) in
          ap (λ v. next_of code v (state_at watch f below locals i (args ++ operands) (record u { turns = suc m }))) at
          ∙ ap (λ c. flow_calls.call c number node st) (callee_is number s sig)
          ∙ ap (λ t. call_with (Some (callee_with s)) number node t st) (ap (λ c. operands_taken c st.now) (sym l) ∙ several_on locals args operands u)

      -- a turn is spent, or none is left
      turn_ok : (i : ℕ) (args : Stack) (w : World) (t : ℕ) → t ≤ suc n → code.at f i ≡ view.Calls number node → length args ≡ length s.params
          → Reach code watch (state_at watch f below locals i (args ++ operands) (record w { turns = t })) t
          (one_turn_spent t (record w { turns = t }) (λ u.
          bind (all_defined args u) (λ vs _. bind (enter_function src (call_at src n) n number (Some s) vs u) (leaves u)))) caller
      unfolding next_of
      turn_ok i args w zero le at l =
          ends_over code _ _ (ap (λ v. next_of code v (state_at watch f below locals i (args ++ operands) (record w { turns = 0 }))) at)
      turn_ok i args w (suc t) le at l =
          taken_ok i (suc t) args (record w { turns = suc t }) (record w { turns = t }) (list_all is_defined_value args) (omega (arith, le)) (omega arith)
          (call_step i args w t at l)

  -- no turn is left
  cut_ok : (f : ℕ) (below : List Frame) (locals : Locals) (number i k : ℕ) (ys : Stack) (w : World) (t : ℕ) (caller : Scalar → World → State) → t ≤ 0
      → code.at f i ≡ view.Calls number k → Reach code watch (state_at watch f below locals i ys (record w { turns = t })) t (Stop CutTurns w) caller
  unfolding next_of
  cut_ok f below locals number i k ys w zero caller le at = ends_over code _ _
      (ap (λ v. next_of code v (state_at watch f below locals i ys (record w { turns = 0 }))) at)
  cut_ok f below locals number i k ys w (suc t) caller le at = absurd (omega (arith, le))

  -- every call does what its function means
  pub calls_ok : (n : ℕ) → CallsSound code watch src.facts n (call_at src n)
  calls_ok zero = record {
    by = λ f below locals number s i k args xs w le at sig l.
        cut_ok f below locals number i k (args ++ xs) w w.turns (λ v u. state_at watch f below locals k (result_on (has_value s.result) v xs) u) le at;
  }
  calls_ok (suc n) = record {
    by = λ f below locals number s i k args xs w le at sig l.
        subst (λ o. Reach code watch (state_at watch f below locals i (args ++ xs) w) w.turns
        (one_turn_spent w.turns w (λ u. bind (all_defined args u) (λ vs _. bind (enter_function src (call_at src n) n number o vs u) (λ flow y.
        bind (value_left (number == src.main) (gives_value o) flow y) (left_function (locals_of o u))))))
        (λ v u. state_at watch f below locals k (result_on (has_value s.result) v xs) u))
        (sym sig) (turn_ok n (calls_ok n) f k xs locals below number s sig i args w w.turns le at l);
  }
