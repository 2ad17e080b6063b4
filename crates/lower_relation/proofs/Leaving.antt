-- How control comes to the body of a function, and how the function is left as its body comes to its end.
use Rattle.std.proofs.Common.{◌≡◌, ℕ, ◌≤◌, refl, ap, ◌∙◌, [], ◌∷◌, Some, None, Bool, true, false}
use Rattle.std.specs.Prelude.{pos}
use Rattle.cbi_base.specs.Frames.{Locals}
use Rattle.cbi_base.specs.declared.scalar.Kind.TheVariants.{Int}
use Rattle.cbi_base.specs.declared.scalar.Scalar.{Scalar}
use Rattle.cbi_base.specs.declared.scalar.Scalar.TheVariants.{Number, Undefined}
use Rattle.flow.specs.declared.node.Node.TheVariants as node
use Rattle.flow.specs.declared.node.View.TheVariants as view
use Rattle.flow.specs.Words.{left_with_value, has_result, left_without_value, RunLeads, next_of, step, Takes, row_effect, Frame, State}
use Rattle.flow.proofs.Endings.{ends_over, leads_one}
use Rattle.c_meaning.specs.Words.{left_function, value_left, World, Out, Go, Flow, Next, Broken, Continued, Returned, bind, stuck_run}
use Rattle.lower_relation.specs.Functions.{ComesTo, Stays, Passes, EndsAt, GivesAt, FunctionExits}
use Rattle.lower_relation.specs.Paths.{Does, Exits, Stuck}
use Rattle.lower_relation.proofs.Flows.{flow_at, flow_post}
use Rattle.lower_relation.proofs.Reach.{Stack, Reach, first, le_self, state_at}
use Rattle.lower_relation.proofs.Sounds.{Standing, now, result_on, row_goes, stay, state, stuck_ok, to}

module _ (z : Standing) (has : Bool) (result : has_result (z.code.callee z.function) ≡ has) where
  pub gives_step : (i : ℕ) (v : Scalar) (u : World) → z.graph i view.Gives → step z.code (state z i (v ∷ []) u)
      ≡ left_with_value has (Takes v (now z [] u)) (state z i (v ∷ []) u)
  unfolding next_of
  gives_step i v u g =
      ap (λ x. next_of z.code x (state z i (v ∷ []) u)) (z.stands.at i _ g) ∙ ap (λ b. left_with_value b (Takes v (now z [] u)) (state z i (v ∷ []) u)) result

  pub quits_step : (i : ℕ) (u : World) → z.graph i view.Quits → step z.code (state z i [] u) ≡ left_without_value z.below has (state z i [] u)
  unfolding next_of
  quits_step i u g = ap (λ x. next_of z.code x (state z i [] u)) (z.stands.at i _ g) ∙ ap (λ b. left_without_value z.below b (state z i [] u)) result

  -- `main` ends with 0
  pub zero_pushed : (i k : ℕ) (u : World) → Does z.graph (node.Push Int (pos 0) 0) i k → RunLeads z.code (state z i [] u) (state z k (Number Int (pos 0) ∷ []) u)
  unfolding row_effect
  zero_pushed i k u h = row_goes z (node.Push Int (pos 0) 0) i k [] (Number Int (pos 0) ∷ []) u u h refl refl refl refl

-- control comes to the body
pub comes_ok : (z : Standing) (i k : ℕ) (xs : Stack) (w : World) → ComesTo z.graph i k → RunLeads z.code (state z i xs w) (state z k xs w)
unfolding row_effect
comes_ok z i k xs w (Stays e) = stay z i k xs w e
comes_ok z i k xs w (Passes h) = row_goes z (node.Pass 0) i k xs xs w w h refl refl refl refl

-- a function that waits, with no copy of the countdown
abbrev pub frame_of : ℕ → ℕ → Stack → Locals → Frame
frame_of f node operands locals = record { function = f; node = node; operands = operands; locals = locals; copy = None }

-- the function below goes on
module _ (below_it : Standing) (f node : ℕ) (operands : Stack) (locals : Locals) where
  abbrev pub z : Standing
  z = record below_it { below = frame_of f node operands locals ∷ below_it.below }

  -- the state of the function below, with the result on its operands
  abbrev pub back : Bool → Scalar → World → State
  back has v u = state_at z.watch f below_it.below locals node (result_on has v operands) u

  abbrev pub Returns : ℕ → Stack → World → Bool → Out Scalar → Type 0
  Returns i xs u has m = Reach z.code z.watch (state z i xs u) u.turns (bind m (left_function z.locals)) (back has)

  given_ok : (i : ℕ) (v : Scalar) (u : World) → step z.code (state z i (v ∷ []) u) ≡ left_with_value true (Takes v (now z [] u)) (state z i (v ∷ []) u)
      → (is_main : Bool) → Returns i (v ∷ []) u true (value_left is_main true (Returned (Some v)) u)
  given_ok i Undefined u e is_main = ends_over z.code _ _ e
  given_ok i v u e is_main = (leads_one z.code _ _ e, le_self u.turns)

  left_ok : (i : ℕ) (u : World) (has : Bool) → step z.code (state z i [] u) ≡ left_without_value z.below has (state z i [] u) → Returns i [] u has (Go Undefined u)
  left_ok i u true e = (leads_one z.code _ _ e, le_self u.turns)
  left_ok i u false e = (leads_one z.code _ _ e, le_self u.turns)

  stuck_at : (i : ℕ) (xs : Stack) (u : World) (has : Bool) → u.turns ≤ z.turns → Stuck z.graph {K = ℕ} i 0 → Returns i xs u has (stuck_run u)
  stuck_at i xs u has le h = (stuck_ok z {A = Scalar} {K = ℕ} (λ ys. ys) to (result_on has)).runs i 0 xs u le h

  ended_ok : (x : Exits) (is_main has : Bool) → has_result (z.code.callee z.function) ≡ has → z.graph x.leaves view.Quits → GivesAt z.graph has x.gives
      → EndsAt z.graph is_main has x → (u : World) → Returns x.next [] u has (value_left is_main has Next u)
  ended_ok x true true result leaves gives ends u =
      first z.code z.watch _ _ u.turns u.turns (bind (value_left true true Next u) (left_function z.locals)) (back true)
      (zero_pushed z true result x.next x.gives u ends) (le_self u.turns)
      (given_ok x.gives (Number Int (pos 0)) u (gives_step z true result x.gives (Number Int (pos 0)) u gives) true)
  ended_ok x false true result leaves gives ends u = rw ends (left_ok x.leaves u true (quits_step z true result x.leaves u leaves))
  ended_ok x true false result leaves gives ends u = rw ends (left_ok x.leaves u false (quits_step z false result x.leaves u leaves))
  ended_ok x false false result leaves gives ends u = rw ends (left_ok x.leaves u false (quits_step z false result x.leaves u leaves))

  -- however the body comes to its end
  pub leave_ok : (x : Exits) (is_main has : Bool) → has_result (z.code.callee z.function) ≡ has → FunctionExits z.graph is_main has x → (flow : Flow) (u : World)
      → u.turns ≤ z.turns → Returns (flow_at flow x) (flow_post flow []) u has (value_left is_main has flow u)
  leave_ok x is_main has result h Next u le = ended_ok x is_main has result h.1 h.0 h.2 u
  leave_ok x is_main true result h (Returned (Some v)) u le = given_ok x.gives v u (gives_step z true result x.gives v u h.0) is_main
  leave_ok x is_main false result h (Returned (Some v)) u le = stuck_at x.gives (v ∷ []) u false le h.0
  leave_ok x is_main true result h (Returned None) u le = left_ok x.leaves u true (quits_step z true result x.leaves u h.1)
  leave_ok x is_main false result h (Returned None) u le = left_ok x.leaves u false (quits_step z false result x.leaves u h.1)
  leave_ok x is_main true result h Broken u le = stuck_at x.breaks [] u true le h.3
  leave_ok x is_main false result h Broken u le = stuck_at x.breaks [] u false le h.3
  leave_ok x is_main true result h Continued u le = stuck_at x.continues [] u true le h.4
  leave_ok x is_main false result h Continued u le = stuck_at x.continues [] u false le h.4
