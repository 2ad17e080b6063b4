-- Loops: the rounds of a loop, each of which but the first one spends a turn.
use Rattle.std.proofs.Common.{◌≡◌, ℕ, zero, suc, ◌≤◌, refl, ap, arith, Bool, true, false}
use Rattle.cbi_base.specs.declared.outcome.Outcome.TheVariants.{CutTurns}
use Rattle.flow.specs.declared.node.View.TheVariants as view
use Rattle.flow.specs.Words.{next_of, State}
use Rattle.flow.proofs.Endings.{ends_over, leads_one}
use Rattle.c_meaning.specs.Words.{after_body, do_round, for_round, loop_rounds, while_round, World, Out, Go, Stop, OutDone, Flow, Next, Broken, Continued, Returned}
use Rattle.c_meaning.specs.Words.{bind, chosen_part, one_turn_spent}
use Rattle.lower_relation.specs.Paths.{Path, Exits, Ways}
use Rattle.lower_relation.specs.Statements.{DoWhileLoop, ForLoop, WhileLoop, within_loop}
use Rattle.lower_relation.proofs.Flows.{Executes, Flows, flow_at, flow_post, returned_on}
use Rattle.lower_relation.proofs.Reach.{Stack, Reach, first, here, le_self, reach_bind}
use Rattle.lower_relation.proofs.Sounds.{Standing, Sound, bare, none, state, stay, to, way}

module _ (z : Standing) where
  -- a round is sound wherever what comes after its body is
  abbrev RoundSound : ((World → Out Flow) → World → Out Flow) → ℕ → ℕ → Exits → Stack → Type 0
  RoundSound round head again x xs = (b : ℕ) → b ≤ z.turns → (next : World → Out Flow) → Flows z again xs x b next → Flows z head xs x b (round next)

  no_turn : (again head : ℕ) (xs : Stack) (w : World) (k : Flow → World → State) (t : ℕ) → t ≤ 0 → z.graph again (view.Turns head)
      → Reach z.code z.watch (state z again xs (record w { turns = t })) t (Stop CutTurns w) k
  unfolding next_of
  no_turn again head xs w k zero le g = ends_over z.code _ _ (ap (λ v. next_of z.code v (state z again xs (record w { turns = 0 }))) (z.stands.at again _ g))
  no_turn again head xs w k (suc t) le g = absurd (omega (arith, le))

  one_turn : (again head b : ℕ) (xs : Stack) (w : World) (k : Flow → World → State) (go : World → Out Flow) (t : ℕ) → t ≤ suc b
      → z.graph again (view.Turns head)
      → ((u : World) → u.turns ≤ b → Reach z.code z.watch (state z head xs u) u.turns (go u) k)
      → Reach z.code z.watch (state z again xs (record w { turns = t })) t (one_turn_spent t (record w { turns = t }) go) k
  unfolding next_of
  one_turn again head b xs w k go zero le g h = ends_over z.code _ _
      (ap (λ v. next_of z.code v (state z again xs (record w { turns = 0 }))) (z.stands.at again _ g))
  one_turn again head b xs w k go (suc t) le g h =
      first z.code z.watch _ _ _ _ (go (record w { turns = t })) _
      (leads_one z.code _ _ (ap (λ v. next_of z.code v (state z again xs (record w { turns = suc t }))) (z.stands.at again _ g))) (omega arith)
      (h (record w { turns = t }) (omega (arith, le)))

  rounds_ok : (round : (World → Out Flow) → World → Out Flow) (head again : ℕ) (x : Exits) (xs : Stack) → z.graph again (view.Turns head)
      → RoundSound round head again x xs
      → (r : ℕ) → r ≤ z.turns → Flows z head xs x r (loop_rounds r round)
  rounds_ok round head again x xs g sound zero le w l = sound 0 le (Stop CutTurns)
      (λ u l'. no_turn again head xs u (λ a y. state z (flow_at a x) (flow_post a xs) y) u.turns l' g) w l
  rounds_ok round head again x xs g sound (suc r) le w l =
      sound (suc r) le (λ u. one_turn_spent u.turns u (loop_rounds r round))
      (λ u l'. one_turn again head r xs u (λ a y. state z (flow_at a x) (flow_post a xs) y) (loop_rounds r round) u.turns l' g
      (rounds_ok round head again x xs g sound r (omega (arith, le)))) w l

  -- what comes after the body of a loop
  after : (x inner : Exits) (again : World → Out Flow) (b : ℕ) (xs : Stack) → inner.breaks ≡ x.next → inner.gives ≡ x.gives → inner.leaves ≡ x.leaves
      → Flows z inner.next xs x b again → Flows z inner.continues xs x b again
      → (t : ℕ) → t ≤ b → (a : Flow) (u : World) → u.turns ≤ t
      → Reach z.code z.watch (state z (flow_at a inner) (flow_post a xs) u) u.turns (after_body again a u) (λ y v. state z (flow_at y x) (flow_post y xs) v)
  after x inner again b xs brk gv lv goes cont t lt Next u l = goes u (omega (arith, l, lt))
  after x inner again b xs brk gv lv goes cont t lt Continued u l = cont u (omega (arith, l, lt))
  after x inner again b xs brk gv lv goes cont t lt Broken u l = (stay z inner.breaks x.next xs u brk, le_self u.turns)
  after x inner again b xs brk gv lv goes cont t lt (Returned v) u l = returned_on z v inner x xs u gv lv

  chosen : (holds : Bool) (yes_at no_at : ℕ) (x : Exits) (m q : World → Out Flow) (t b : ℕ) (xs : Stack) → t ≤ b → Flows z yes_at xs x b m
      → Flows z no_at xs x b q
      → (u : World) → u.turns ≤ t
      → Reach z.code z.watch (state z (way holds (record { yes_to = yes_at; no_to = no_at })) xs u) u.turns (chosen_part holds m q u)
      (λ a y. state z (flow_at a x) (flow_post a xs) y)
  chosen true yes_at no_at x m q t b xs lt p r u l = p u (omega (arith, l, lt))
  chosen false yes_at no_at x m q t b xs lt p r u l = r u (omega (arith, l, lt))

  -- a body, and what comes after it
  body_then : (body_at : ℕ) (x inner : Exits) (B : Path Exits) (body again : World → Out Flow) (b : ℕ) (xs : Stack) → b ≤ z.turns
      → inner.breaks ≡ x.next → inner.gives ≡ x.gives → inner.leaves ≡ x.leaves → Executes z body B → B body_at inner
      → Flows z inner.next xs x b again → Flows z inner.continues xs x b again → Flows z body_at xs x b (λ w. bind (body w) (after_body again))
  body_then body_at x inner B body again b xs le brk gv lv sound h goes cont w l =
      reach_bind z.code z.watch _ _ (body w) _ _ _ (sound.runs body_at inner xs w (omega (arith, l, le)) h)
      (after x inner again b xs brk gv lv goes cont w.turns l)

  -- a condition, and one of two ways
  test_then : (i yes_at : ℕ) (x : Exits) (c : World → Out Bool) (C : Path Ways) (m : World → Out Flow) (b : ℕ) (xs : Stack) → b ≤ z.turns
      → Sound z bare c C way none → C i (record { yes_to = yes_at; no_to = x.next }) → Flows z yes_at xs x b m
      → Flows z i xs x b (λ w. bind (c w) (λ holds. chosen_part holds m (Go Next)))
  test_then i yes_at x c C m b xs le sound h goes w l =
      reach_bind z.code z.watch _ _ (c w) _ _ _ (sound.runs i _ xs w (omega (arith, l, le)) h)
      (λ holds y ly. chosen holds yes_at x.next x m (Go Next) w.turns b xs l goes (λ v lv. (here z.code z.watch _, le_self v.turns)) y ly)

  pub while_ok : {c : World → Out Bool} {C : Path Ways} {body : World → Out Flow} {B : Path Exits} → Sound z bare c C way none → Executes z body B
      → Executes z (loop_rounds z.turns (while_round c body)) (WhileLoop z.graph C B)
  while_ok {c = c} {C = C} {body = body} {B = B} cs bs = record {
    runs = λ i x xs w le h.
        rounds_ok (while_round c body) i h.1 x xs h.4 (λ b lb next goes.
        test_then i h.0 x c C (λ v. bind (body v) (after_body next)) b xs lb cs h.2
        (body_then h.0 x (within_loop h.1 x.next x) B body next b xs lb refl refl refl bs h.3 goes goes)) z.turns (le_self z.turns) w le;
  }

  pub do_ok : {c : World → Out Bool} {C : Path Ways} {body : World → Out Flow} {B : Path Exits} → Sound z bare c C way none → Executes z body B
      → Executes z (loop_rounds z.turns (do_round c body)) (DoWhileLoop z.graph C B)
  do_ok {c = c} {C = C} {body = body} {B = B} cs bs = record {
    runs = λ i x xs w le h.
        rounds_ok (do_round c body) i h.1 x xs h.4 (λ b lb next goes.
        let test : Flows z h.0 xs x b (λ v. bind (c v) (λ holds. chosen_part holds next (Go Next))) = test_then h.0 h.1 x c C next b xs lb cs h.3 goes in
        body_then i x (within_loop h.0 x.next x) B body (λ v. bind (c v) (λ holds. chosen_part holds next (Go Next))) b xs lb refl refl refl bs h.2 test test)
        z.turns (le_self z.turns) w le;
  }

  pub for_ok : {c : World → Out Bool} {C : Path Ways} {step : World → OutDone} {S : Path ℕ} {body : World → Out Flow} {B : Path Exits}
      → Sound z bare c C way none → Sound z bare step S to none → Executes z body B
      → Executes z (loop_rounds z.turns (for_round c body step)) (ForLoop z.graph C S B)
  for_ok {c = c} {C = C} {step = step} {body = body} {B = B} cs ss bs = record {
    runs = λ i x xs w le h.
        rounds_ok (for_round c body step) i h.1 x xs h.6 (λ b lb next goes.
        let third : Flows z h.2 xs x b (λ v. bind (step v) (λ _. next)) =
        λ v lv. reach_bind z.code z.watch _ _ (step v) _ _ _ (ss.runs h.2 h.1 xs v (omega (arith, lv, lb)) h.5) (λ _ y ly. goes y (omega (arith, ly, lv)))
        in
        test_then i h.0 x c C (λ v. bind (body v) (after_body (λ u. bind (step u) (λ _. next)))) b xs lb cs h.3
        (body_then h.0 x (within_loop h.2 x.next x) B body (λ u. bind (step u) (λ _. next)) b xs lb refl refl refl bs h.4 third third))
        z.turns (le_self z.turns) w le;
  }
