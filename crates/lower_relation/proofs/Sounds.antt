-- A path of a graph is sound where it does what a part of a text means: how paths are put together.
use Rattle.std.proofs.Common.{◌≡◌, inl, inr, ℕ, ◌≤◌, refl, ap, sym, subst, arith, List, ◌∷◌, ◌++◌, Some, Ok, Err, Bool, true, false, length}
use Rattle.std.specs.Prelude.{Result, not, if◌then◌else◌, pos}
use Rattle.cbi_base.specs.Words.{Locals, Objects, truth_of}
use Rattle.cbi_base.specs.declared.scalar.Kind.TheVariants.{Char}
use Rattle.cbi_base.specs.declared.scalar.Scalar.{Scalar}
use Rattle.cbi_base.specs.declared.scalar.Scalar.TheVariants.{Number}
use Rattle.cbi_base.specs.declared.trap.Trap.{Trap}
use Rattle.flow.specs.declared.node.Node.{Node}
use Rattle.flow.specs.declared.node.Node.TheVariants as node
use Rattle.flow.specs.declared.node.View.TheVariants as view
use Rattle.flow.specs.Words.{Code, RunLeads, next_of, step, go_on, halt, branch_on_truth, Now, Goes, with_answer, row_effect, Frame, State, Watch}
use Rattle.flow.proofs.Endings.{ends_over, leads_one}
use Rattle.c_meaning.specs.Words.{Sense, Facts, Setting, Signature, Sites, has_value, truth_value, World, Out, Go, Caller, answer_or_trap, bind, chosen_part, value_discarded, no_effect}
use Rattle.c_meaning.specs.Words.{stuck_run}
use Rattle.c_meaning.specs.Visits as visit
use Rattle.lower_relation.specs.Paths.{Graph, Path, ◌then◌, Ways, Does, Either, Emitted, AlwaysFalse, ForkTo, Nothing, OneOf, PathOrStuck, Stuck, AlwaysTrue, SwappedWays}
use Rattle.lower_relation.specs.Stands.{Stands}
use Rattle.lower_relation.proofs.Reach.{now_of, Stack, Reach, bind_bind, first, here, le_self, reach_bind, reach_with, Holds, state_at}

-- a graph in a running function: with the functions below it, its locals, what the watch was, and at most so many turns
pub record Standing : Type 1 where
  pub code : Code
  pub function : ℕ
  pub graph : Graph
  pub ren : ℕ → ℕ
  pub stands : Stands code function graph ren
  pub below : List Frame
  pub locals : Locals
  pub watch : Watch
  pub turns : ℕ

-- a function's result on the operands, where it has one
abbrev pub result_on : Bool → Scalar → Stack → Stack
result_on true v xs = v ∷ xs
result_on false v xs = xs

-- Where at most so many turns are left, a call's node does what the function means.
pub record CallsSound (code : Code) (watch : Watch) (facts : Facts) (turns : ℕ) (call : Caller) : Type 0 where
  pub by : (function : ℕ) (below : List Frame) (locals : Locals) (number : ℕ) (f : Signature) (i k : ℕ) (args xs : Stack) (w : World) → w.turns ≤ turns
      → code.at function i ≡ view.Calls number k → facts.signature number ≡ Some f → length args ≡ length f.params
      → Reach code watch (state_at watch function below locals i (args ++ xs) w) w.turns (call number args w)
      (λ v u. state_at watch function below locals k (result_on (has_value f.result) v xs) u)

-- control goes on at the one node
abbrev pub to : {A : Type 0} → A → ℕ → ℕ
to a k = k

-- where a condition goes on
abbrev pub way : Bool → Ways → ℕ
way holds k = if holds then k.yes_to else k.no_to

abbrev pub bare : Stack → Stack
bare xs = xs

-- nothing is added to the operands
abbrev pub none : {A : Type 0} → A → Stack → Stack
none a xs = xs

-- a value is added to them
abbrev pub plus : Scalar → Stack → Stack
plus v xs = v ∷ xs

-- what stays while the body of the function runs
abbrev pub setting : Standing → Facts → Sites → Caller → Setting
setting z facts sites call = record { facts = facts; sites = sites; call = call; locals = z.locals }

module _ (z : Standing) where
  abbrev pub state : ℕ → Stack → World → State
  state i xs w = state_at z.watch z.function z.below z.locals (z.ren i) xs w

  abbrev pub now : Stack → World → Now
  now xs w = now_of z.locals xs w

  -- from node i with the operands `pre`, the graph comes to what m means, and goes on with the operands `post`
  pub record Sound {A K : Type 0} (pre : Stack → Stack) (m : World → Out A) (R : Path K) (at : A → K → ℕ) (post : A → Stack → Stack) : Type 0 where
    pub runs : (i : ℕ) (k : K) (xs : Stack) (w : World) → w.turns ≤ z.turns → R i k
        → Reach z.code z.watch (state i (pre xs) w) w.turns (m w) (λ a u. state (at a k) (post a xs) u)

  -- the same of the parts of an expression
  pub record SenseSound (m : Sense) (R : Emitted) : Type 0 where
    pub value : Sound bare m.value R.value to plus
    pub place : Sound bare m.place R.place to plus
    pub effect : Sound bare m.effect R.effect to none
    pub truth : Sound bare (λ w. bind (m.value w) visit.truth_value) R.truth way none

  pub seq : {A B K : Type 0} {pre : Stack → Stack} {m : World → Out A} {R : Path ℕ} {mid : A → Stack → Stack}
      {f : A → World → Out B} {S : Path K} {at : B → K → ℕ} {post : B → Stack → Stack}
      → Sound pre m R to mid → ((a : A) → Sound (mid a) (f a) S at post) → Sound pre (λ w. bind (m w) f) (R then S) at post
  seq {m = m} a b = record {
    runs = λ i k xs w le h.
        reach_bind z.code z.watch _ _ (m w) _ _ _ (a.runs i h.0 xs w le h.1) (λ x u l. (b x).runs h.0 k xs u (omega (arith, l, le)) h.2);
  }

  pub seq_with : {A B K : Type 0} {pre : Stack → Stack} {m : World → Out A} {R : Path ℕ} {mid : A → Stack → Stack}
      {f : A → World → Out B} {S : Path K} {at : B → K → ℕ} {post : B → Stack → Stack}
      → (P : A → Type 0) → ((w : World) → Holds P (m w)) → Sound pre m R to mid → ((a : A) → P a → Sound (mid a) (f a) S at post)
      → Sound pre (λ w. bind (m w) f) (R then S) at post
  seq_with {m = m} P kept a b = record {
    runs = λ i k xs w le h.
        reach_with z.code z.watch P _ _ (m w) _ _ _ (kept w) (a.runs i h.0 xs w le h.1) (λ x p u l. (b x p).runs h.0 k xs u (omega (arith, l, le)) h.2);
  }

  -- the same meaning, written in another way
  pub same_meaning : {A K : Type 0} {pre : Stack → Stack} {m m' : World → Out A} {R : Path K} {at : A → K → ℕ} {post : A → Stack → Stack}
      → ((w : World) → m w ≡ m' w) → Sound pre m R at post → Sound pre m' R at post
  same_meaning {pre = pre} {at = at} {post = post} e a = record {
    runs = λ i k xs w le h.
        subst (λ x. Reach z.code z.watch (state i (pre xs) w) w.turns x (λ a u. state (at a k) (post a xs) u)) (e w) (a.runs i k xs w le h);
  }

  -- one path after another, in parts
  pub grouped : {A K : Type 0} {pre : Stack → Stack} {m : World → Out A} {P Q : Path ℕ} {R : Path K} {at : A → K → ℕ} {post : A → Stack → Stack}
      → Sound pre m (P then Q then R) at post → Sound pre m ((P then Q) then R) at post
  grouped a = record { runs = λ i k xs w le h. a.runs i k xs w le (h.1.0, h.1.1, (h.0, h.1.2, h.2)) }

  -- no node between two paths
  pub joined : {A K : Type 0} {pre : Stack → Stack} {m : World → Out A} {P : Path ℕ} {R : Path K} {at : A → K → ℕ} {post : A → Stack → Stack}
      → Sound pre m (P then R) at post → Sound pre m (P then Nothing then R) at post
  joined {R = R} a = record { runs = λ i k xs w le h. a.runs i k xs w le (h.0, h.1, subst (λ j. R j k) (sym h.2.1) h.2.2) }

  -- nothing takes the value of the second part
  pub seq_done : {A B : Type 0} {pre : Stack → Stack} {m : World → Out A} {P Q R : Path ℕ} {mid : A → Stack → Stack} {post : Unit {0} → Stack → Stack}
      (f : A → World → Out B)
      → Sound pre m P to mid → ((a : A) → Sound (mid a) (λ w. value_discarded (f a w)) (Q then R) to post)
      → Sound pre (λ w. value_discarded (bind (m w) f)) ((P then Q) then R) to post
  seq_done {m = m} f a b = grouped (same_meaning (λ w. sym (bind_bind (m w) f (λ _. no_effect))) (seq a b))

  -- what comes after m is no node
  pub then_done : {A B K : Type 0} {pre : Stack → Stack} {m : World → Out A} {R : Path K}
      → (g : A → B) (at : B → K → ℕ) (post : B → Stack → Stack) → Sound pre m R (λ a k. at (g a) k) (λ a xs. post (g a) xs)
      → Sound pre (λ w. bind (m w) (λ a. Go (g a))) R at post
  then_done {m = m} g at post a = record {
    runs = λ i k xs w le h.
        reach_bind z.code z.watch _ _ (m w) _ _ _ (a.runs i k xs w le h) (λ x u l. (here z.code z.watch _, le_self u.turns));
  }

  pub under : {A K : Type 0} {pre : Stack → Stack} {m : World → Out A} {R : Path K} {at : A → K → ℕ} {post : A → Stack → Stack}
      → (below : Stack → Stack) → Sound pre m R at post → Sound (λ xs. pre (below xs)) m R at (λ a xs. post a (below xs))
  under below a = record { runs = λ i k xs w le h. a.runs i k (below xs) w le h }

  -- a step to a row's node
  pub row : (op : Node) (i k : ℕ) (xs : Stack) (w : World) → z.graph i (view.Row op k)
      → step z.code (state i xs w) ≡ go_on (z.ren k) (state i xs w) (row_effect z.code.statics op (now xs w))
  unfolding next_of
  row op i k xs w h = ap (λ v. next_of z.code v (state i xs w)) (z.stands.at i _ h)

  pub row_goes : (op : Node) (i k : ℕ) (xs ys : Stack) (w u : World) → z.graph i (view.Row op k) → row_effect z.code.statics op (now xs w) ≡ Goes (now ys u)
      → u.turns ≡ w.turns → u.active ≡ w.active → u.seen ≡ w.seen → RunLeads z.code (state i xs w) (state k ys u)
  row_goes op i k xs ys w u h e t a s = leads_one z.code _ _ (rw (row op i k xs w h, e, t, a, s) refl)

  pub row_answers : (op : Node) (i k : ℕ) (xs ys : Stack) (w : World) (r : Result Scalar Trap) → z.graph i (view.Row op k)
      → row_effect z.code.statics op (now xs w) ≡ with_answer r (now ys w) (λ v. Goes (now (v ∷ ys) w))
      → Reach z.code z.watch (state i xs w) w.turns (answer_or_trap r w) (λ v u. state k (v ∷ ys) u)
  row_answers op i k xs ys w (Ok v) h e = (leads_one z.code _ _ (rw (row op i k xs w h, e) refl), omega arith)
  row_answers op i k xs ys w (Err t) h e = ends_over z.code _ _ (rw (row op i k xs w h, e) refl)

  -- a step to a node that ends the run
  pub halts : (op : Node) (i : ℕ) (xs : Stack) (w : World) → z.graph i (view.Halts op)
      → step z.code (state i xs w) ≡ halt (state i xs w) (row_effect z.code.statics op (now xs w))
  unfolding next_of
  halts op i xs w h = ap (λ v. next_of z.code v (state i xs w)) (z.stands.at i _ h)

  pub stay : (i k : ℕ) (xs : Stack) (w : World) → i ≡ k → RunLeads z.code (state i xs w) (state k xs w)
  stay i k xs w h = rw h (here z.code z.watch _)

  -- a row that only moves operands about
  pub before : {A K : Type 0} {mid : Stack → Stack} {m : World → Out A} {R : Path K} {at : A → K → ℕ} {post : A → Stack → Stack}
      → (op : Node) (pre : Stack → Stack) → ((xs : Stack) (w : World) → row_effect z.code.statics op (now (pre xs) w) ≡ Goes (now (mid xs) w))
      → Sound mid m R at post → Sound pre m (Does z.graph op then R) at post
  before {mid = mid} {m = m} op pre e a = record {
    runs = λ i k xs w le h.
        first z.code z.watch _ _ _ _ (m w) _ (row_goes op i h.0 (pre xs) (mid xs) w w h.1 (e xs w) refl refl refl) (omega arith) (a.runs h.0 k xs w le h.2);
  }

  -- a row that does nothing but to operands, as the last one
  pub last_row : {A : Type 0} (a : A) (pre : Stack → Stack) (post : A → Stack → Stack) (op : Node)
      → ((xs : Stack) (w : World) → row_effect z.code.statics op (now (pre xs) w) ≡ Goes (now (post a xs) w)) → Sound pre (Go a) (Does z.graph op) to post
  last_row a pre post op e = record { runs = λ i k xs w le h. (row_goes op i k (pre xs) (post a xs) w w h (e xs w) refl refl refl, omega arith) }

  -- a row that pushes
  pub pushes : (op : Node) (v : Scalar) → ((xs : Stack) (w : World) → row_effect z.code.statics op (now xs w) ≡ Goes (now (v ∷ xs) w))
      → Sound bare (Go v) (Does z.graph op) to plus
  pushes op v e = last_row v bare plus op e

  -- a row that answers
  pub answers : (op : Node) (pre : Stack → Stack) (r : World → Result Scalar Trap)
      → ((xs : Stack) (w : World) → row_effect z.code.statics op (now (pre xs) w) ≡ with_answer (r w) (now xs w) (λ v. Goes (now (v ∷ xs) w)))
      → Sound pre (λ w. answer_or_trap (r w) w) (Does z.graph op) to plus
  answers op pre r e = record { runs = λ i k xs w le h. row_answers op i k (pre xs) xs w (r w) h (e xs w) }

  row_changes : {A : Type 0} (a : A) (op : Node) (i k : ℕ) (xs ys : Stack) (zs : A → Stack) (w : World) (r : Result Objects Trap) → z.graph i (view.Row op k)
      → row_effect z.code.statics op (now xs w) ≡ with_answer r (now ys w) (λ objects. Goes (now (zs a) (record w { objects = objects })))
      → Reach z.code z.watch (state i xs w) w.turns (bind (answer_or_trap r w) (λ objects u. Go a (record u { objects = objects }))) (λ b u. state k (zs b) u)
  row_changes a op i k xs ys zs w (Ok objects) h e = (leads_one z.code _ _ (rw (row op i k xs w h, e) refl), le_self w.turns)
  row_changes a op i k xs ys zs w (Err t) h e = ends_over z.code _ _ (rw (row op i k xs w h, e) refl)

  -- a row that changes objects
  pub changes : {A : Type 0} (op : Node) (pre : Stack → Stack) (a : A) (post : A → Stack → Stack) (r : World → Result Objects Trap)
      → ((xs : Stack) (w : World) → row_effect z.code.statics op (now (pre xs) w) ≡ with_answer (r w) (now xs w)
      (λ objects. Goes (now (post a xs) (record w { objects = objects }))))
      → Sound pre (λ w. bind (answer_or_trap (r w) w) (λ objects u. Go a (record u { objects = objects }))) (Does z.graph op) to post
  changes op pre a post r e = record { runs = λ i k xs w le h. row_changes a op i k (pre xs) xs (λ b. post b xs) w (r w) h (e xs w) }

  pub stuck_ok : {A K : Type 0} (pre : Stack → Stack) (at : A → K → ℕ) (post : A → Stack → Stack) → Sound pre stuck_run (Stuck z.graph) at post
  unfolding row_effect
  stuck_ok pre at post = record {
    runs = λ i k xs w le h.
        (row_goes (node.Push Char (pos 0) 0) i h.0 (pre xs) (Number Char (pos 0) ∷ pre xs) w w h.1 refl refl refl refl).by _
        (ends_over z.code _ _ (halts node.Exit h.0 (Number Char (pos 0) ∷ pre xs) w h.2));
  }

  -- no node at all
  pub kept : {A : Type 0} (a : A) (post : A → Stack → Stack) → Sound (post a) (Go a) Nothing to post
  kept a post = record { runs = λ i k xs w le h. (stay i k (post a xs) w h, le_self w.turns) }

  pub nothing_ok : Sound bare no_effect Nothing to none
  nothing_ok = kept tt none

  pub unchanged : (v : Scalar) → Sound (plus v) (Go v) Nothing to plus
  unchanged v = kept v plus

  forked : (i : ℕ) (k : Ways) (xs : Stack) (w : World) (r : Result Bool Trap) (ys : Stack)
      → step z.code (state i ys w) ≡ branch_on_truth (z.ren k.yes_to) (z.ren k.no_to) (now xs w) r (state i ys w)
      → Reach z.code z.watch (state i ys w) w.turns (answer_or_trap r w) (λ holds u. state (way holds k) xs u)
  forked i k xs w (Ok true) ys e = (leads_one z.code _ _ e, le_self w.turns)
  forked i k xs w (Ok false) ys e = (leads_one z.code _ _ e, le_self w.turns)
  forked i k xs w (Err t) ys e = ends_over z.code _ _ e

  pub fork_ok : (v : Scalar) → Sound (plus v) (truth_value v) (ForkTo z.graph) way none
  unfolding next_of
  fork_ok v = record {
    runs = λ i k xs w le h.
        forked i k xs w (truth_of v) (plus v xs) (ap (λ x. next_of z.code x (state i (v ∷ xs) w)) (z.stands.at i _ h));
  }

  -- one of two parts, as a condition decides
  pub choice_ok : {A K : Type 0} {pre mid : Stack → Stack} {c : World → Out Bool} {D : Path Ways}
      {first_m second_m : World → Out A} {R S : Path K} {at : A → K → ℕ} {post : A → Stack → Stack}
      → Sound pre c D way (λ holds xs. mid xs) → Sound mid first_m R at post → Sound mid second_m S at post
      → Sound pre (λ w. bind (c w) (λ holds. chosen_part holds first_m second_m)) (Either D R S) at post
  choice_ok {mid = mid} {c = c} {first_m = first_m} {second_m = second_m} {R = R} {S = S} {at = at} {post = post} d a b = record {
    runs = λ i k xs w le h.
        let go : (holds : Bool) (u : World) → u.turns ≤ w.turns →
        Reach z.code z.watch (state (way holds (record { yes_to = h.0; no_to = h.1 })) (mid xs) u) u.turns (chosen_part holds first_m second_m u)
        (λ x y. state (at x k) (post x xs) y) =
        λ holds. elim holds as (λ o. (u : World) → u.turns ≤ w.turns →
        Reach z.code z.watch (state (way o (record { yes_to = h.0; no_to = h.1 })) (mid xs) u) u.turns (chosen_part o first_m second_m u)
        (λ x y. state (at x k) (post x xs) y))
        [ true ↦ λ u l. a.runs h.0 k xs u (omega (arith, l, le)) h.3 | false ↦ λ u l. b.runs h.1 k xs u (omega (arith, l, le)) h.4 ]
        in reach_bind z.code z.watch _ _ (c w) _ _ _ (d.runs i (record { yes_to = h.0; no_to = h.1 }) xs w le h.2) go;
  }

  -- one of two paths, whichever
  pub one_of_ok : {A K : Type 0} {pre : Stack → Stack} {m : World → Out A} {R S : Path K} {at : A → K → ℕ} {post : A → Stack → Stack}
      → Sound pre m R at post → Sound pre m S at post → Sound pre m (OneOf R S) at post
  one_of_ok {R = R} {S = S} a b = record { runs = λ i k xs w le h. elim h [ inl x ↦ a.runs i k xs w le x | inr y ↦ b.runs i k xs w le y ] }

  pub truly_ok : Sound bare (Go true) AlwaysTrue way none
  truly_ok = record { runs = λ i k xs w le h. (stay i k.yes_to xs w h, le_self w.turns) }

  pub falsely_ok : Sound bare (Go false) AlwaysFalse way none
  falsely_ok = record { runs = λ i k xs w le h. (stay i k.no_to xs w h, le_self w.turns) }

  turned : (b : Bool) (k : Ways) (xs : Stack) (u : World)
      → Reach z.code z.watch (state (way b (record { yes_to = k.no_to; no_to = k.yes_to })) xs u) u.turns (Go (not b) u) (λ a y. state (way a k) xs y)
  turned true k xs u = (here z.code z.watch _, le_self u.turns)
  turned false k xs u = (here z.code z.watch _, le_self u.turns)

  -- a condition the other way round
  pub turned_ok : {pre : Stack → Stack} {c : World → Out Bool} {D : Path Ways}
      → Sound pre c D way none → Sound pre (λ w. bind (c w) (λ b. Go (not b))) (SwappedWays D) way none
  turned_ok {c = c} a = record {
    runs = λ i k xs w le h.
        reach_bind z.code z.watch _ _ (c w) _ _ _ (a.runs i (record { yes_to = k.no_to; no_to = k.yes_to }) xs w le h) (λ b u l. turned b k xs u);
  }

  -- a part that is known to be one of two
  pub only_ok : {A K : Type 0} {pre : Stack → Stack} {m : World → Out A} {R : Path K} {at : A → K → ℕ} {post : A → Stack → Stack} (b : Bool)
      → (b ≡ true → Sound pre m R at post) → Sound pre (λ w. chosen_part b m stuck_run w) (PathOrStuck z.graph b R) at post
  only_ok true a = record { runs = λ i k xs w le h. (a refl).runs i k xs w le h }
  only_ok {pre = pre} {at = at} {post = post} false a = record { runs = λ i k xs w le h. (stuck_ok pre at post).runs i k xs w le h }
