-- Parts of a run, and the same parts where more turns are left: how they are put together.
use Rattle.std.proofs.Common.{◌≡◌, ℕ, zero, suc, ◌+◌, ◌≤◌, ◌++◌, Bool, true, false, List, [], Result, Ok, Err, refl, ap, sym, ◌∙◌, subst, arith, append_assoc, append-nil}
use Rattle.cbi_base.specs.declared.observation.Observation.{Observation}
use Rattle.cbi_base.specs.declared.outcome.Outcome.{Outcome}
use Rattle.cbi_base.specs.declared.outcome.Outcome.TheVariants.{CutTurns}
use Rattle.cbi_base.specs.declared.trap.Trap.{Trap}
use Rattle.c_meaning.specs.World.{World, Out, Go, Stop, answer_or_trap, bind, chosen_part, value_discarded, one_turn_spent}

-- what was written and seen begins what is written and seen later
pub record Extends (w u : World) : Type 0 where
  pub output : (more : List ℕ) × (u.output ≡ w.output ++ more)
  pub seen : (more : List Observation) × (u.seen ≡ w.seen ++ more)

pub more_after : {A : Type 0} (x y z : List A) → (more : List A) × (y ≡ x ++ more) → (more : List A) × (z ≡ y ++ more) → (more : List A) × (z ≡ x ++ more)
more_after x y z h k = (h.0 ++ k.0, k.1 ∙ ap (λ l. l ++ k.0) h.1 ∙ append_assoc x h.0 k.0)

pub no_more : {A : Type 0} (x : List A) → (more : List A) × (x ≡ x ++ more)
no_more x = ([], sym (append-nil x))

pub extends_after : {w u v : World} → Extends w u → Extends u v → Extends w v
extends_after {w = w} {u = u} {v = v} h k = record {
  output = more_after w.output u.output v.output h.output k.output;
  seen = more_after w.seen u.seen v.seen h.seen k.seen;
}

pub extends_itself : (w : World) → Extends w w
extends_itself w = record { output = no_more w.output; seen = no_more w.seen }

-- the same, and no turns were given back
pub record Grows (w u : World) : Type 0 where
  pub extends : Extends w u
  pub turns : u.turns ≤ w.turns

pub grows_after : {w u v : World} → Grows w u → Grows u v → Grows w v
grows_after h k = record { extends = extends_after h.extends k.extends; turns = omega (arith, k.turns, h.turns) }

pub grows_itself : (w : World) → Grows w w
grows_itself w = record { extends = extends_itself w; turns = omega arith }

-- nothing was written or seen
pub same_left : (w u : World) → u.output ≡ w.output → u.seen ≡ w.seen → u.turns ≡ w.turns → Grows w u
same_left w u output seen turns = record {
  extends = record { output = ([], output ∙ sym (append-nil w.output)); seen = ([], seen ∙ sym (append-nil w.seen)) };
  turns = omega (arith, turns);
}

-- the world in which a part goes on, or stops
abbrev pub left_in : {A : Type 0} → Out A → World
left_in (Go x w) = w
left_in (Stop outcome w) = w

module _ (k : ℕ) where
  -- the same with so many turns more
  abbrev pub longer : World → World
  longer w = record w { turns = w.turns + k }

  -- What a part does, and what it does with more turns: the same, or it was cut and goes on.
  abbrev pub Matches : {A : Type 0} → Out A → Out A → Type 0
  Matches (Go x w) out = out ≡ Go x (longer w)
  Matches (Stop CutTurns w) out = Extends w (left_in out)
  Matches (Stop outcome w) out = out ≡ Stop outcome (longer w)

  -- The second is the first where more turns are left. It only adds to what was written and seen.
  pub record Longer {A : Type 0} (m more : World → Out A) : Type 0 where
    pub grows : (w : World) → Grows w (left_in (more w))
    pub same : (w : World) → Matches (m w) (more (longer w))

  grown_bind : {A B : Type 0} (w : World) (out : Out A) (f : A → World → Out B) → Grows w (left_in out)
      → ((x : A) (u : World) → Grows u (left_in (f x u))) → Grows w (left_in (bind out f))
  grown_bind w (Go x u) f h next = grows_after h (next x u)
  grown_bind w (Stop outcome u) f h next = h

  extends_bind : {A B : Type 0} (w : World) (out : Out A) (f : A → World → Out B) → Extends w (left_in out)
      → ((x : A) (u : World) → Grows u (left_in (f x u))) → Extends w (left_in (bind out f))
  extends_bind w (Go x u) f h next = extends_after h (next x u).extends
  extends_bind w (Stop outcome u) f h next = h

  same_bind : {A B : Type 0} (out other : Out A) (f g : A → World → Out B) → Matches out other → ((x : A) → Longer (f x) (g x))
      → Matches (bind out f) (bind other g)
  same_bind (Go x w) other f g h next = subst (λ o. Matches (f x w) (bind o g)) (sym h) ((next x).same w)
  same_bind (Stop CutTurns w) other f g h next = extends_bind w other g h (λ x u. (next x).grows u)
  same_bind out other f g h next = ap (λ o. bind o g) h

  -- one part, and then another one
  pub seq : {A B : Type 0} {m more : World → Out A} {f g : A → World → Out B} → Longer m more → ((x : A) → Longer (f x) (g x))
      → Longer (λ w. bind (m w) f) (λ w. bind (more w) g)
  seq {m = m} {more = more} {f = f} {g = g} h next = record {
    grows = λ w. grown_bind w (more w) g (h.grows w) (λ x u. (next x).grows u);
    same = λ w. same_bind (m w) (more (longer w)) f g (h.same w) next;
  }

  grown_answer : {A : Type 0} (r : Result A Trap) (w : World) → Grows w (left_in (answer_or_trap r w))
  grown_answer (Ok x) w = grows_itself w
  grown_answer (Err t) w = grows_itself w

  same_answer : {A : Type 0} (r : Result A Trap) (w : World) → Matches (answer_or_trap r w) (answer_or_trap r (longer w))
  same_answer (Ok x) w = refl
  same_answer (Err t) w = refl

  -- the answer of an operation, which sees no turns
  pub answers : {A : Type 0} (r : World → Result A Trap) → ((w : World) → r (longer w) ≡ r w) → Longer (λ w. answer_or_trap (r w) w) (λ w. answer_or_trap (r w) w)
  answers r h = record {
    grows = λ w. grown_answer (r w) w;
    same = λ w. subst (λ q. Matches (answer_or_trap (r w) w) (answer_or_trap q (longer w))) (sym (h w)) (same_answer (r w) w);
  }

  pub gives : {A : Type 0} (x : A) → Longer (λ w. Go x w) (λ w. Go x w)
  gives x = record { grows = grows_itself; same = λ w. refl }

  stopped : (A : Type 0) (outcome : Outcome) (w : World) → Matches {A = A} (Stop outcome w) (Stop outcome (longer w))
  stopped A CutTurns w = record { output = no_more w.output; seen = no_more w.seen }
  stopped A outcome w = refl

  -- a part that ends the run
  pub stops : (A : Type 0) (outcome : Outcome) → Longer {A = A} (Stop outcome) (Stop outcome)
  stops A outcome = record { grows = grows_itself; same = λ w. stopped A outcome w }

  -- a part that changes the state and gives a value
  pub changes : {A : Type 0} (x : World → A) (f : World → World) → ((w : World) → x (longer w) ≡ x w) → ((w : World) → f (longer w) ≡ longer (f w))
      → ((w : World) → Grows w (f w)) → Longer (λ w. Go (x w) (f w)) (λ w. Go (x w) (f w))
  changes x f same_value same_state grown = record {
    grows = grown;
    same = λ w. ap (λ v. Go v (f (longer w))) (same_value w) ∙ ap (λ u. Go (x w) u) (same_state w);
  }

  pub chosen : {A : Type 0} {m more n others : World → Out A} (b : Bool) → Longer m more → Longer n others → Longer (chosen_part b m n) (chosen_part b more others)
  chosen true h j = h
  chosen false h j = j

  pub done_longer : {A : Type 0} {m more : World → Out A} → Longer m more → Longer (λ w. value_discarded (m w)) (λ w. value_discarded (more w))
  done_longer h = seq h (λ x. gives tt)

  pub grown_spend : {A : Type 0} (turns : ℕ) (w : World) (go : World → Out A) → ((u : World) → Grows u (left_in (go u)))
      → turns ≤ w.turns → Grows w (left_in (one_turn_spent turns w go))
  grown_spend zero w go h le = grows_itself w
  grown_spend (suc turns) w go h le =
      let later : Grows (record w { turns = turns }) (left_in (go (record w { turns = turns }))) = h (record w { turns = turns }) in
      record { extends = record { output = later.extends.output; seen = later.extends.seen }; turns = omega (arith, later.turns, le) }

  same_spend : {A : Type 0} (turns : ℕ) (w : World) (go more : World → Out A) → Longer go more → turns ≤ w.turns
      → Matches (one_turn_spent turns w go) (one_turn_spent (turns + k) (longer w) more)
  same_spend zero w go more h le =
      let later : Grows (longer w) (left_in (one_turn_spent (zero + k) (longer w) more)) = grown_spend (zero + k) (longer w) more h.grows (omega (arith, le)) in
      record { output = later.extends.output; seen = later.extends.seen }
  same_spend (suc turns) w go more h le =
      let next : suc turns + k ≡ suc (turns + k) = omega arith in
      subst (λ n. Matches (go (record w { turns = turns })) (one_turn_spent n (longer w) more)) (sym next) (h.same (record w { turns = turns }))

  -- a part behind a turn that is spent
  pub spends : {A : Type 0} {go more : World → Out A} → Longer go more → Longer (λ w. one_turn_spent w.turns w go) (λ w. one_turn_spent w.turns w more)
  spends {go = go} {more = more} h = record {
    grows = λ w. grown_spend w.turns w more h.grows (omega arith);
    same = λ w. same_spend w.turns w go more h (omega arith);
  }

  -- a part that is cut at once, beside any that only adds
  pub cut : {A : Type 0} (more : World → Out A) → ((w : World) → Grows w (left_in (more w))) → Longer (Stop CutTurns) more
  cut more h = record {
    grows = h;
    same = λ w. (let later : Grows (longer w) (left_in (more (longer w))) = h (longer w) in
        record { output = later.extends.output; seen = later.extends.seen });
  }
