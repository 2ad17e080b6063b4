-- From a state the machine comes to what a part of a text means.
use Rattle.std.proofs.Common.{◌≡◌, refl, ℕ, ◌≤◌, arith, List}
use Rattle.cbi_base.specs.declared.outcome.Outcome.{Outcome}
use Rattle.cbi_base.specs.declared.scalar.Scalar.{Scalar}
use Rattle.flow.specs.Words.{Code, Ends, RunLeads, Now, Ending, Frame, State, Watch}
use Rattle.flow.proofs.Endings.{leads_self, leads_trans}
use Rattle.c_meaning.specs.World.{World, Out, Go, Stop, bind}
use Rattle.std.specs.Prelude.{None}
use Rattle.cbi_base.specs.Frames.{Locals}

abbrev pub Stack : Type 0
Stack = List Scalar

-- how a run of the machine ends, which never draws after its start and has no work
abbrev pub ending : Watch → Outcome → World → Ending
ending watch outcome w = record { outcome = outcome; output = w.output; seen = w.seen; work = watch.work; drawn = watch.drawn }

abbrev pub watched : Watch → World → Watch
watched watch w = record watch { seen = w.seen }

-- what the rows of the machine take and change, where the text has this world
abbrev pub now_of : Locals → Stack → World → Now
now_of locals operands w = record { operands = operands; locals = locals; objects = w.objects; input = w.input; output = w.output }

-- the machine in a function, at a node, with these operands, where the text has this world
abbrev pub state_at : Watch → ℕ → List Frame → Locals → ℕ → Stack → World → State
state_at watch function below locals node xs w = record {
  function = function;
  node = node;
  now = now_of locals xs w;
  copy = None;
  below = below;
  active = w.active;
  turns = w.turns;
  watch = watched watch w;
}

-- what every value that a part comes to keeps
abbrev pub Holds : {A : Type 0} → (A → Type 0) → Out A → Type 0
Holds P (Go a u) = P a
Holds P (Stop o u) = Unit {0}

pub holds_bind : {A B : Type 0} (P : B → Type 0) (m : Out A) (g : A → World → Out B) → ((a : A) (u : World) → Holds P (g a u)) → Holds P (bind m g)
holds_bind P (Go a u) g h = h a u
holds_bind P (Stop o u) g h = tt

pub bind_go : {A : Type 0} (m : Out A) → bind m (λ a. Go a) ≡ m
bind_go (Go a u) = refl
bind_go (Stop o u) = refl

pub bind_bind : {A B C : Type 0} (m : Out A) (f : A → World → Out B) (g : B → World → Out C) → bind (bind m f) g ≡ bind m (λ a u. bind (f a u) g)
bind_bind (Go a u) f g = refl
bind_bind (Stop o u) f g = refl

pub bind_same : {A B : Type 0} (m : Out A) (f g : A → World → Out B) → ((a : A) (u : World) → f a u ≡ g a u) → bind m f ≡ bind m g
bind_same (Go a u) f g e = e a u
bind_same (Stop o u) f g e = refl

pub le_self : (t : ℕ) → t ≤ t
le_self t = omega arith

module _ (code : Code) (watch : Watch) where
  -- From the state the machine comes to the state after what the part means, with no more than so many turns left, or it ends as the part does.
  abbrev pub Reach : {A : Type 0} → State → ℕ → Out A → (A → World → State) → Type 0
  Reach s t (Go a u) k = RunLeads code s (k a u) × (u.turns ≤ t)
  Reach s t (Stop o u) k = Ends code s (ending watch o u)

  pub here : (s : State) → RunLeads code s s
  here s = leads_self code s

  -- steps before the part
  pub first : {B : Type 0} (s s' : State) (t t' : ℕ) (o : Out B) (l : B → World → State) → RunLeads code s s' → t' ≤ t → Reach s' t' o l → Reach s t o l
  first s s' t t' (Go b u) l a le r = (leads_trans code s s' (l b u) a r.0, omega (arith, r.1, le))
  first s s' t t' (Stop o u) l a le r = a.by _ r

  pub reach_bind : {A B : Type 0} (s : State) (t : ℕ) (m : Out A) (k : A → World → State) (f : A → World → Out B) (l : B → World → State)
      → Reach s t m k → ((a : A) (u : World) → u.turns ≤ t → Reach (k a u) u.turns (f a u) l) → Reach s t (bind m f) l
  reach_bind s t (Go a u) k f l r g = first s (k a u) t u.turns (f a u) l r.0 r.1 (g a u r.1)
  reach_bind s t (Stop o u) k f l r g = r

  -- the same, with what every value of the first part keeps
  pub reach_with : {A B : Type 0} (P : A → Type 0) (s : State) (t : ℕ) (m : Out A) (k : A → World → State) (f : A → World → Out B) (l : B → World → State)
      → Holds P m → Reach s t m k → ((a : A) → P a → (u : World) → u.turns ≤ t → Reach (k a u) u.turns (f a u) l) → Reach s t (bind m f) l
  reach_with P s t (Go a u) k f l p r g = first s (k a u) t u.turns (f a u) l r.0 r.1 (g a p u r.1)
  reach_with P s t (Stop o u) k f l p r g = r
