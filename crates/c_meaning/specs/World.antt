-- What a run of a text has at a moment, and how a part of it goes.
use Rattle.std.specs.Prelude.{ℕ, zero, suc, Bool, true, false, List, Option, Result, Ok, Err}
use Rattle.cbi_base.specs.declared.observation.Observation.{Observation}
use Rattle.cbi_base.specs.declared.outcome.Outcome.{Outcome}
use Rattle.cbi_base.specs.declared.outcome.Outcome.TheVariants.{Trapped, CutTurns}
use Rattle.cbi_base.specs.declared.scalar.Scalar.{Scalar}
use Rattle.cbi_base.specs.declared.trap.Trap.{Trap}
use Rattle.cbi_base.specs.declared.trap.Trap.TheVariants.{Internal}
use Rattle.cbi_base.specs.Objects.{Objects}

-- the objects, the input left, the output so far, the turns left, how many functions are active, and what the sites saw so far
pub record World : Type 0 where
  pub objects : Objects
  pub input : List ℕ
  pub output : List ℕ
  pub turns : ℕ
  pub active : ℕ
  pub seen : List Observation

-- A part of a run goes on with what it gives, or the run is over.
pub data Out (A : Type 0) : Type 0 where
  Go : A → World → Out A
  Stop : Outcome → World → Out A

-- a part that gives nothing
abbrev pub OutDone : Type 0
OutDone = Out (Unit {0})

-- one part, and then another one
abbrev pub bind : {A B : Type 0} → Out A → (A → World → Out B) → Out B
bind (Go x w) next = next x w
bind (Stop outcome w) next = Stop outcome w

abbrev pub no_effect : World → OutDone
no_effect w = Go tt w

-- what a part gives isn't taken
abbrev pub value_discarded : {A : Type 0} → Out A → OutDone
value_discarded part = bind part (λ _. no_effect)

-- the answer of an operation, or its trap
abbrev pub answer_or_trap : {A : Type 0} → Result A Trap → World → Out A
answer_or_trap (Ok x) w = Go x w
answer_or_trap (Err t) w = Stop (Trapped t) w

-- What a text without a fault never comes to: something isn't known of it.
abbrev pub stuck_run : {A : Type 0} → World → Out A
stuck_run w = Stop (Trapped Internal) w

-- one of two parts
abbrev pub chosen_part : {A : Type 0} → Bool → (World → Out A) → (World → Out A) → World → Out A
chosen_part true first second w = first w
chosen_part false first second w = second w

-- a turn is spent, or the run is cut where none is left
abbrev pub one_turn_spent : {A : Type 0} → ℕ → World → (World → Out A) → Out A
one_turn_spent zero w go = Stop CutTurns w
one_turn_spent (suc turns) w go = go (record w { turns = turns })

-- how control leaves a statement
pub data Flow : Type 0 where
  Next : Flow
  Broken : Flow
  Continued : Flow
  Returned : Option Scalar → Flow

-- how a function is called by its number, with its arguments, the last one first
abbrev pub Caller : Type 0
Caller = ℕ → List Scalar → World → Out Scalar
