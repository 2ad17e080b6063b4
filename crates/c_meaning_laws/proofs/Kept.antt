-- Parts of a run that keep what holds of all values and of the objects: how they are put together.
use Rattle.std.proofs.Common.{ℕ, zero, suc, ◌≤◌, ℤ, Bool, true, false, List, Option, Some, None, Result, Ok, Err}
use Rattle.std.specs.List.{AllByRecursion}
use Rattle.cbi_base.specs.declared.outcome.Outcome.{Outcome}
use Rattle.cbi_base.specs.declared.scalar.Class.TheVariants.{Local}
use Rattle.cbi_base.specs.declared.scalar.Kind.{Kind}
use Rattle.cbi_base.specs.declared.scalar.Scalar.{Scalar}
use Rattle.cbi_base.specs.declared.scalar.Scalar.TheVariants.{Number, Place, Null, Undefined}
use Rattle.cbi_base.specs.declared.scalar.Want.{Want}
use Rattle.cbi_base.specs.declared.trap.Trap.{Trap}
use Rattle.cbi_base.specs.Words.{object_filled, Objects, object_allocated, object_made_undefined, object_killed, loaded_value, made_with, moved_pointer, object_released, value_stored}
use Rattle.cbi_base.specs.Objects.{◌>>=◌}
use Rattle.c_meaning.specs.World.{World, Out, Go, Stop, answer_or_trap, bind, chosen_part, value_discarded, no_effect, one_turn_spent}
use Rattle.c_meaning_laws.proofs.Parts.{Ends, ends_bind}

-- what an answer holds
abbrev pub Answers : {A : Type 0} → (A → Type 0) → Result A Trap → Type 0
Answers P (Ok x) = P x
Answers P (Err t) = Unit {0}

abbrev pub Any : {A : Type 0} → A → Type 0
Any x = Unit {0}

-- objects that were made, where there was room
abbrev pub Made : (Objects → Type 0) → Option Objects → Type 0
Made I None = Unit {0}
Made I (Some o) = I o

-- Of values, of the numbers of objects that a part may name by itself, and of all objects: what each operation on values and objects keeps.
pub record Closed (Q : Scalar → Type 0) (Own : ℕ → Type 0) (I : Objects → Type 0) : Type 0 where
  pub numbers : (kind : Kind) (value : ℤ) → Q (Number kind value)
  pub null : Q Null
  pub undefined : Q Undefined
  pub places : (number offset : ℕ) → Own number → Q (Place number offset)
  pub loads : (wanted : Want) (p : Scalar) (o : Objects) → Q p → I o → Answers Q (loaded_value wanted p o)
  pub moves : (p : Scalar) (cells : ℤ) (o : Objects) → Q p → Answers Q (moved_pointer p cells o)
  pub stores : (p v : Scalar) (o : Objects) → Q p → Q v → I o → Answers I (value_stored p v o)
  pub releases : (p : Scalar) (o : Objects) → Q p → I o → Answers I (object_released p o)
  pub allocates : (cells : ℕ) (o : Objects) → I o → Q (object_allocated cells o).0 × I (object_allocated cells o).1
  pub clears : (number : ℕ) (o : Objects) → Own number → I o → I (object_made_undefined number o)
  pub fills : (number : ℕ) (v : Scalar) (o : Objects) → Own number → Q v → I o → I (object_filled number v o)
  pub kills : (number : ℕ) (o : Objects) → Own number → I o → I (object_killed number o)
  pub makes : (cells : List Scalar) (o : Objects) → AllByRecursion Q cells → I o → Made I (made_with Local cells o)
  pub fresh : (number : ℕ) (o : Objects) → I o → o.made ≤ number → Own number

-- where this holds of the objects it holds of them behind the part, and P of what the part gives
pub record Keeps (I : Objects → Type 0) {A : Type 0} (P : A → Type 0) (m : World → Out A) : Type 0 where
  pub at : (w : World) → I w.objects → Ends (λ x u. P x × I u.objects) (m w)

answered_ends : (I : Objects → Type 0) {A : Type 0} (P : A → Type 0) (r : Result A Trap) (w : World) → I w.objects → Answers P r
    → Ends (λ x u. P x × I u.objects) (answer_or_trap r w)
answered_ends I P (Ok x) w a h = (h, a)
answered_ends I P (Err t) w a h = tt

any_ends : (I : Objects → Type 0) {A : Type 0} (P : A → Type 0) (out : Out A) → Ends (λ x u. P x × I u.objects) out
    → Ends (λ x u. Any x × I u.objects) (value_discarded out)
any_ends I P (Go x w) h = (tt, h.1)
any_ends I P (Stop o w) h = tt

spent : (I : Objects → Type 0) {A : Type 0} (P : A → Type 0) (turns : ℕ) (w : World) (go : World → Out A) → Keeps I P go → I w.objects
    → Ends (λ x u. P x × I u.objects) (one_turn_spent turns w go)
spent I P zero w go h a = tt
spent I P (suc turns) w go h a = h.at (record w { turns = turns }) a

module _ {I : Objects → Type 0} where
  -- one part, and then another one
  pub seq : {A B : Type 0} {P : A → Type 0} {Q : B → Type 0} {m : World → Out A} {f : A → World → Out B} → Keeps I P m
      → ((x : A) → P x → Keeps I Q (f x)) → Keeps I Q (λ w. bind (m w) f)
  seq {P = P} {Q = Q} {m = m} {f = f} h next = record {
    at = λ w a. ends_bind (λ x u. P x × I u.objects) (λ y u. Q y × I u.objects) (m w) f (h.at w a) (λ x u k. (next x k.0).at u k.1);
  }

  -- the answer of an operation
  pub answers : {A : Type 0} {P : A → Type 0} (r : World → Result A Trap) → ((w : World) → I w.objects → Answers P (r w)) → Keeps I P (λ w. answer_or_trap (r w) w)
  answers {P = P} r h = record { at = λ w a. answered_ends I P (r w) w a (h w a) }

  pub gives : {A : Type 0} {P : A → Type 0} (x : A) → P x → Keeps I P (λ w. Go x w)
  gives x h = record { at = λ w a. (h, a) }

  pub stops : {A : Type 0} {P : A → Type 0} (o : Outcome) → Keeps I P (λ w. Stop o w)
  stops o = record { at = λ w a. tt }

  -- a part that changes the state and gives a value
  pub changes : {A : Type 0} {P : A → Type 0} (x : World → A) (f : World → World) → ((w : World) → I w.objects → P (x w) × I (f w).objects)
      → Keeps I P (λ w. Go (x w) (f w))
  changes x f h = record { at = h }

  pub chosen : {A : Type 0} {P : A → Type 0} {m n : World → Out A} (b : Bool) → Keeps I P m → Keeps I P n → Keeps I P (chosen_part b m n)
  chosen true h k = h
  chosen false h k = k

  -- a part that is chosen by what a state has
  pub by_state : {A B : Type 0} {P : A → Type 0} (f : World → B) (m : B → World → Out A) → ((x : B) → Keeps I P (m x)) → Keeps I P (λ w. m (f w) w)
  by_state f m h = record { at = λ w a. (h (f w)).at w a }

  pub done_kept : {A : Type 0} {P : A → Type 0} {m : World → Out A} → Keeps I P m → Keeps I Any (λ w. value_discarded (m w))
  done_kept {P = P} {m = m} h = record { at = λ w a. any_ends I P (m w) (h.at w a) }

  pub nothing_kept : Keeps I Any no_effect
  nothing_kept = record { at = λ w a. (tt, a) }

  -- a part behind a turn that is spent
  pub spends : {A : Type 0} {P : A → Type 0} {go : World → Out A} → Keeps I P go → Keeps I P (λ w. one_turn_spent w.turns w go)
  spends {P = P} {go = go} h = record { at = λ w a. spent I P w.turns w go h a }

pub answers_bind : {A B : Type 0} (P : A → Type 0) (Q : B → Type 0) (r : Result A Trap) (f : A → Result B Trap) → Answers P r
    → ((x : A) → P x → Answers Q (f x)) → Answers Q (r >>= f)
answers_bind P Q (Ok x) f h k = k x h
answers_bind P Q (Err t) f h k = tt
