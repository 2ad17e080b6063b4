-- Calls of functions and of the library, with arguments that are safe.
use Rattle.std.proofs.Common.{◌≡◌, ℕ, refl, subst, sym, List, [], ◌∷◌, Some, None, Bool, true, false, length}
use Rattle.std.proofs.lemmas.Bool.{true≢false}
use Rattle.std.specs.Prelude.{Option, ℤ, unsigned_abs, ◌==◌, reverse, if◌then◌else◌}
use Rattle.std.specs.List.{list_all}
use Rattle.cbi_base.specs.Words.{is_defined_value, pieces_of, object_released}
use Rattle.base_lists.proofs.Numbers.{number_is}
use Rattle.cbi_base.specs.declared.outcome.Outcome.TheVariants.{Trapped}
use Rattle.cbi_base.specs.declared.scalar.Kind.{Kind}
use Rattle.cbi_base.specs.declared.scalar.Kind.TheVariants.{Int, Unsigned}
use Rattle.cbi_base.specs.declared.scalar.Scalar.{Scalar}
use Rattle.cbi_base.specs.declared.scalar.Scalar.TheVariants.{Number, Place, Null, Undefined}
use Rattle.cbi_base.specs.declared.trap.Trap.TheVariants as trap
use Rattle.c_types_rules.specs.declared.library.Library.{Library}
use Rattle.c_types_rules.specs.declared.library.Library.TheVariants as library
use Rattle.flow.specs.declared.program.Text.{Text}
use Rattle.c_meaning.specs.declared.value_type.Called.{Called}
use Rattle.c_meaning.specs.declared.value_type.Called.TheVariants as called
use Rattle.c_meaning.specs.declared.value_type.ValueType.{ValueType}
use Rattle.c_meaning.specs.declared.value_type.ValueType.TheVariants as type
use Rattle.c_meaning.specs.Words.{Argument, Arguments, abort, all_defined, space_allocated, as_type, assert, call_function, call_library, call_sense, exit, print_by}
use Rattle.c_meaning.specs.Words.{space_released, types_taken, with_result, as_used, Sense, Setting, Signature, next_byte, has_value, World, Out, Go, Stop, OutDone}
use Rattle.c_meaning.specs.Words.{Caller, stuck_run}
use Rattle.c_meaning_laws.specs.Rules.{IsPointer, IsValue}
use Rattle.c_meaning_laws.specs.Typed.{CallsFunction, CallsLibrary, TypedCall}
use Rattle.c_meaning_laws.specs.TypedSource.{SitesFit}
use Rattle.c_meaning_laws.specs.TypedStatements.{FitsFormat}
use Rattle.c_meaning_laws.proofs.Safe.{Any, Ending, Safe, answers, chosen_true, done_safe, plain, seq, unseen}
use Rattle.c_meaning_laws.proofs.Values.{Fits, Given, truth_safe}
use Rattle.c_meaning_laws.proofs.Memory.{allocated_fits, released_calm}
use Rattle.c_meaning_laws.proofs.Printing.{AllGiven, put_format_safe, put_string_safe, put_value_safe}
use Rattle.c_meaning_laws.proofs.Visits.{CallsSafe, bare, returned_safe}
use Rattle.c_meaning_laws.proofs.Senses.{SenseSafe, effected_safe, valued_safe}

-- functions of the library
allocate_number : (t : Option ValueType) (k : Kind) (n : ℤ) → IsPointer t → k ≡ Unsigned → Safe (Fits t) (space_allocated (Number k n)) (space_allocated (Number k n))
allocate_number t k n h e = rw e record { at = λ w. allocated_fits t (unsigned_abs n) w.objects h; same = λ w. refl }

allocate_safe : (t : Option ValueType) (v : Scalar) → IsPointer t → Fits (Some (type.Number Unsigned)) v → Safe (Fits t) (space_allocated v) (space_allocated v)
allocate_safe t Undefined h f = record { at = λ w. tt; same = λ w. refl }
allocate_safe t (Number k n) h f = allocate_number t k n h (sym f)
allocate_safe t Null h f = absurd f
allocate_safe t (Place a i) h f = absurd f

release_safe : (size : ℕ) (p : Scalar) → Fits (Some (type.Pointer size)) p → Safe Any (space_released p) (space_released p)
release_safe size p f =
    seq (answers (λ w. object_released p w.objects) (λ w. refl) (λ w. released_calm (Some (type.Pointer size)) p w.objects tt f))
    (λ o _. record { at = λ w. tt; same = λ w. refl })

exit_number : (k : Kind) (n : ℤ) → k ≡ Int → Safe Any (exit (Number k n)) (exit (Number k n))
exit_number k n e = rw e record { at = λ w. tt; same = λ w. refl }

exit_safe : (v : Scalar) → Fits (Some (type.Number Int)) v → Safe Any (exit v) (exit v)
exit_safe Undefined f = record { at = λ w. tt; same = λ w. refl }
exit_safe (Number k n) f = exit_number k n (sym f)
exit_safe Null f = absurd f
exit_safe (Place a i) f = absurd f

abort_safe : Safe Any abort abort
abort_safe = record { at = λ w. tt; same = λ w. refl }

assert_safe : (b : Bool) → Safe Any (assert b) (assert b)
assert_safe true = record { at = λ w. tt; same = λ w. refl }
assert_safe false = record { at = λ w. tt; same = λ w. refl }

byte_fits : (w : World) (input : List ℕ) → Ending (Fits (Some (type.Number Int))) (next_byte input w) × (unseen (next_byte input w) ≡
    next_byte input (plain w))
byte_fits w [] = (refl, refl)
byte_fits w (b ∷ rest) = (refl, refl)

next_byte_safe : Safe (Fits (Some (type.Number Int))) (λ w. next_byte w.input w) (λ w. next_byte w.input w)
next_byte_safe = record { at = λ w. (byte_fits w w.input).0; same = λ w. (byte_fits w w.input).1 }

-- arguments: values of these types, the last one first
abbrev pub Backwards : List ValueType → List Scalar → Type 0
Backwards types vs = AllGiven types (reverse vs)

defined_or : (P : List Scalar → Type 0) (vs back : List Scalar) (b : Bool) (w : World) → P back
    → Ending P (if b then Go back w else Stop (Trapped trap.Undefined) w)
    × (unseen (if b then Go back w else Stop (Trapped trap.Undefined) w) ≡ (if b then Go back (plain w) else Stop (Trapped trap.Undefined) (plain w)))
defined_or P vs back true w h = (h, refl)
defined_or P vs back false w h = (tt, refl)

pub all_defined_safe : (P : List Scalar → Type 0) (vs : List Scalar) → P (reverse vs) → Safe P (all_defined vs) (all_defined vs)
all_defined_safe P vs h = record {
  at = λ w. (defined_or P vs (reverse vs) (list_all is_defined_value vs) w h).0;
  same = λ w.
      (defined_or P vs (reverse vs) (list_all is_defined_value vs) w h).1;
}

pub print_by_safe : (format : Option Text) (n : ℕ) (arguments arguments0 : Arguments) (Fit : List ValueType → Type 0)
    → ((types : List ValueType) → Fit types → Safe (Backwards types) (arguments types) (arguments0 types))
    → ((types : List ValueType) → Fit types → n ≡ length types) → FitsFormat format Fit → Safe Any (print_by format n arguments)
    (print_by format n arguments0)
print_by_safe None n arguments arguments0 Fit a c h = absurd h
print_by_safe (Some format) n arguments arguments0 Fit a c h =
    chosen_true stuck_run stuck_run (n == length (types_taken (pieces_of format.bytes))) (number_is n (length (types_taken (pieces_of format.bytes))) (c
    (types_taken (pieces_of format.bytes)) h))
    (seq (a (types_taken (pieces_of format.bytes)) h) (λ vs g.
    seq (all_defined_safe (AllGiven (types_taken (pieces_of format.bytes))) vs g) (λ values k. put_format_safe format.bytes values k)))

void_value : (t : ValueType) → has_value t ≡ false → IsValue (Some t) → ⊥
void_value type.Void h l = l
void_value type.Struct h l = l
void_value t h l = true≢false h

not_void : (t : Option ValueType) → t ≡ Some type.Void → IsValue t → ⊥
not_void t e l = subst IsValue e l

module _ (s : Setting) (call0 : Caller) (fit : SitesFit s.sites) (calls : CallsSafe s.facts s.call call0) where
  abbrev SafeCall : Option ValueType → Sense → Sense → Type 0
  SafeCall t m m0 = SenseSafe s.locals t false None m m0

  with_result_safe : (token : ℕ) (t : Option ValueType) (b : Bool) (m m0 : World → Out Scalar) → Safe (Fits t) m m0 → (b ≡ false → IsValue t → ⊥)
      → SafeCall t (with_result s token b m) (with_result (bare s call0) token b m0)
  with_result_safe token t true m m0 h void = valued_safe (returned_safe s call0 fit token h)
  with_result_safe token t false m m0 h void = effected_safe t (void refl) (done_safe h)

  -- What is known of the arguments: so many, handed over as ones of the types that they fit, or the one as it is used.
  pub record ArgumentsSafe (Fit : List ValueType → Type 0) (One : Type 0) (n : ℕ) (arguments arguments0 : Arguments) (lone lone0 : Argument) : Type 0 where
    pub all : (types : List ValueType) → Fit types → Safe (Backwards types) (arguments types) (arguments0 types)
    pub count : (types : List ValueType) → Fit types → n ≡ length types
    pub typed : (t : ValueType) → Fit (t ∷ []) → Safe (Given (Some t)) (lone (as_type t)) (lone0 (as_type t))
    pub used : One → Safe Any (lone as_used) (lone0 as_used)

  function_safe : (token number : ℕ) (o : Option Signature) → s.facts.signature number ≡ o
      → (Fit : List ValueType → Type 0) (One : Type 0) (n : ℕ) (arguments arguments0 : Arguments) (lone lone0 : Argument)
      (t : Option ValueType) → ArgumentsSafe Fit One n arguments arguments0 lone lone0 → CallsFunction o Fit t
      → SafeCall t (call_function s token number o n arguments) (call_function (bare s call0) token number o n arguments0)
  function_safe token number None e Fit One n arguments arguments0 lone lone0 t a h = absurd h
  function_safe token number (Some f) e Fit One n arguments arguments0 lone lone0 t a h = rw h.1
      (with_result_safe token (Some f.result) (has_value f.result) _ _
      (chosen_true stuck_run stuck_run (n == length f.params) (number_is n (length f.params) (a.count f.params h.0))
      (seq (a.all f.params h.0) (λ vs _. calls.by number f e vs)))
      (void_value f.result))

  library_safe : (token : ℕ) (function : Library) (Fit : List ValueType → Type 0) (One : Type 0) (n : ℕ) (arguments arguments0 : Arguments)
      (lone lone0 : Argument)
      (t : Option ValueType) (print print0 : World → OutDone) → ArgumentsSafe Fit One n arguments arguments0 lone lone0 → CallsLibrary function Fit One t
      → SafeCall t (call_library s token function n lone print) (call_library (bare s call0) token function n lone0 print0)
  library_safe token library.Getchar Fit One n arguments arguments0 lone lone0 t print print0 a h =
      rw h.1 (valued_safe (returned_safe s call0 fit token (chosen_true stuck_run stuck_run (n == 0) (number_is n 0 (a.count [] h.0)) next_byte_safe)))
  library_safe token library.Putchar Fit One n arguments arguments0 lone lone0 t print print0 a h =
      rw h.1 (valued_safe (seq (a.typed (type.Number Int) h.0) (λ v g. put_value_safe v g.0)))
  library_safe token library.Puts Fit One n arguments arguments0 lone lone0 t print print0 a h =
      rw h.1 (valued_safe (seq (a.typed (type.Pointer 1) h.0) (λ v g. put_string_safe 1 v g.0)))
  library_safe token library.Malloc Fit One n arguments arguments0 lone lone0 t print print0 a h =
      valued_safe (returned_safe s call0 fit token (seq (a.typed (type.Number Unsigned) h.0) (λ v g. allocate_safe t v h.1 g.0)))
  library_safe token library.Free Fit One n arguments arguments0 lone lone0 t print print0 a h =
      effected_safe t (not_void t h.1) (seq (a.typed (type.Pointer 0) h.0) (λ v g. release_safe 0 v g.0))
  library_safe token library.Exit Fit One n arguments arguments0 lone lone0 t print print0 a h =
      effected_safe t (not_void t h.1) (seq (a.typed (type.Number Int) h.0) (λ v g. exit_safe v g.0))
  library_safe token library.Abort Fit One n arguments arguments0 lone lone0 t print print0 a h =
      effected_safe t (not_void t h.1) (chosen_true stuck_run stuck_run (n == 0) (number_is n 0 (a.count [] h.0)) abort_safe)
  library_safe token library.Assert Fit One n arguments arguments0 lone lone0 t print print0 a h =
      effected_safe t (not_void t h.1) (seq (a.used h.0) (λ v _. seq (truth_safe v) (λ b _. assert_safe b)))
  library_safe token library.Printf Fit One n arguments arguments0 lone lone0 t print print0 a h = absurd h

  pub call_safe : (token : ℕ) (c : Called) (Fit : List ValueType → Type 0) (One : Type 0) (n : ℕ) (arguments arguments0 : Arguments) (lone lone0 : Argument)
      (t : Option ValueType) (print print0 : World → OutDone) → ArgumentsSafe Fit One n arguments arguments0 lone lone0
      → TypedCall s.facts s.sites s.locals.count c Fit One t
      → SafeCall t (call_sense s token c n arguments lone print) (call_sense (bare s call0) token c n arguments0 lone0 print0)
  call_safe token (called.Function number) Fit One n arguments arguments0 lone lone0 t print print0 a h =
      function_safe token number (s.facts.signature number) refl Fit One n arguments arguments0 lone lone0 t a h
  call_safe token (called.Library function) Fit One n arguments arguments0 lone lone0 t print print0 a h =
      library_safe token function Fit One n arguments arguments0 lone lone0 t print print0 a h
  call_safe token called.Unknown Fit One n arguments arguments0 lone lone0 t print print0 a h = absurd h
