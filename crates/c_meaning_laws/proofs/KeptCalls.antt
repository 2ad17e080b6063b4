-- Calls of the functions of a text keep what holds of all values and of the objects.
use Rattle.std.proofs.Common.{ℕ, zero, suc, ◌+◌, ◌-◌, ◌≤◌, ◌==◌, Bool, true, false, nat_lt, pos, replicate, List, [], ◌∷◌, Option, Some, None}
use Rattle.std.proofs.Common.{subst, arith}
use Rattle.std.specs.Prelude.{if◌then◌else◌, reverse}
use Rattle.std.specs.List.{AllByRecursion, list_all}
use Rattle.std.specs.Option.{option_and_then}
use Rattle.cbi_base.specs.Words.{is_defined_value, active_limit, all_killed, all_made, first_cells, Locals, Objects, made_with}
use Rattle.cbi_base.specs.declared.outcome.Outcome.TheVariants.{Trapped}
use Rattle.cbi_base.specs.declared.scalar.Class.TheVariants.{Local}
use Rattle.cbi_base.specs.declared.scalar.Kind.TheVariants.{Int}
use Rattle.cbi_base.specs.declared.scalar.Scalar.{Scalar}
use Rattle.cbi_base.specs.declared.scalar.Scalar.TheVariants.{Number, Place, Null, Undefined}
use Rattle.cbi_base.specs.declared.trap.Trap.TheVariants as trap
use Rattle.c_syntax.specs.StatementTree.{EntryList}
use Rattle.c_meaning.specs.Words.{Signature, Source, call_at, enter_function, enter_with, gives_value, body_world, left_function, locals_at, locals_of, run_body}
use Rattle.c_meaning.specs.Words.{setting_of, value_left, World, Out, Go, Stop, Caller, Flow, Next, Broken, Continued, Returned, bind}
use Rattle.c_meaning_laws.proofs.Parts.{Ends, ends_bind}
use Rattle.c_meaning_laws.proofs.Kept.{Closed, Keeps, Made, changes, gives, seq, spends, stops}
use Rattle.c_meaning_laws.proofs.KeptPlaces.{LocalsOwn, StaticsOwn, stuck_kept}
use Rattle.c_meaning_laws.proofs.KeptSenses.{each_reversed}
use Rattle.c_meaning_laws.proofs.KeptStatements.{Leaves, entries_kept}

module _ {Q : Scalar → Type 0} {Own : ℕ → Type 0} {I : Objects → Type 0} (c : Closed Q Own I) where
  value_left_kept : (is_main has : Bool) (flow : Flow) → Leaves Q flow → Keeps I Q (value_left is_main has flow)
  value_left_kept is_main true (Returned (Some Undefined)) h = stops (Trapped trap.Undefined)
  value_left_kept is_main true (Returned (Some (Number kind value))) h = gives (Number kind value) h
  value_left_kept is_main true (Returned (Some (Place number offset))) h = gives (Place number offset) h
  value_left_kept is_main true (Returned (Some Null)) h = gives Null h
  value_left_kept is_main true (Returned None) h = gives Undefined c.undefined
  value_left_kept true true Next h = gives (Number Int (pos 0)) (c.numbers Int (pos 0))
  value_left_kept false true Next h = gives Undefined c.undefined
  value_left_kept is_main false (Returned None) h = gives Undefined c.undefined
  value_left_kept is_main false Next h = gives Undefined c.undefined
  value_left_kept is_main true Broken h = stuck_kept c
  value_left_kept is_main true Continued h = stuck_kept c
  value_left_kept is_main false (Returned (Some v)) h = stuck_kept c
  value_left_kept is_main false Broken h = stuck_kept c
  value_left_kept is_main false Continued h = stuck_kept c

  -- objects that were made later
  abbrev AllOwn : ℕ → Type 0
  AllOwn first = (number : ℕ) → first ≤ number → Own number

  killed_kept : (first count : ℕ) (o : Objects) → AllOwn first → I o → I (all_killed first count o)
  killed_kept first zero o own a = a
  killed_kept first (suc count) o own a =
      c.kills (first + count) (all_killed first count o) (own (first + count) (omega arith)) (killed_kept first count o own a)

  left_kept : (locals : Locals) (v : Scalar) → AllOwn locals.first → Q v → Keeps I Q (left_function locals v)
  left_kept locals v own h =
      changes (λ w. v) (λ w. record w { objects = all_killed locals.first locals.count w.objects; active = w.active - 1 })
      (λ w a. (h, killed_kept locals.first locals.count w.objects own a))

  -- the variables of a function that is entered
  blank : (n : ℕ) → AllByRecursion Q (replicate n Undefined)
  blank zero = tt
  blank (suc n) = (c.undefined, blank n)

  cells_kept : (vs : List Scalar) (sizes : List ℕ) → AllByRecursion Q vs → AllByRecursion (AllByRecursion Q) (first_cells vs sizes)
  cells_kept vs [] h = tt
  cells_kept [] (size ∷ sizes) h = (blank size, cells_kept [] sizes tt)
  cells_kept (v ∷ vs) (size ∷ sizes) h = ((h.0, blank (size - 1)), cells_kept vs sizes h.1)

  then_made : (rest : Objects → Option Objects) (o : Option Objects) → Made I o → ((x : Objects) → I x → Made I (rest x)) → Made I (option_and_then rest o)
  then_made rest None h k = tt
  then_made rest (Some o) h k = k o h

  all_made_kept : (cells : List (List Scalar)) (o : Objects) → AllByRecursion (AllByRecursion Q) cells → I o → Made I (all_made cells o)
  all_made_kept [] o h a = a
  all_made_kept (x ∷ rest) o h a = then_made (all_made rest) (made_with Local x o) (c.makes x o h.0 a) (λ more b. all_made_kept rest more h.1 b)

  abbrev IfOwn : Option ℕ → Type 0
  IfOwn None = Unit {0}
  IfOwn (Some number) = Own number

  either_own : (b : Bool) (number : ℕ) → Own number → IfOwn (if b then Some number else None)
  either_own true number h = h
  either_own false number h = tt

  locals_own : (locals : Locals) → AllOwn locals.first → LocalsOwn Own locals
  locals_own locals own index number is =
      subst IfOwn is (either_own (nat_lt index locals.count) (locals.first + index) (own (locals.first + index) (omega arith)))

  module _ (src : Source) (statics : StaticsOwn Own src.facts) where
    module _ (n : ℕ) (call : Caller) (calls : (number : ℕ) (vs : List Scalar) → AllByRecursion Q vs → Keeps I Q (call number vs)) where
      body_kept : (f : Signature) (locals : Locals) (body : Option EntryList) → AllOwn locals.first → Keeps I (Leaves Q) (run_body src call n f locals body)
      body_kept f locals None own = stuck_kept c
      body_kept f locals (Some body) own =
          record { at = (entries_kept c (setting_of src call locals) statics (locals_own locals own) calls n f.result body).at }

      abbrev Ended : Out Flow → Type 0
      Ended = Ends (λ flow u. Leaves Q flow × I u.objects)

      with_ended : (number : ℕ) (f : Signature) (w : World) (o : Option Objects) → AllOwn w.objects.made → Made I o
          → Ended (enter_with src call n number f w o)
      with_ended number f w None own h = tt
      with_ended number f w (Some objects) own h = (body_kept f (locals_at f w) (src.body number) own).at (body_world objects w) h

      room_ended : (number : ℕ) (f : Signature) (w : World) (b : Bool) (o : Option Objects) → AllOwn w.objects.made → Made I o
          → Ended (if b then enter_with src call n number f w o else Stop (Trapped trap.StackOverflow) w)
      room_ended number f w true o own h = with_ended number f w o own h
      room_ended number f w false o own h = tt

      fresh_own : (w : World) → I w.objects → AllOwn w.objects.made
      fresh_own w a number le = c.fresh number w.objects a le

      enter_ended : (number : ℕ) (f : Option Signature) (vs : List Scalar) (w : World) → AllByRecursion Q vs → I w.objects
          → Ended (enter_function src call n number f vs w)
      enter_ended number None vs w h a = tt
      enter_ended number (Some f) vs w h a =
          room_ended number f w (nat_lt w.active active_limit) (all_made (first_cells vs f.locals) w.objects) (fresh_own w a)
          (all_made_kept (first_cells vs f.locals) w.objects (cells_kept vs f.locals h) a)

      variables_first : (f : Option Signature) (w : World) → AllOwn w.objects.made → AllOwn (locals_of f w).first
      variables_first None w own = own
      variables_first (Some f) w own = own

      -- a function is entered and left again
      abbrev passes : ℕ → List Scalar → World → Out Scalar
      passes number vs u =
          bind (enter_function src call n number (src.facts.signature number) vs u) (λ flow y.
          bind (value_left (number == src.main) (gives_value (src.facts.signature number)) flow y) (left_function (locals_of (src.facts.signature number) u)))

      passes_kept : (number : ℕ) (vs : List Scalar) → AllByRecursion Q vs → Keeps I Q (passes number vs)
      passes_kept number vs h = record {
        at = λ w a.
            ends_bind (λ flow u. Leaves Q flow × I u.objects) (λ v u. Q v × I u.objects) (enter_function src call n number (src.facts.signature number) vs w) _
            (enter_ended number (src.facts.signature number) vs w h a) (λ flow y k.
            (seq (value_left_kept (number == src.main) (gives_value (src.facts.signature number)) flow k.0) (λ v j.
            left_kept (locals_of (src.facts.signature number) w) v (variables_first (src.facts.signature number) w (fresh_own w a)) j)).at y k.1);
      }

      given_kept : (number : ℕ) (vs : List Scalar) (b : Bool) → AllByRecursion Q vs
          → Keeps I Q (λ u. bind (if b then Go vs u else Stop (Trapped trap.Undefined) u) (λ xs _. passes number xs u))
      given_kept number vs true h = record { at = (passes_kept number vs h).at }
      given_kept number vs false h = stops (Trapped trap.Undefined)

    -- a call, whatever it calls
    pub calls_kept : (turns number : ℕ) (vs : List Scalar) → AllByRecursion Q vs → Keeps I Q (call_at src turns number vs)
    calls_kept zero number vs h = record { at = λ w a. tt }
    calls_kept (suc n) number vs h =
        record { at = (spends (given_kept n (call_at src n) (calls_kept n) number (reverse vs) (list_all is_defined_value vs) (each_reversed Q vs h))).at }
