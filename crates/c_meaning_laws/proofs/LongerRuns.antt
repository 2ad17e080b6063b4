-- Calls and whole runs, where more turns are left.
use Rattle.std.proofs.Common.{◌≡◌, ℕ, zero, suc, ◌+◌, ◌-◌, ◌≤◌, ◌==◌, Bool, true, false, nat_lt, pos, List, [], ◌++◌, Option, Some, None, refl, ap, sym, ◌∙◌, subst, arith}
use Rattle.std.specs.Prelude.{if◌then◌else◌, reverse}
use Rattle.std.specs.List.{list_all}
use Rattle.cbi_base.specs.Words.{is_defined_value, active_limit, all_killed, all_made, first_cells, Locals, each_made, Object, Objects, no_objects}
use Rattle.cbi_base.specs.declared.outcome.Outcome.TheVariants.{Ended, Trapped, CutTurns, CutOutput}
use Rattle.cbi_base.specs.declared.scalar.Kind.TheVariants.{Char, Int, Unsigned}
use Rattle.cbi_base.specs.declared.scalar.Scalar.{Scalar}
use Rattle.cbi_base.specs.declared.scalar.Scalar.TheVariants.{Number, Place, Null, Undefined}
use Rattle.cbi_base.specs.declared.trap.Trap.TheVariants as trap
use Rattle.c_syntax.specs.StatementTree.{EntryList}
use Rattle.c_meaning.specs.Words.{all_defined, Signature, Source, run_behaviour, call_at, enter_function, enter_with, first_world, gives_value, body_world, left_function}
use Rattle.c_meaning.specs.Words.{locals_at, locals_of, meaning, run_body, run_from, run_main, setting_of, exit_behaviour, value_left, source_of, World, Out, Go, Stop}
use Rattle.c_meaning.specs.Words.{Flow, Next, Broken, Continued, Returned, Caller, bind, one_turn_spent}
use Rattle.c_meaning_laws.specs.Turns.{Begins, CutBegins, CutTextBegins, UncutStays, UncutTextStays}
use Rattle.c_meaning_laws.proofs.Longer.{Extends, Grows, Longer, Matches, changes, cut, extends_itself, gives, grows_itself, left_in, longer, same_left, seq, spends, stops}
use Rattle.c_meaning_laws.proofs.LongerPlaces.{by_state, stuck_longer}
use Rattle.c_meaning_laws.proofs.LongerStatements.{entries_longer}

module _ (k : ℕ) where
  -- the value that a function ends with
  value_longer : (is_main has : Bool) (flow : Flow) → Longer k (value_left is_main has flow) (value_left is_main has flow)
  value_longer is_main true (Returned (Some Undefined)) = stops k Scalar (Trapped trap.Undefined)
  value_longer is_main true (Returned (Some (Number kind value))) = gives k (Number kind value)
  value_longer is_main true (Returned (Some (Place number offset))) = gives k (Place number offset)
  value_longer is_main true (Returned (Some Null)) = gives k Null
  value_longer is_main true (Returned None) = gives k Undefined
  value_longer true true Next = gives k (Number Int (pos 0))
  value_longer false true Next = gives k Undefined
  value_longer is_main false (Returned None) = gives k Undefined
  value_longer is_main false Next = gives k Undefined
  value_longer is_main true Broken = stuck_longer k Scalar
  value_longer is_main true Continued = stuck_longer k Scalar
  value_longer is_main false (Returned (Some v)) = stuck_longer k Scalar
  value_longer is_main false Broken = stuck_longer k Scalar
  value_longer is_main false Continued = stuck_longer k Scalar

  left_longer : (locals : Locals) (v : Scalar) → Longer k (left_function locals v) (left_function locals v)
  left_longer locals v =
      changes k (λ w. v) (λ w. record w { objects = all_killed locals.first locals.count w.objects; active = w.active - 1 }) (λ w. refl) (λ w. refl)
      (λ w. same_left w _ refl refl refl)

  module _ (src : Source) where
    -- a function's body, its calls made by the first or by the second, which is the same with more turns
    module _ (call others : Caller) (calls : (number : ℕ) (vs : List Scalar) → Longer k (call number vs) (others number vs)) (n m : ℕ) (le : n ≤ m) where
      body_longer : (f : Signature) (locals : Locals) (body : Option EntryList)
          → Longer k (run_body src call n f locals body) (run_body src others m f locals body)
      body_longer f locals None = stuck_longer k Flow
      body_longer f locals (Some body) = entries_longer k (setting_of src call locals) others calls n m le f.result body

      inside_longer : (number : ℕ) (f : Signature) (objects : Option Objects)
          → Longer k (λ w. enter_with src call n number f w objects) (λ w. enter_with src others m number f w objects)
      inside_longer number f None = stops k Flow (Trapped trap.StackOverflow)
      inside_longer number f (Some objects) =
          by_state k (λ w. locals_at f w) (λ l w. run_body src call n f l (src.body number) (body_world objects w))
          (λ l w. run_body src others m f l (src.body number) (body_world objects w)) (λ w. refl) (λ l.
          seq k (changes k (λ w. tt {0}) (body_world objects) (λ w. refl) (λ w. refl) (λ w. same_left w _ refl refl refl))
          (λ _. body_longer f l (src.body number)))

      room_longer : (number : ℕ) (f : Signature) (cells : List (List Scalar)) (b : Bool)
          → Longer k (λ w. if b then enter_with src call n number f w (all_made cells w.objects) else Stop (Trapped trap.StackOverflow) w)
          (λ w. if b then enter_with src others m number f w (all_made cells w.objects) else Stop (Trapped trap.StackOverflow) w)
      room_longer number f cells true =
          by_state k (λ w. all_made cells w.objects) (λ o w. enter_with src call n number f w o) (λ o w. enter_with src others m number f w o) (λ w. refl)
          (inside_longer number f)
      room_longer number f cells false = stops k Flow (Trapped trap.StackOverflow)

      enter_longer : (number : ℕ) (f : Option Signature) (vs : List Scalar) → Longer k (enter_function src call n number f vs) (enter_function src others m number f vs)
      enter_longer number None vs = stuck_longer k Flow
      enter_longer number (Some f) vs =
          by_state k (λ w. nat_lt w.active active_limit)
          (λ b w. if b then enter_with src call n number f w (all_made (first_cells vs f.locals) w.objects) else Stop (Trapped trap.StackOverflow) w)
          (λ b w. if b then enter_with src others m number f w (all_made (first_cells vs f.locals) w.objects) else Stop (Trapped trap.StackOverflow) w)
          (λ w. refl) (room_longer number f (first_cells vs f.locals))

      -- a function is entered and left again, where so many turns are left for its body
      abbrev passes : Caller → ℕ → ℕ → List Scalar → World → Out Scalar
      passes caller turns number vs u =
          bind (enter_function src caller turns number (src.facts.signature number) vs u) (λ flow y.
          bind (value_left (number == src.main) (gives_value (src.facts.signature number)) flow y) (left_function (locals_of (src.facts.signature number) u)))

      variables_same : (f : Option Signature) (w : World) → locals_of f (longer k w) ≡ locals_of f w
      variables_same None w = refl
      variables_same (Some f) w = refl

      passes_longer : (number : ℕ) (vs : List Scalar) → Longer k (passes call n number vs) (passes others m number vs)
      passes_longer number vs =
          by_state k (λ u. locals_of (src.facts.signature number) u)
          (λ l u. bind (enter_function src call n number (src.facts.signature number) vs u) (λ flow y.
          bind (value_left (number == src.main) (gives_value (src.facts.signature number)) flow y) (left_function l)))
          (λ l u. bind (enter_function src others m number (src.facts.signature number) vs u) (λ flow y.
          bind (value_left (number == src.main) (gives_value (src.facts.signature number)) flow y) (left_function l)))
          (variables_same (src.facts.signature number)) (λ l.
          seq k (enter_longer number (src.facts.signature number) vs) (λ flow.
          seq k (value_longer (number == src.main) (gives_value (src.facts.signature number)) flow) (left_longer l)))

      given_longer : (number : ℕ) (vs : List Scalar) (b : Bool)
          → Longer k (λ u. bind (if b then Go vs u else Stop (Trapped trap.Undefined) u) (λ xs _. passes call n number xs u))
          (λ u. bind (if b then Go vs u else Stop (Trapped trap.Undefined) u) (λ xs _. passes others m number xs u))
      given_longer number vs true = passes_longer number vs
      given_longer number vs false = stops k Scalar (Trapped trap.Undefined)

      -- a call behind its turn
      next_longer : (number : ℕ) (vs : List Scalar)
          → Longer k (λ w. one_turn_spent w.turns w (λ u. bind (all_defined vs u) (λ xs _. passes call n number xs u)))
          (λ w. one_turn_spent w.turns w (λ u. bind (all_defined vs u) (λ xs _. passes others m number xs u)))
      next_longer number vs = spends k (given_longer number (reverse vs) (list_all is_defined_value vs))

    -- a call only adds to what was written and seen: beside calls that are cut at once
    pub call_grows : (m number : ℕ) (vs : List Scalar) (w : World) → Grows w (left_in (call_at src m number vs w))
    call_grows zero number vs w = grows_itself w
    call_grows (suc m) number vs w =
        (next_longer (λ _ _. Stop CutTurns) (call_at src m) (λ other xs. cut k (call_at src m other xs) (call_grows m other xs)) zero m (omega arith) number
        vs).grows w

    call_longer : (n m : ℕ) → n ≤ m → (number : ℕ) (vs : List Scalar) → Longer k (call_at src n number vs) (call_at src m number vs)
    call_longer zero m le number vs =
        let at_once : Longer k (Stop CutTurns) (call_at src m number vs) = cut k (call_at src m number vs) (call_grows m number vs) in
        record { grows = at_once.grows; same = at_once.same }
    call_longer (suc n) zero le number vs = absurd (omega (arith, le))
    call_longer (suc n) (suc m) le number vs =
        next_longer (call_at src n) (call_at src m) (call_longer n m (omega (arith, le))) n m (omega (arith, le)) number vs

    from_longer : (input : List ℕ) (turns : ℕ) (objects : Option Objects)
        → Matches k (run_from src input turns objects) (run_from src input (turns + k) objects)
    from_longer input turns None = refl
    from_longer input turns (Some objects) =
        let le : turns ≤ turns + k = omega arith in
        (seq k (enter_longer (call_at src turns) (call_at src (turns + k)) (call_longer turns (turns + k) le) turns (turns + k) le src.main
        (src.facts.signature src.main) []) (value_longer true (gives_value (src.facts.signature src.main)))).same (first_world objects input turns)

    main_longer : (input : List ℕ) (turns : ℕ) (objects : Option (List Object))
        → Matches k (run_main src input turns objects) (run_main src input (turns + k) objects)
    main_longer input turns None = refl
    main_longer input turns (Some objects) = from_longer input turns (each_made objects no_objects)

  -- what is seen of a run
  status_same : (v : Scalar) (w : World) → exit_behaviour v (longer k w) ≡ exit_behaviour v w
  status_same (Number Char value) w = refl
  status_same (Number Int value) w = refl
  status_same (Number Unsigned value) w = refl
  status_same (Place number offset) w = refl
  status_same Null w = refl
  status_same Undefined w = refl

  uncut_same : (out other : Out Scalar) → Matches k out other → ((run_behaviour out).outcome ≡ CutTurns → ⊥) → run_behaviour other ≡ run_behaviour out
  uncut_same (Go v w) other h uncut = ap run_behaviour h ∙ status_same v w
  uncut_same (Stop CutTurns w) other h uncut = absurd (uncut refl)
  uncut_same out other h uncut = ap run_behaviour h

  onward : {A : Type 0} (other : Out A) (w u : World) → left_in other ≡ longer k u → Extends w u → Extends w (left_in other)
  onward other w u same h = subst (Extends w) (sym same) (record { output = h.output; seen = h.seen })

  matches_extends : (out other : Out Scalar) → Matches k out other → Extends (left_in out) (left_in other)
  matches_extends (Go v w) other h = onward other w w (ap left_in h) (extends_itself w)
  matches_extends (Stop CutTurns w) other h = h
  matches_extends (Stop CutOutput w) other h = onward other w w (ap left_in h) (extends_itself w)
  matches_extends (Stop (Ended v) w) other h = onward other w w (ap left_in h) (extends_itself w)
  matches_extends (Stop (Trapped trap) w) other h = onward other w w (ap left_in h) (extends_itself w)

status_left : (v : Scalar) (w : World) → ((exit_behaviour v w).output ≡ w.output) × ((exit_behaviour v w).seen ≡ w.seen)
status_left (Number Char value) w = (refl, refl)
status_left (Number Int value) w = (refl, refl)
status_left (Number Unsigned value) w = (refl, refl)
status_left (Place number offset) w = (refl, refl)
status_left Null w = (refl, refl)
status_left Undefined w = (refl, refl)

behaves_left : (out : Out Scalar) → ((run_behaviour out).output ≡ (left_in out).output) × ((run_behaviour out).seen ≡ (left_in out).seen)
behaves_left (Go v w) = status_left v w
behaves_left (Stop outcome w) = (refl, refl)

extends_begins : (out other : Out Scalar) → Extends (left_in out) (left_in other) → Begins (run_behaviour out) (run_behaviour other)
extends_begins out other h = record {
  output = (h.output.0, (behaves_left other).0 ∙ h.output.1 ∙ ap (λ l. l ++ h.output.0) (sym (behaves_left out).0));
  seen = (h.seen.0, (behaves_left other).1 ∙ h.seen.1 ∙ ap (λ l. l ++ h.seen.0) (sym (behaves_left out).1));
}

pub uncut_stays : UncutStays
unfolding meaning
uncut_stays src input turns more le uncut =
    let k : ℕ = more - turns in
    let same : turns + (more - turns) ≡ more = omega (arith, le) in
    subst (λ n. meaning src input n ≡ meaning src input turns) same
    (uncut_same k (run_main src input turns src.objects) (run_main src input (turns + k) src.objects) (main_longer k src input turns src.objects) uncut)

pub cut_begins : CutBegins
unfolding meaning
cut_begins src input turns more le =
    let k : ℕ = more - turns in
    let same : turns + (more - turns) ≡ more = omega (arith, le) in
    subst (λ n. Begins (meaning src input turns) (meaning src input n)) same
    (extends_begins (run_main src input turns src.objects) (run_main src input (turns + k) src.objects)
    (matches_extends k (run_main src input turns src.objects) (run_main src input (turns + k) src.objects) (main_longer k src input turns src.objects)))

pub uncut_text_stays : UncutTextStays
uncut_text_stays tree walk table input turns more le uncut = uncut_stays (source_of tree walk table) input turns more le uncut

pub cut_text_begins : CutTextBegins
cut_text_begins tree walk table input turns more le = cut_begins (source_of tree walk table) input turns more le
