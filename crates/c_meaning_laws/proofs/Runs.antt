-- Calls and whole runs of a text whose types fit.
use Rattle.std.proofs.Common.{◌≡◌, ℕ, zero, suc, refl, ap, subst, sym, ◌∙◌, List, [], Some, None, Bool, true, false, length}
use Rattle.std.proofs.lemmas.Bool.{false≢true, true≢false}
use Rattle.std.specs.Prelude.{Option, ℤ, pos, ◌==◌, nat_lt, reverse, IsSome, if◌then◌else◌}
use Rattle.std.specs.List.{list_all}
use Rattle.cbi_base.specs.Words.{is_defined_value, active_limit, all_made, first_cells, Locals, each_made, Object, Objects, no_objects}
use Rattle.base_lists.proofs.Numbers.{same_number}
use Rattle.cbi_base.specs.declared.outcome.Outcome.TheVariants.{Trapped}
use Rattle.cbi_base.specs.declared.scalar.Kind.{Kind}
use Rattle.cbi_base.specs.declared.scalar.Kind.TheVariants.{Char, Int, Unsigned}
use Rattle.cbi_base.specs.declared.scalar.Scalar.{Scalar}
use Rattle.cbi_base.specs.declared.scalar.Scalar.TheVariants.{Number, Place, Null, Undefined}
use Rattle.cbi_base.specs.declared.trap.Trap.TheVariants as trap
use Rattle.c_syntax.specs.StatementTree.{EntryList}
use Rattle.c_meaning.specs.declared.value_type.ValueType.{ValueType}
use Rattle.c_meaning.specs.declared.value_type.ValueType.TheVariants as type
use Rattle.c_meaning.specs.Words.{Signature, Source, run_behaviour, call_at, enter_function, enter_with, first_world, body_world, left_function, locals_at, meaning}
use Rattle.c_meaning.specs.Words.{run_body, run_from, run_main, setting_of, exit_behaviour, value_left, has_value, World, Out, Go, Stop, Caller, Flow, Next, Broken}
use Rattle.c_meaning.specs.Words.{Continued, Returned, bind}
use Rattle.c_meaning_laws.specs.TypedSource.{GivesInt, SourceFits, TypedBody, without_sites}
use Rattle.c_meaning_laws.proofs.Safe.{Ending, IsPlainEnd, Safe, gives, plain, seq, spends, unseen}
use Rattle.c_meaning_laws.proofs.Values.{Fits, Given}
use Rattle.c_meaning_laws.proofs.Visits.{CallsSafe}
use Rattle.c_meaning_laws.proofs.Statements.{FlowFits, entries_safe}

value_left_safe : (is_main : Bool) (result : ValueType) (b : Bool) (flow : Flow) → has_value result ≡ b → (is_main ≡ true → result ≡ type.Number Int)
    → FlowFits result false flow
    → Safe (Fits (Some result)) (value_left is_main b flow) (value_left is_main b flow)
value_left_safe is_main result true (Returned (Some Undefined)) e i h = record { at = λ w. tt; same = λ w. refl }
value_left_safe is_main result true (Returned (Some (Number k n))) e i h = gives (Number k n) h.0
value_left_safe is_main result true (Returned (Some (Place a o))) e i h = gives (Place a o) h.0
value_left_safe is_main result true (Returned (Some Null)) e i h = gives Null h.0
value_left_safe true result true Next e i h = gives (Number Int (pos 0)) (subst (λ t. Fits (Some t) (Number Int (pos 0))) (sym (i refl)) refl)
value_left_safe is_main result false (Returned (Some v)) e i h = absurd (true≢false (sym h.1 ∙ e))
value_left_safe is_main result b Broken e i h = absurd (false≢true h)
value_left_safe is_main result b Continued e i h = absurd (false≢true h)
value_left_safe is_main result true (Returned None) e i h = gives Undefined tt
value_left_safe false result true Next e i h = gives Undefined tt
value_left_safe is_main result false (Returned None) e i h = gives Undefined tt
value_left_safe is_main result false Next e i h = gives Undefined tt

-- `main` ends with a value
main_left_safe : (flow : Flow) → FlowFits (type.Number Int) false flow → Safe (Given (Some (type.Number Int))) (value_left true true flow)
    (value_left true true flow)
main_left_safe (Returned (Some Undefined)) h = record { at = λ w. tt; same = λ w. refl }
main_left_safe (Returned (Some (Number k n))) h = gives (Number k n) (h.0, refl)
main_left_safe (Returned (Some (Place a o))) h = absurd h.0
main_left_safe (Returned (Some Null)) h = absurd h.0
main_left_safe (Returned None) h = absurd (true≢false h)
main_left_safe Next h = gives (Number Int (pos 0)) (refl, refl)
main_left_safe Broken h = absurd (false≢true h)
main_left_safe Continued h = absurd (false≢true h)

left_safe : (P : Scalar → Type 0) (locals : Locals) (v : Scalar) → P v → Safe P (left_function locals v) (left_function locals v)
left_safe P locals v h = record { at = λ w. h; same = λ w. refl }

module _ (src : Source) (fits : SourceFits src) where
  module _ (n : ℕ) (call call0 : Caller) (calls : CallsSafe src.facts call call0) where
    body_safe : (f : Signature) (locals : Locals) (body : Option EntryList) → locals.count ≡ length f.locals → TypedBody src.facts src.sites f body
        → Safe (FlowFits f.result false) (run_body src call n f locals body) (run_body (without_sites src) call0 n f locals body)
    body_safe f locals None c h = absurd h
    body_safe f locals (Some body) c h =
        let whole : Safe (FlowFits f.result false) (λ w. run_body src call n f locals (Some body) w)
        (λ w. run_body (without_sites src) call0 n f locals (Some body) w) =
        entries_safe (setting_of src call locals) call0 fits.sites calls f.result body n false (rw c h)
        in record { at = whole.at; same = whole.same }

    with_end : (number : ℕ) (f : Signature) → src.facts.signature number ≡ Some f → (w : World) (o : Option Objects)
        → Ending (FlowFits f.result false) (enter_with src call n number f w o) × (unseen (enter_with src call n number f w o)
        ≡ enter_with (without_sites src) call0 n number f (plain w) o)
    with_end number f e w None = (tt, refl)
    with_end number f e w (Some objects) =
        let body : Safe (FlowFits f.result false) (run_body src call n f (locals_at f w) (src.body number))
        (run_body (without_sites src) call0 n f (locals_at f w) (src.body number)) =
        body_safe f (locals_at f w) (src.body number) refl (fits.bodies number f e)
        in (body.at (body_world objects w), body.same (body_world objects w))

    enter_end : (number : ℕ) (f : Signature) → src.facts.signature number ≡ Some f → (w : World) (b : Bool) (o : Option Objects)
        → Ending (FlowFits f.result false) (if b then enter_with src call n number f w o else Stop (Trapped trap.StackOverflow) w)
        × (unseen (if b then enter_with src call n number f w o else Stop (Trapped trap.StackOverflow) w)
        ≡ (if b then enter_with (without_sites src) call0 n number f (plain w) o else Stop (Trapped trap.StackOverflow) (plain w)))
    enter_end number f e w true o = with_end number f e w o
    enter_end number f e w false o = (tt, refl)

    enter_safe : (number : ℕ) (f : Signature) → src.facts.signature number ≡ Some f → (vs : List Scalar)
        → Safe (FlowFits f.result false) (enter_function src call n number (Some f) vs) (enter_function (without_sites src) call0 n number (Some f) vs)
    enter_safe number f e vs = record {
      at = λ w. (enter_end number f e w (nat_lt w.active active_limit) (all_made (first_cells vs f.locals) w.objects)).0;
      same = λ w. (enter_end number f e w (nat_lt w.active active_limit) (all_made (first_cells vs f.locals) w.objects)).1;
    }

    -- what stands between a call and what comes after it, with its arguments
    abbrev called_with : Source → Caller → ℕ → Signature → Locals → List Scalar → World → Out Scalar
    called_with text caller number f locals vs w =
        bind (enter_function text caller n number (Some f) vs w) (λ flow y. bind (value_left (number == src.main) (has_value f.result) flow y) (left_function locals))

    main_int : (number : ℕ) (f : Signature) → src.facts.signature number ≡ Some f → (number == src.main) ≡ true → f.result ≡ type.Number Int
    main_int number f e h = subst GivesInt (ap src.facts.signature (sym (same_number number src.main h)) ∙ e) fits.main

    called_safe : (number : ℕ) (f : Signature) → src.facts.signature number ≡ Some f → (locals : Locals) (vs : List Scalar)
        → Safe (Fits (Some f.result)) (called_with src call number f locals vs) (called_with (without_sites src) call0 number f locals vs)
    called_safe number f e locals vs =
        seq (enter_safe number f e vs) (λ flow h.
        seq (value_left_safe (number == src.main) f.result (has_value f.result) flow refl (main_int number f e) h)
        (λ v g. left_safe (Fits (Some f.result)) locals v g))

    -- the arguments are defined, and the call is made in the same world
    defined_end : (number : ℕ) (f : Signature) → src.facts.signature number ≡ Some f → (vs : List Scalar) (w : World) (b : Bool)
        → Ending (Fits (Some f.result)) (bind (if b then Go vs w else Stop (Trapped trap.Undefined) w)
        (λ us _. called_with src call number f (locals_at f w) us w))
        × (unseen (bind (if b then Go vs w else Stop (Trapped trap.Undefined) w) (λ us _. called_with src call number f (locals_at f w) us w))
        ≡ bind (if b then Go vs (plain w) else Stop (Trapped trap.Undefined) (plain w)) (λ us _. called_with (without_sites src) call0 number f
        (locals_at f w) us (plain w)))
    defined_end number f e vs w true = ((called_safe number f e (locals_at f w) vs).at w, (called_safe number f e (locals_at f w) vs).same w)
    defined_end number f e vs w false = (tt, refl)

  -- no call of a function comes to trap Internal, what it gives is of its type or undefined, and without sites it does the same
  pub calls_safe : (n : ℕ) → CallsSafe src.facts (call_at src n) (call_at (without_sites src) n)
  calls_safe zero = record { by = λ number f e vs. record { at = λ w. tt; same = λ w. refl } }
  calls_safe (suc n) = record {
    by = λ number f e vs.
        spends _ _ record {
          at = λ w. rw e ((defined_end n (call_at src n) (call_at (without_sites src) n) (calls_safe n) number f e (reverse vs) w
              (list_all is_defined_value vs)).0);
          same = λ w. rw e ((defined_end n (call_at src n) (call_at (without_sites src) n) (calls_safe n) number f e (reverse vs) w
              (list_all is_defined_value vs)).1);
        };
  }

  int_result : (o : Option Signature) → GivesInt o → (f : Signature) × (o ≡ Some f) × (f.result ≡ type.Number Int)
  int_result None h = absurd h
  int_result (Some f) h = (f, refl, h)

  main_safe : (turns : ℕ) (f : Signature) → src.facts.signature src.main ≡ Some f → f.result ≡ type.Number Int
      → Safe (Given (Some (type.Number Int))) (λ w. bind (enter_function src (call_at src turns) turns src.main (Some f) [] w) (value_left true (has_value f.result)))
      (λ w. bind (enter_function (without_sites src) (call_at (without_sites src) turns) turns src.main (Some f) [] w) (value_left true (has_value f.result)))
  main_safe turns f e i = seq (enter_safe turns (call_at src turns) (call_at (without_sites src) turns) (calls_safe turns) src.main f e [])
      (λ flow h. rw i (main_left_safe flow (subst (λ t. FlowFits t false flow) i h)))

  run_end : (input : List ℕ) (turns : ℕ) (o : Option Objects)
      → Ending (Given (Some (type.Number Int))) (run_from src input turns o) × (unseen (run_from src input turns o)
      ≡ run_from (without_sites src) input turns o)
  run_end input turns None = (tt, refl)
  run_end input turns (Some objects) =
      let main : (f : Signature) × (src.facts.signature src.main ≡ Some f) × (f.result ≡ type.Number Int) = int_result
      (src.facts.signature src.main) fits.main in
      rw main.1 (
        (main_safe turns main.0 main.1 main.2).at (first_world objects input turns),
        (main_safe turns main.0 main.1 main.2).same
            (first_world objects input turns),
      )

  objects_end : (input : List ℕ) (turns : ℕ) (o : Option (List Object)) → IsSome o
      → Ending (Given (Some (type.Number Int))) (run_main src input turns o) × (unseen (run_main src input turns o)
      ≡ run_main (without_sites src) input turns o)
  objects_end input turns None h = absurd (false≢true h)
  objects_end input turns (Some objects) h = run_end input turns (each_made objects no_objects)

-- how a run ends, and what it wrote
ended : (k : Kind) (n : ℤ) (w : World) → k ≡ Int → IsPlainEnd (exit_behaviour (Number k n) w).outcome
ended k n w e = rw e tt

behaves_plain : (m : Out Scalar) → Ending (Given (Some (type.Number Int))) m → IsPlainEnd (run_behaviour m).outcome
behaves_plain (Stop outcome w) h = h
behaves_plain (Go (Number k n) w) h = ended k n w (sym h.0)
behaves_plain (Go Undefined w) h = absurd (false≢true h.1)
behaves_plain (Go Null w) h = absurd h.0
behaves_plain (Go (Place a i) w) h = absurd h.0

outcome_unseen : (m : Out Scalar) → (run_behaviour (unseen m)).outcome ≡ (run_behaviour m).outcome
outcome_unseen (Stop outcome w) = refl
outcome_unseen (Go (Number Int n) w) = refl
outcome_unseen (Go (Number Char n) w) = refl
outcome_unseen (Go (Number Unsigned n) w) = refl
outcome_unseen (Go Undefined w) = refl
outcome_unseen (Go Null w) = refl
outcome_unseen (Go (Place a i) w) = refl

output_unseen : (m : Out Scalar) → (run_behaviour (unseen m)).output ≡ (run_behaviour m).output
output_unseen (Stop outcome w) = refl
output_unseen (Go (Number Int n) w) = refl
output_unseen (Go (Number Char n) w) = refl
output_unseen (Go (Number Unsigned n) w) = refl
output_unseen (Go Undefined w) = refl
output_unseen (Go Null w) = refl
output_unseen (Go (Place a i) w) = refl

pub never_internal : (src : Source) (input : List ℕ) (turns : ℕ) → SourceFits src → (meaning src input turns).outcome ≡ Trapped trap.Internal → ⊥
unfolding meaning
never_internal src input turns fits e =
    subst IsPlainEnd e (behaves_plain (run_main src input turns src.objects) (objects_end src fits input turns src.objects fits.objects).0)

pub same_outcome : (src : Source) (input : List ℕ) (turns : ℕ) → SourceFits src → (meaning src input turns).outcome
    ≡ (meaning (without_sites src) input turns).outcome
unfolding meaning
same_outcome src input turns fits =
    sym (outcome_unseen (run_main src input turns src.objects)) ∙ ap (λ m. (run_behaviour m).outcome) (objects_end src fits input turns src.objects fits.objects).1

pub same_output : (src : Source) (input : List ℕ) (turns : ℕ) → SourceFits src → (meaning src input turns).output
    ≡ (meaning (without_sites src) input turns).output
unfolding meaning
same_output src input turns fits =
    sym (output_unseen (run_main src input turns src.objects)) ∙ ap (λ m. (run_behaviour m).output) (objects_end src fits input turns src.objects fits.objects).1
