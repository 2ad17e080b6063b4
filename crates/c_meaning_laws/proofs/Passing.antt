-- Arguments that are handed over, and returned values.
use Rattle.std.proofs.Common.{◌≡◌, ℕ, suc, ◌<◌, ◌==◌, Bool, true, false, List, [], ◌∷◌, ◌++◌, length, Option, Some, None, refl, ap, sym, ◌∙◌, subst}
use Rattle.std.proofs.lemmas.List.{append_assoc, append-nil, reverse-append, reverse-reverse}
use Rattle.std.specs.Prelude.{◌&&◌, if◌then◌else◌, reverse, Result, Ok, Err}
use Rattle.std.specs.List.{list_all}
use Rattle.std.proofs.lemmas.Bool.{and_from}
use Rattle.cbi_base.specs.Words.{active_limit, all_made, first_cells, Locals, local_at, Objects, value_stored, converted_number, is_defined_value}
use Rattle.base_lists.proofs.Numbers.{number_is}
use Rattle.cbi_base.specs.declared.observation.Seen.{Seen}
use Rattle.cbi_base.specs.declared.outcome.Outcome.TheVariants.{Trapped}
use Rattle.cbi_base.specs.declared.scalar.Scalar.{Scalar}
use Rattle.cbi_base.specs.declared.scalar.Scalar.TheVariants.{Number, Place, Null, Undefined}
use Rattle.cbi_base.specs.declared.trap.Trap.{Trap}
use Rattle.cbi_base.specs.declared.trap.Trap.TheVariants as trap
use Rattle.c_syntax.specs.ExprTree as e
use Rattle.c_syntax.specs.ExprTree.{ExprTree, ExprList}
use Rattle.flow.specs.declared.site.Slot.{Slot}
use Rattle.flow.specs.declared.site.Slot.TheVariants as slot
use Rattle.flow.specs.Truths.{seen_at_site}
use Rattle.c_meaning.specs.declared.value_type.ValueType.{ValueType}
use Rattle.c_meaning.specs.declared.value_type.ValueType.TheVariants as type
use Rattle.c_meaning.specs.Words.{call_function, call_sense, with_result, handed_scalar, is_null_as, Sense, handed_value, wanted_value, Setting, Signature}
use Rattle.c_meaning.specs.Words.{arguments_value, expr, arguments_printed, lone_value, assigned_at, object_place, store_at, variable, Source, call_at, enter_function}
use Rattle.c_meaning.specs.Words.{gives_value, left_function, locals_of, setting_of, value_left, called_as, expression_count, has_value, type_of, site_list, observed_value}
use Rattle.c_meaning.specs.Words.{sites_visited, world_with_seen, World, Out, Go, Stop, Returned, answer_or_trap, bind, chosen_part, value_discarded, one_turn_spent, stuck_run}
use Rattle.c_meaning_laws.specs.Passing.{ArePassed, CallPassesArguments, MeansIn, ReturnIsAssigned, argument_as, body_of}
use Rattle.c_meaning_laws.proofs.Frames.{body_begins_afresh}
use Rattle.c_meaning_laws.proofs.Parts.{Ends, anything, ends_bind, ends_go}

-- a value that was handed over is defined
abbrev IsThere : Scalar → World → Type 0
IsThere v w = is_defined_value v ≡ true

one_there : (of : ValueType) (v : Scalar) (w : World) → Ends IsThere (handed_scalar (Some of) v w)
unfolding converted_number
one_there (type.Number kind) (Number from value) w = refl
one_there (type.Pointer size) (Number from value) w = refl
one_there (type.Pointer size) (Place number offset) w = refl
one_there (type.Pointer size) Null w = refl
one_there (type.Number kind) Undefined w = tt
one_there (type.Number kind) (Place number offset) w = tt
one_there (type.Number kind) Null w = tt
one_there (type.Pointer size) Undefined w = tt
one_there (type.Array size) v w = tt
one_there type.Void v w = tt
one_there type.Struct v w = tt

handed_there : (is_null : Bool) (of : ValueType) (m : Sense) (w : World) → Ends IsThere (handed_value is_null (Some of) m w)
handed_there true of m w = refl
handed_there false of m w = ends_bind (λ _ _. Unit {0}) IsThere (m.value w) (handed_scalar (Some of)) (anything (m.value w)) (λ v u _. one_there of v u)

-- what a cast gives is what is handed over
cast_hands : (s : Setting) (of : ValueType) (x : ExprTree) (v : Scalar) (w u : World) → (argument_as s of x).value w ≡ Go v u
    → handed_value (is_null_as (Some of) x) (Some of) (expr s x) w ≡ Go v u
cast_hands s type.Void x v w u h = cc
cast_hands s of x v w u h = h

-- the values, the last one first, before those that are there
abbrev onto : List Scalar → List Scalar → List Scalar
onto [] before = before
onto (v ∷ vs) before = onto vs (v ∷ before)

onto_reversed : (vs before : List Scalar) → onto vs before ≡ reverse vs ++ before
onto_reversed [] before = refl
onto_reversed (v ∷ vs) before =
    onto_reversed vs (v ∷ before) ∙ sym (append_assoc (reverse vs) (v ∷ []) before)
    ∙ ap (λ xs. xs ++ before) (sym (reverse-append (v ∷ []) vs))

module _ (s : Setting) where
  passed_value : (types : List ValueType) (passed : ExprList) (vs : List Scalar) (w u : World) (before : List Scalar) → ArePassed s types passed w vs u
      → arguments_value s types passed before w ≡ Go (onto vs before) u
  passed_value [] e.no_exprs [] w u before h = ap (Go before) (sym h)
  passed_value (of ∷ types) (e.more_exprs x rest) (v ∷ vs) w u before h =
      ap (λ out. bind out (λ a. arguments_value s types rest (a ∷ before))) (cast_hands s of x v w h.0 h.1)
      ∙ passed_value types rest vs h.0 u (v ∷ before) h.2
  passed_value [] e.no_exprs (v ∷ vs) w u before h = absurd h
  passed_value [] (e.more_exprs x rest) vs w u before h = absurd h
  passed_value (of ∷ types) e.no_exprs vs w u before h = absurd h
  passed_value (of ∷ types) (e.more_exprs x rest) [] w u before h = absurd h

  passed_count : (types : List ValueType) (passed : ExprList) (vs : List Scalar) (w u : World) → ArePassed s types passed w vs u
      → expression_count passed ≡ length types
  passed_count [] e.no_exprs vs w u h = refl
  passed_count (of ∷ types) (e.more_exprs x rest) (v ∷ vs) w u h = ap suc (passed_count types rest vs h.0 u h.2)
  passed_count [] (e.more_exprs x rest) vs w u h = absurd h
  passed_count (of ∷ types) e.no_exprs vs w u h = absurd h
  passed_count (of ∷ types) (e.more_exprs x rest) [] w u h = absurd h

  passed_there : (types : List ValueType) (passed : ExprList) (vs : List Scalar) (w u : World) (before : List Scalar) → ArePassed s types passed w vs u
      → list_all is_defined_value before ≡ true → list_all is_defined_value (onto vs before) ≡ true
  passed_there [] e.no_exprs [] w u before h k = k
  passed_there (of ∷ types) (e.more_exprs x rest) (v ∷ vs) w u before h k =
      let there : is_defined_value v ≡ true =
      ends_go IsThere (handed_value (is_null_as (Some of) x) (Some of) (expr s x) w) v h.0
      (handed_there (is_null_as (Some of) x) of (expr s x) w) (cast_hands s of x v w h.0 h.1) in
      passed_there types rest vs h.0 u (v ∷ before) h.2 (and_from (is_defined_value v) (list_all is_defined_value before) there k)
  passed_there [] e.no_exprs (v ∷ vs) w u before h k = absurd h
  passed_there [] (e.more_exprs x rest) vs w u before h k = absurd h
  passed_there (of ∷ types) e.no_exprs vs w u before h k = absurd h
  passed_there (of ∷ types) (e.more_exprs x rest) [] w u before h k = absurd h

module _ (src : Source) (turns number rest : ℕ) (f : Signature) (arguments : List Scalar) (u : World) (objects : Objects)
    (known : src.facts.signature number ≡ Some f) (more : u.turns ≡ suc rest) (few : u.active < active_limit)
    (made : all_made (first_cells arguments f.locals) u.objects ≡ Some objects) where
  abbrev spent : World
  spent = record u { turns = rest }

  -- the function is entered and left again
  abbrev passes : Option Signature → List Scalar → World → Out Scalar
  passes g vs z =
      bind (enter_function src (call_at src turns) turns number g vs z) (λ flow y.
      bind (value_left (number == src.main) (gives_value g) flow y) (left_function (locals_of g z)))

  entered : passes (src.facts.signature number) arguments spent ≡ body_of src turns number f objects spent
  entered =
      ap (λ g. passes g arguments spent) known
      ∙ ap (λ out. bind out (λ flow y. bind (value_left (number == src.main) (has_value f.result) flow y) (left_function (locals_of (Some f) spent))))
      (body_begins_afresh src (call_at src turns) turns number f arguments spent objects few made).0

  called : (vs : List Scalar) → reverse vs ≡ arguments → list_all is_defined_value vs ≡ true
      → call_at src (suc turns) number vs u ≡ body_of src turns number f objects spent
  called vs order there =
      ap (λ n. one_turn_spent n u (λ z. bind (if list_all is_defined_value vs then Go (reverse vs) z else Stop (Trapped trap.Undefined) z) (λ xs _.
      passes (src.facts.signature number) xs z))) more
      ∙ ap (λ b. bind (if b then Go (reverse vs) spent else Stop (Trapped trap.Undefined) spent) (λ xs _. passes (src.facts.signature number) xs spent)) there
      ∙ ap (λ xs. passes (src.facts.signature number) xs spent) order ∙ entered

  module _ (token : ℕ) (locals : Locals) (passed : ExprList) (w : World) where
    abbrev s : Setting
    s = setting_of src (call_at src (suc turns)) locals

    abbrev body : World → Out Scalar
    body _ = body_of src turns number f objects spent

    -- the arguments, and then the function
    abbrev run : World → Out Scalar
    run z = bind (arguments_value s f.params passed [] z) (s.call number)

    ran : ArePassed s f.params passed w arguments u → chosen_part (expression_count passed == length f.params) run stuck_run w ≡ body w
    ran h =
        let order : reverse (onto arguments []) ≡ arguments =
        ap reverse (onto_reversed arguments [] ∙ append-nil (reverse arguments)) ∙ reverse-reverse arguments in
        ap (λ b. chosen_part b run stuck_run w) (number_is (expression_count passed) (length f.params) (passed_count s f.params passed arguments w u h))
        ∙ ap (λ out. bind out (s.call number)) (passed_value s f.params passed arguments w u [] h)
        ∙ called (onto arguments []) order (passed_there s f.params passed arguments w u [] h refl)

    same_result : (b : Bool) (m : World → Out Scalar) → m w ≡ body w → MeansIn w (with_result s token b m) (with_result s token b body)
    same_result true m h =
        let seen : Out Scalar → Out Scalar = λ out. bind out (sites_visited s (site_list (s.sites.return_at token))) in
        (ap seen h, ap (λ out. value_discarded (seen out)) h)
    same_result false m h = (refl, ap value_discarded h)

    abbrev sense_of : Option ℕ → List ℕ → Sense
    sense_of at name =
        call_sense s token (called_as at name) (expression_count passed) (λ types. arguments_value s types passed []) (λ want. lone_value s want passed)
        (arguments_printed s passed)

    call_means : (name : List ℕ) → src.facts.function_at token ≡ Some number → ArePassed s f.params passed w arguments u
        → MeansIn w (expr s (e.Call token name passed)) (with_result s token (has_value f.result) body)
    call_means name at h =
        subst (λ t. MeansIn w (sense_of t name) (with_result s token (has_value f.result) body)) (sym at)
        (subst (λ g. MeansIn w (call_function s token number g (expression_count passed) (λ types. arguments_value s types passed []))
        (with_result s token (has_value f.result) body)) (sym known)
        (same_result (has_value f.result) (chosen_part (expression_count passed == length f.params) run stuck_run) (ran h)))

pub call_passes_arguments : CallPassesArguments
call_passes_arguments src turns token number rest name locals f passed arguments w u objects at known h more few made = (
  (body_begins_afresh src (call_at src turns) turns number f arguments u objects few made).1,
  call_means src turns number rest f arguments u objects known more few made token locals passed w name at h,
)

-- an assigned value is what the whole gives
module _ (s : Setting) (v : Scalar) where
  abbrev IsIt : Scalar → World → Type 0
  IsIt x w = x ≡ v

  seen_is : (site : ℕ) (w : World) (answer : Result Seen Trap) → Ends IsIt (bind (answer_or_trap answer w) (λ seen u. Go v (world_with_seen site seen u)))
  seen_is site w (Ok seen) = refl
  seen_is site w (Err t) = tt

  observed_is : (site : ℕ) (x : Scalar) (w : World) → x ≡ v → Ends IsIt (observed_value s site x w)
  observed_is site x w h = subst (λ y. Ends IsIt (observed_value s site y w)) (sym h) (seen_is site w (seen_at_site (s.sites.site site) (Some v) s.locals w.objects))

  visited_is : (sites : List ℕ) (x : Scalar) (w : World) → x ≡ v → Ends IsIt (sites_visited s sites x w)
  visited_is [] x w h = h
  visited_is (site ∷ more) x w h = ends_bind IsIt IsIt (observed_value s site x w) (sites_visited s more) (observed_is site x w h) (visited_is more)

  stored_is : (w : World) (answer : Result Objects Trap) → Ends IsIt (bind (answer_or_trap answer w) (λ objects u. Go v (record u { objects = objects })))
  stored_is w (Ok objects) = refl
  stored_is w (Err t) = tt

  assigned_is : (token : ℕ) (p : Scalar) (w : World) → Ends IsIt (assigned_at s token p v w)
  assigned_is token p w =
      ends_bind IsIt IsIt (store_at p v w) (sites_visited s (s.sites.pairs_at token)) (stored_is w (value_stored p v w.objects)) (visited_is (s.sites.pairs_at token))

module _ (s : Setting) (token : ℕ) (v : Scalar) (u : World) where
  abbrev Gives : Out Scalar → Type 0
  Gives out = (y : World) × (bind out (λ x. Go (Returned (Some x))) ≡ Go (Returned (Some v)) y)

  from_stored : (p : Scalar) (out : Out Scalar) → bind out (assigned_at s token p) ≡ Go v u → Gives out
  from_stored p (Go x y) h = (y, ap (λ a. Go (Returned (Some a)) y) (sym (ends_go (IsIt s x) (assigned_at s token p x y) v u (assigned_is s x token p y) h)))
  from_stored p (Stop outcome y) h = cc

  from_local : (at : Option ℕ) (m : World → Out Scalar) (w : World) → bind (object_place at w) (λ p z. bind (m z) (assigned_at s token p)) ≡ Go v u
      → Gives (m w)
  from_local None m w h = cc
  from_local (Some n) m w h = from_stored (Place n 0) (m w) h

  from_variable : (at : Option Slot) (m : World → Out Scalar) (w : World) → bind (variable s at w) (λ p z. bind (m z) (assigned_at s token p)) ≡ Go v u
      → Gives (m w)
  from_variable None m w h = cc
  from_variable (Some (slot.Local index)) m w h = from_local (local_at index s.locals) m w h
  from_variable (Some (slot.Global index)) m w h = from_stored (Place index 0) (m w) h

pub return_is_assigned : ReturnIsAssigned
return_is_assigned s n token equals at name result value v w u typed h =
    from_variable s equals v u (s.facts.slot_at at) (wanted_value (is_null_as (Some result) value) (type_of s.facts value) (Some result) (expr s value)) w
    (subst (λ of. bind (variable s (s.facts.slot_at at) w) (λ p z.
    bind (wanted_value (is_null_as of value) (type_of s.facts value) of (expr s value) z) (assigned_at s equals p)) ≡ Go v u) typed h)
