-- What is made as a function is entered, and what is left of it.
use Rattle.std.proofs.Common.{◌≡◌, ℕ, zero, suc, ◌+◌, ◌-◌, ◌<◌, ◌≤◌, ◌==◌, Bool, true, false, length, replicate, List, [], ◌∷◌, Option}
use Rattle.std.proofs.Common.{Some, None, slice_get, refl, ap, ◌∙◌, subst, arith}
use Rattle.std.proofs.lemmas.Bool.Decides.{nat_tests}
use Rattle.std.specs.Prelude.{if◌then◌else◌, reverse}
use Rattle.std.specs.FinMap.{get, remove}
use Rattle.std.specs.List.{list_all}
use Rattle.std.specs.Option.{option_and_then}
use Rattle.cbi_base.specs.Words.{is_defined_value, active_limit, all_killed, all_made, first_cells, Locals, Object, Objects, has_room, one_object_more}
use Rattle.base_lists.proofs.Numbers.{less_is, same_number}
use Rattle.cbi_base.specs.declared.outcome.Outcome.TheVariants.{Trapped}
use Rattle.cbi_base.specs.declared.scalar.Class.TheVariants.{Local}
use Rattle.cbi_base.specs.declared.scalar.Scalar.{Scalar}
use Rattle.cbi_base.specs.declared.scalar.Scalar.TheVariants.{Undefined}
use Rattle.cbi_base.specs.declared.trap.Trap.TheVariants as trap
use Rattle.c_meaning.specs.Words.{all_defined, Signature, Source, call_at, enter_function, enter_with, gives_value, left_function, locals_of, value_left, World}
use Rattle.c_meaning.specs.Words.{Out, Go, Stop, bind, one_turn_spent}
use Rattle.c_meaning_laws.specs.Frames.{BodyBeginsAfresh, HasOwnVariables, VariablesDie}
use Rattle.c_meaning_laws.proofs.Objects.{put_found, put_other, removed_here, removed_other}
use Rattle.c_meaning_laws.proofs.Parts.{Ends, anything, ends_bind, ends_go}

-- objects made one after another
pub record AreMade (cells : List (List Scalar)) (before after : Objects) : Type 0 where
  pub each : (index : ℕ) (some : List Scalar) → slice_get cells index ≡ Some some
      → get after.live (before.made + index) ≡ Some (record { class = Local; cells = some })
  pub older : (number : ℕ) → number < before.made → get after.live number ≡ get before.live number
  pub made : after.made ≡ before.made + length cells

no_cells : (o : Objects) → AreMade [] o o
no_cells o = record { each = λ index some h. cc; older = λ number h. refl; made = omega arith }

module _ (x : List Scalar) (rest : List (List Scalar)) (o after : Objects) (h : AreMade rest (one_object_more Local x o) after) where
  here : get after.live (o.made + 0) ≡ Some (record { class = Local; cells = x })
  here =
      let first : o.made + 0 ≡ o.made = omega arith in
      let low : o.made < o.made + 1 = omega arith in
      ap (get after.live) first ∙ h.older o.made low ∙ put_found o o.made (record { class = Local; cells = x })

  first_each : (index : ℕ) (some : List Scalar) → slice_get (x ∷ rest) index ≡ Some some
      → get after.live (o.made + index) ≡ Some (record { class = Local; cells = some })
  first_each zero some is = subst (λ (c : Option (List Scalar)). get after.live (o.made + 0) ≡ cell_object c) is here
    where
      cell_object : Option (List Scalar) → Option Object
      cell_object None = None
      cell_object (Some cells) = Some (record { class = Local; cells = cells })
  first_each (suc index) some is =
      let next : o.made + suc index ≡ o.made + 1 + index = omega arith in ap (get after.live) next ∙ h.each index some is

  first_older : (number : ℕ) → number < o.made → get after.live number ≡ get o.live number
  first_older number low =
      let lower : number < o.made + 1 = omega (arith, low) in
      h.older number lower ∙ put_other o o.made number (record { class = Local; cells = x }) (λ e. absurd (omega (arith, low, e)))

  more_made : AreMade (x ∷ rest) o after
  more_made = record { each = first_each; older = first_older; made = (let m : after.made ≡ o.made + 1 + length rest = h.made in omega (arith, m)) }

-- the first one, where there is room for it, and then the others
more_by_room : (x : List Scalar) (rest : List (List Scalar)) (before after : Objects) (b : Bool)
    → (all_made rest (one_object_more Local x before) ≡ Some after → AreMade rest (one_object_more Local x before) after)
    → option_and_then (all_made rest) (if b then Some (one_object_more Local x before) else None) ≡ Some after → AreMade (x ∷ rest) before after
more_by_room x rest before after true next e = more_made x rest before after (next e)
more_by_room x rest before after false next e = cc

made_all : (cells : List (List Scalar)) (before after : Objects) → all_made cells before ≡ Some after → AreMade cells before after
made_all [] before after is = subst IfMade is (no_cells before)
  where
    IfMade : Option Objects → Type 0
    IfMade None = Unit {0}
    IfMade (Some o) = AreMade [] before o
made_all (x ∷ rest) before after is =
    more_by_room x rest before after (has_room (length x) before) (made_all rest (one_object_more Local x before) after) is

-- the cells of each variable
parameter_cells : (sizes : List ℕ) (vs : List Scalar) (index size : ℕ) (v : Scalar) → slice_get sizes index ≡ Some size → slice_get vs index ≡ Some v
    → slice_get (first_cells vs sizes) index ≡ Some (v ∷ replicate (size - 1) Undefined)
parameter_cells (n ∷ sizes) (x ∷ vs) (suc index) size v h k = parameter_cells sizes vs index size v h k
parameter_cells [] vs index size v h k = cc
parameter_cells (n ∷ sizes) [] index size v h k = cc
parameter_cells (n ∷ sizes) (x ∷ vs) zero size v h k = cc

other_cells : (sizes : List ℕ) (vs : List Scalar) (index size : ℕ) → slice_get sizes index ≡ Some size → length vs ≤ index
    → slice_get (first_cells vs sizes) index ≡ Some (replicate size Undefined)
other_cells [] vs index size h k = cc
other_cells (n ∷ sizes) [] zero size h k = cc
other_cells (n ∷ sizes) [] (suc index) size h k = other_cells sizes [] index size h (omega arith)
other_cells (n ∷ sizes) (x ∷ vs) zero size h k = absurd (omega (arith, k))
other_cells (n ∷ sizes) (x ∷ vs) (suc index) size h k = other_cells sizes vs index size h (omega (arith, k))

cells_long : (sizes : List ℕ) (vs : List Scalar) → length (first_cells vs sizes) ≡ length sizes
cells_long [] vs = refl
cells_long (n ∷ sizes) [] = ap suc (cells_long sizes [])
cells_long (n ∷ sizes) (x ∷ vs) = ap suc (cells_long sizes vs)

own_variables : (f : Signature) (arguments : List Scalar) (before after : Objects) → AreMade (first_cells arguments f.locals) before after
    → HasOwnVariables f arguments before after
own_variables f arguments before after h = record {
  parameters = λ index size v has given. h.each index (v ∷ replicate (size - 1) Undefined) (parameter_cells f.locals arguments index size v has given);
  others = λ index size has behind. h.each index (replicate size Undefined) (other_cells f.locals arguments index size has behind);
  older = h.older;
  made = h.made ∙ ap (λ n. before.made + n) (cells_long f.locals arguments);
}

pub body_begins_afresh : BodyBeginsAfresh
body_begins_afresh src call turns number f arguments w objects few made = (
  ap (λ (b : Bool). if b then enter_with src call turns number f w (all_made (first_cells arguments f.locals) w.objects)
      else Stop (Trapped trap.StackOverflow) w) (less_is w.active active_limit few)
      ∙ ap (enter_with src call turns number f w) made,
  own_variables f arguments w.objects objects (made_all (first_cells arguments f.locals) w.objects objects made),
  λ index low. ap (λ (b : Bool). if b then Some (w.objects.made + index) else None) (less_is index (length f.locals) low),
)

lower : (index count : ℕ) → index < suc count → (index ≡ count → ⊥) → index < count
lower index count low other = grind (arith, nat_tests, low, other)

-- the objects from this number on are dead
abbrev AreDead : ℕ → ℕ → Objects → Type 0
AreDead first count o = (index : ℕ) → index < count → get o.live (first + index) ≡ None

dead_by_index : (first count index : ℕ) (o : Objects) (b : Bool) → (index == count) ≡ b → ((index ≡ count → ⊥) → get o.live (first + index) ≡ None)
    → get (remove o.live (first + count)) (first + index) ≡ None
dead_by_index first count index o true e before =
    ap (λ n. get (remove o.live (first + count)) (first + n)) (same_number index count e) ∙ removed_here o (first + count)
dead_by_index first count index o false e before =
    let other : index ≡ count → ⊥ = λ h. grind (arith, nat_tests, h, e) in
    removed_other o (first + count) (first + index) (λ h. other (omega (arith, h))) ∙ before other

killed_dead : (first count : ℕ) (o : Objects) → AreDead first count (all_killed first count o)
killed_dead first zero o index low = absurd (omega (arith, low))
killed_dead first (suc count) o index low =
    dead_by_index first count index (all_killed first count o) (index == count) refl (λ other. killed_dead first count o index (lower index count low other))

module _ (first count : ℕ) where
  abbrev DeadIn : Scalar → World → Type 0
  DeadIn v u = AreDead first count u.objects

  left_dead : (locals : Locals) (v : Scalar) (w : World) → locals.first ≡ first → locals.count ≡ count → Ends DeadIn (left_function locals v w)
  left_dead locals v w f n =
      subst (λ a. AreDead a count (all_killed locals.first locals.count w.objects)) f
      (subst (λ b. AreDead locals.first b (all_killed locals.first locals.count w.objects)) n (killed_dead locals.first locals.count w.objects))

  then_left : {A : Type 0} (out : Out A) (value : A → World → Out Scalar) (locals : Locals) → locals.first ≡ first → locals.count ≡ count
      → Ends DeadIn (bind out (λ x y. bind (value x y) (left_function locals)))
  then_left out value locals f n =
      ends_bind (λ _ _. Unit {0}) DeadIn out _ (anything out) (λ x y _.
      ends_bind (λ _ _. Unit {0}) DeadIn (value x y) (left_function locals) (anything (value x y)) (λ v u _. left_dead locals v u f n))

  module _ (src : Source) (n number : ℕ) (vs : List Scalar) (g : Option Signature) (u : World) (is_first : (locals_of g u).first ≡ first)
      (is_count : (locals_of g u).count ≡ count) where
    given_dead : (b : Bool) → Ends DeadIn (bind (if b then Go (reverse vs) u else Stop (Trapped trap.Undefined) u) (λ xs _.
        bind (enter_function src (call_at src n) n number g xs u) (λ flow y. bind (value_left (number == src.main) (gives_value g) flow y) (left_function (locals_of g u)))))
    given_dead true =
        then_left (enter_function src (call_at src n) n number g (reverse vs) u) (value_left (number == src.main) (gives_value g)) (locals_of g u) is_first is_count
    given_dead false = tt

spent_dead : (src : Source) (turns number : ℕ) (f : Signature) (vs : List Scalar) (w : World) → src.facts.signature number ≡ Some f
    → Ends (DeadIn w.objects.made (length f.locals)) (call_at src turns number vs w)
spent_dead src zero number f vs w known = tt
spent_dead src (suc n) number f vs w known = by_turns w.turns
  where
    by_turns : (turns : ℕ) → Ends (DeadIn w.objects.made (length f.locals)) (one_turn_spent turns w (λ u.
        bind (all_defined vs u) (λ xs _. bind (enter_function src (call_at src n) n number (src.facts.signature number) xs u) (λ flow y.
        bind (value_left (number == src.main) (gives_value (src.facts.signature number)) flow y) (left_function (locals_of (src.facts.signature number) u))))))
    by_turns zero = tt
    by_turns (suc turns) =
        let u : World = record w { turns = turns } in
        given_dead w.objects.made (length f.locals) src n number vs (src.facts.signature number) u
        (ap (λ g. (locals_of g u).first) known) (ap (λ g. (locals_of g u).count) known) (list_all is_defined_value vs)

pub variables_die : VariablesDie
variables_die src turns number f arguments v w u known is =
    ends_go (DeadIn w.objects.made (length f.locals)) (call_at src turns number arguments w) v u (spent_dead src turns number f arguments w known) is
