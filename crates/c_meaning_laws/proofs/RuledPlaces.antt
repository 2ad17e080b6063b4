-- What the rules on compound assignments, steps, casts, `? :` and places accept, the rules on values take.
use Rattle.std.proofs.Common.{◌≡◌, ◌⊎◌, inl, inr, refl, subst, sym, ◌∙◌, List, Some, Ok, Err, Bool, true, false}
use Rattle.std.proofs.lemmas.Bool.{false≢true, true≢false, and_parts}
use Rattle.std.specs.Prelude.{Option, ◌&&◌, ◌||◌, not, if◌then◌else◌}
use Rattle.cbi_base.specs.declared.operators.Binary.{Binary}
use Rattle.cbi_base.specs.declared.operators.Binary.TheVariants as op
use Rattle.cbi_base.specs.declared.scalar.Kind.{Kind}
use Rattle.cbi_base.specs.declared.scalar.Kind.TheVariants as kind
use Rattle.c_types_rules.specs.declared.fault.FaultKind.TheVariants as fault
use Rattle.c_types_rules.specs.declared.layout.StructType.{StructType}
use Rattle.c_types_rules.specs.declared.operand.Operand.{Operand}
use Rattle.c_types_rules.specs.TypeTree as t
use Rattle.c_types_rules.specs.Words.{TypeTree, same_type, is_assignable, typed_simple_assignment, is_left_side, pointers_join, pointers_meet, is_arithmetic, is_array}
use Rattle.c_types_rules.specs.Words.{is_pointer, is_void, is_void_pointer, place_of, value_of, typed_sum, both_arithmetic, cast_to, typed_binary_operation, typed_compound_assignment, value_if_operands_fit}
use Rattle.c_types_rules.specs.Words.{is_movable, is_scalar_value, typed_unary_arithmetic, typed_increment, typed_conditional, typed_alternatives, typed_subscript, joined_pointer, typed_indirection, pointed_type}
use Rattle.c_types_rules.specs.Conversions as rule
use Rattle.c_meaning.specs.declared.operation.Operation.{Operation}
use Rattle.c_meaning.specs.declared.operation.Operation.TheVariants.{MoveLeft, MoveRight, Wrong}
use Rattle.c_meaning.specs.declared.value_type.ValueType.{ValueType}
use Rattle.c_meaning.specs.declared.value_type.ValueType.TheVariants as type
use Rattle.c_meaning.specs.Conversions as mean
use Rattle.c_meaning.specs.Words.{operation, one_kind, step_of}
use Rattle.c_meaning_laws.specs.Rules.{Casts, Changes, IsNumberType, IsObject, IsPointer, IsPointing, IsPromoted, IsValue, Moves, Operates, TakesOrNull, TakesType}
use Rattle.c_meaning_laws.proofs.Ruled.{HasStep, Is, added_fits, arithmetic_number, assignable_taken, given}
use Rattle.c_meaning_laws.proofs.Ruled.{gives_by, known, number_takes, pointer_pointing, pointer_takes, scalar_usable}
use Rattle.c_meaning_laws.proofs.RuledOperators.{IsNoEquality, StepsKnown, assignment_fits, bind_by, changes, combined_fits, side_type}

-- what an operator gives is no null constant
given_plain : (fits : Bool) (of : TypeTree) (z : Operand) → Is (value_if_operands_fit fits of) z → z.null ≡ false
given_plain fits of z h = gives_by (λ y. y.null ≡ false) fits of z (λ _. refl) h

one_of_plain : (b c f g : Bool) (u v w : TypeTree) (z : Operand) → Is (if b then Ok (value_of u) else if c then value_if_operands_fit f v else value_if_operands_fit g w) z → z.null ≡ false
one_of_plain true c f g u v w z h = given (λ y. y.null ≡ false) (value_of u) z refl h
one_of_plain false true f g u v w z h = given_plain f v z h
one_of_plain false false f g u v w z h = given_plain g w z h

combined_plain : (structs : List StructType) (o : Binary) (x y z : Operand) → Is (typed_binary_operation structs o x y) z → z.null ≡ false
combined_plain structs op.Add x y z h = one_of_plain (both_arithmetic (rule.value_type x) (rule.value_type y)) (is_arithmetic
    (rule.value_type y)) _ _ _ _ _ z h
combined_plain structs op.Sub x y z h = one_of_plain (both_arithmetic (rule.value_type x) (rule.value_type y)) (is_arithmetic
    (rule.value_type y)) _ _ _ _ _ z h
combined_plain structs o x y z h = given_plain _ _ z h

taken_plain : (a b : Bool) (u v : Option ValueType) → b ≡ false → TakesOrNull (a && b) u v → TakesType u v
taken_plain true false u v e h = h
taken_plain false b u v e h = h
taken_plain true true u v e h = absurd (true≢false e)

-- a compound assignment
pub compounded_fits : (structs : List StructType) (o : Binary) → IsNoEquality o → (target x z : Operand) → StepsKnown structs target.ctype
    → StepsKnown structs x.ctype
    → Is (typed_compound_assignment structs o target x) z
    → (target.place ≡ true) × (z.ctype ≡ target.ctype) × Changes (operation o (known structs target.ctype) (known structs x.ctype))
    (known structs target.ctype) (known structs x.ctype)
compounded_fits structs o n target x z s r h =
    bind_by (λ z. (target.place ≡ true) × (z.ctype ≡ target.ctype) × Changes (operation o (known structs target.ctype) (known structs x.ctype))
    (known structs target.ctype) (known structs x.ctype))
    (typed_binary_operation structs o target x) (typed_simple_assignment target) z
    (λ a c d. let left : (target.place ≡ true) × (z.ctype ≡ target.ctype) × TakesOrNull (mean.is_pointer_value (known structs target.ctype) && a.null)
    (known structs target.ctype) (known structs a.ctype) =
    assignment_fits structs target a z d in (
      left.0,
      left.1,
      changes (operation o (known structs target.ctype) (known structs x.ctype)) (known structs target.ctype) (known structs x.ctype)
          (known structs a.ctype)
          (combined_fits structs o n target x a s r c)
          (taken_plain (mean.is_pointer_value (known structs target.ctype)) a.null (known structs target.ctype) (known structs a.ctype)
          (combined_plain structs o target x a c) left.2),
    )) h

-- `++` and `--`
number_steps : (is_up : Bool) (u : Option ValueType) → IsNumberType u → Changes (operation (step_of is_up) u (Some (type.Number (one_kind u)))) u
    (Some (type.Number (one_kind u)))
number_steps is_up (Some (type.Number k)) h = (tt, (refl, refl, refl), tt)
number_steps is_up u h = absurd h

pointer_steps : (is_up : Bool) (u : Option ValueType) → IsPointer u → HasStep u → Changes (operation (step_of is_up) u (Some (type.Number (one_kind u)))) u
    (Some (type.Number (one_kind u)))
pointer_steps true (Some (type.Pointer size)) h e = rw e (tt, (tt, tt, tt), tt)
pointer_steps false (Some (type.Pointer size)) h e = rw e (tt, (tt, tt, tt), tt)
pointer_steps is_up u h e = absurd h

movable_known : (structs : List StructType) (of : TypeTree) → is_movable structs of ≡ true → IsPointer (known structs of)
movable_known structs (t.Pointer to) h = tt
movable_known structs of h = absurd (false≢true h)

abbrev Stepped : List StructType → Bool → Operand → Operand → Type 0
Stepped structs is_up x z = (x.place ≡ true) × (z.ctype ≡ x.ctype)
    × Changes (operation (step_of is_up) (known structs x.ctype) (Some (type.Number (one_kind (known structs x.ctype))))) (known structs x.ctype)
    (Some (type.Number (one_kind (known structs x.ctype))))

stepped_by : (structs : List StructType) (is_up : Bool) (x z : Operand) → StepsKnown structs x.ctype → (a b c : Bool) → is_arithmetic (rule.value_type x) ≡ a
    → is_movable structs (rule.value_type x) ≡ b → is_left_side x ≡ c
    → Is (if a || b then if c then Ok (value_of (rule.value_type x)) else Err fault.NoPlace else Err fault.Operands) z → Stepped structs is_up x z
stepped_by structs is_up x z s true b true e f g h =
    given (Stepped structs is_up x) (value_of (rule.value_type x)) z
    ((and_parts x.place (not (is_array x.ctype)) g).0, side_type x g, number_steps is_up (known structs x.ctype) (arithmetic_number structs x.ctype e)) h
stepped_by structs is_up x z s false true true e f g h =
    given (Stepped structs is_up x) (value_of (rule.value_type x)) z (
      (and_parts x.place (not (is_array x.ctype)) g).0,
      side_type x g,
      pointer_steps is_up (known structs x.ctype) (subst (λ of. IsPointer (known structs of)) (side_type x g) (movable_known structs (rule.value_type x) f))
          (s f),
    ) h
stepped_by structs is_up x z s true b false e f g h = cc
stepped_by structs is_up x z s false true false e f g h = cc
stepped_by structs is_up x z s false false c e f g h = cc

pub stepped_fits : (structs : List StructType) (is_up : Bool) (x z : Operand) → StepsKnown structs x.ctype → Is (typed_increment structs x) z
    → Stepped structs is_up x z
stepped_fits structs is_up x z s h =
    stepped_by structs is_up x z s (is_arithmetic (rule.value_type x)) (is_movable structs (rule.value_type x)) (is_left_side x) refl refl refl h

-- unary `+`, `-` and `~`
promoted_known : (structs : List StructType) (of : TypeTree) → is_arithmetic of ≡ true → IsPromoted (known structs (rule.promoted_type of))
promoted_known structs t.Char h = tt
promoted_known structs t.Int h = tt
promoted_known structs t.Unsigned h = tt
promoted_known structs of h = absurd (false≢true h)

pub signed_fits : (structs : List StructType) (x z : Operand) → Is (typed_unary_arithmetic x) z → IsNumberType (known structs x.ctype) × IsPromoted (known structs z.ctype)
signed_fits structs x z h =
    gives_by (λ z. IsNumberType (known structs x.ctype) × IsPromoted (known structs z.ctype)) (is_arithmetic (rule.value_type x))
    (rule.promoted_type (rule.value_type x)) z
    (λ m. (arithmetic_number structs x.ctype m, promoted_known structs (rule.value_type x) m)) h

-- casts
cast_taken : (structs : List StructType) (of : TypeTree) (x : Operand) → (is_void of || is_assignable of x) ≡ true
    → Casts (mean.is_pointer_value (known structs of) && x.null) (known structs of) (known structs x.ctype)
cast_taken structs t.Void x h = tt
cast_taken structs of x h = assignable_taken structs of x h

pub cast_fits : (structs : List StructType) (of : TypeTree) (x z : Operand) → Is (cast_to of x) z
    → (z.ctype ≡ of) × Casts (mean.is_pointer_value (known structs of) && x.null) (known structs of) (known structs x.ctype)
cast_fits structs of x z h =
    gives_by (λ z. (z.ctype ≡ of) × Casts (mean.is_pointer_value (known structs of) && x.null) (known structs of) (known structs x.ctype))
    (is_void of || is_assignable of x) of z
    (λ m. (refl, cast_taken structs of x m)) h

-- places that pointers lead to
object_known : (structs : List StructType) (of : TypeTree) → is_void of ≡ false → IsObject (known structs of)
object_known structs t.Void h = absurd (true≢false h)
object_known structs of h = tt

place_by : (structs : List StructType) (to : TypeTree) (z : Operand) (b : Bool) → is_void to ≡ b → Is (if b then Err fault.Operands else Ok (place_of to)) z
    → (z.place ≡ true) × IsObject (known structs z.ctype)
place_by structs to z true e h = cc
place_by structs to z false e h = given (λ z. (z.place ≡ true) × IsObject (known structs z.ctype)) (place_of to) z (refl, object_known structs to e) h

pointed_known : (structs : List StructType) (of : TypeTree) (z : Operand) → Is (pointed_type of) z
    → (is_pointer of ≡ true) × (z.place ≡ true) × IsObject (known structs z.ctype)
pointed_known structs (t.Pointer to) z h =
    let p : (z.place ≡ true) × IsObject (known structs z.ctype) = place_by structs to z (is_void to) refl h in
    (refl, p.0, p.1)
pointed_known structs of z h = cc

pub pointed_fits : (structs : List StructType) (x z : Operand) → Is (typed_indirection x) z → IsPointing (known structs x.ctype) × (z.place ≡ true)
    × IsObject (known structs z.ctype)
pointed_fits structs x z h =
    let p : (is_pointer (rule.value_type x) ≡ true) × (z.place ≡ true) × IsObject (known structs z.ctype) = pointed_known structs (rule.value_type x) z h in
    (pointer_pointing structs x.ctype p.0, p.1, p.2)

number_no_place : (u : Option ValueType) (k : Kind) → u ≡ Some (type.Number k) → IsPointing u → ⊥
number_no_place u k e h = subst IsPointing e h

moves_of : (o : Operation) (u v w : Option ValueType) → Operates o u v w → IsPointing w → Moves o u v
moves_of (MoveLeft size) u v w h p = (h.0, h.1)
moves_of (MoveRight size) u v w h p = (h.0, h.1)
moves_of Wrong u v w h p = absurd h
moves_of o u v w h p = absurd (number_no_place w _ h.2 p)

-- `e[i]`
pub indexed_fits : (structs : List StructType) (x y z : Operand) → StepsKnown structs x.ctype → StepsKnown structs y.ctype → Is (typed_subscript structs x y) z
    → Moves (operation op.Add (known structs x.ctype) (known structs y.ctype)) (known structs x.ctype) (known structs y.ctype) × (z.place ≡ true)
    × IsObject (known structs z.ctype)
indexed_fits structs x y z s r h =
    bind_by (λ z. Moves (operation op.Add (known structs x.ctype) (known structs y.ctype)) (known structs x.ctype) (known structs y.ctype) × (z.place ≡ true)
    × IsObject (known structs z.ctype))
    (typed_sum structs (rule.value_type x) (rule.value_type y)) typed_indirection z
    (λ a c d. let p : IsPointing (known structs a.ctype) × (z.place ≡ true) × IsObject (known structs z.ctype) = pointed_fits structs a z d in (
      moves_of (operation op.Add (known structs x.ctype) (known structs y.ctype)) (known structs x.ctype) (known structs y.ctype) (known structs a.ctype)
          (added_fits structs x.ctype y.ctype a s r c) p.0,
      p.1,
      p.2,
    )) h

-- the arms of `? :`
pointing_type : (structs : List StructType) (of : TypeTree) → is_pointer of ≡ true → IsPointer (known structs of)
pointing_type structs (t.Pointer to) h = tt
pointing_type structs of h = absurd (false≢true h)

pointer_arm : (u v : Option ValueType) (null : Bool) → IsPointer u → (null ≡ false → IsPointing v) → TakesOrNull (mean.is_pointer_value u && null) u v
pointer_arm (Some (type.Pointer size)) v true h e = tt
pointer_arm (Some (type.Pointer size)) v false h e = pointer_takes size v (e refl)
pointer_arm u v null h e = absurd h

-- a pointer or a null constant
abbrev IsJoined : List StructType → Operand → Type 0
IsJoined structs x = x.null ≡ false → IsPointing (known structs x.ctype)

-- the pointers of `? :` are joined: each is one or a null constant, and the whole is one
join_parts : (structs : List StructType) (x y : Operand) (m p q n o : Bool) → is_pointer (rule.value_type x) ≡ p → is_pointer (rule.value_type y) ≡ q
    → x.null ≡ n → y.null ≡ o
    → (m ≡ true → (p ≡ true) × (q ≡ true)) → (m || (p && o) || (q && n)) ≡ true → IsJoined structs x × IsJoined structs y
join_parts structs x y true p q n o e f g i k h =
    (λ _. pointer_pointing structs x.ctype (e ∙ (k refl).0), λ _. pointer_pointing structs y.ctype (f ∙ (k refl).1))
join_parts structs x y false true q n true e f g i k h = (λ _. pointer_pointing structs x.ctype e, λ a. absurd (true≢false (sym i ∙ a)))
join_parts structs x y false true true true false e f g i k h = (λ a. absurd (true≢false (sym g ∙ a)), λ _. pointer_pointing structs y.ctype f)
join_parts structs x y false false true true o e f g i k h = (λ a. absurd (true≢false (sym g ∙ a)), λ _. pointer_pointing structs y.ctype f)
join_parts structs x y false true true false false e f g i k h = absurd (false≢true h)
join_parts structs x y false true false n false e f g i k h = absurd (false≢true h)
join_parts structs x y false false true false o e f g i k h = absurd (false≢true h)
join_parts structs x y false false false n o e f g i k h = absurd (false≢true h)

meets_both : (a b : TypeTree) → pointers_meet a b ≡ true → (is_pointer a ≡ true) × (is_pointer b ≡ true)
meets_both a b h = and_parts (is_pointer a) (is_pointer b) (and_parts (is_pointer a && is_pointer b) (same_type a b || is_void_pointer a || is_void_pointer b) h).0

pub join_fits : (structs : List StructType) (x y : Operand) → pointers_join x y ≡ true → IsJoined structs x × IsJoined structs y
join_fits structs x y h =
    join_parts structs x y (pointers_meet (rule.value_type x) (rule.value_type y)) (is_pointer (rule.value_type x))
    (is_pointer (rule.value_type y)) x.null y.null refl refl refl refl
    (λ e. meets_both (rule.value_type x) (rule.value_type y) e) h

joined_by : (x y : Operand) (m p q n o v : Bool) → is_pointer (rule.value_type x) ≡ p → is_pointer (rule.value_type y) ≡ q
    → (m ≡ true → (p ≡ true) × (q ≡ true))
    → (v ≡ true → p ≡ true) → (m || (p && o) || (q && n)) ≡ true
    → is_pointer (if n && q then rule.value_type y else if o || v then rule.value_type x else rule.value_type y) ≡ true
joined_by x y m p true true o v e f k l h = f
joined_by x y true p q n true v e f k l h = picked (n && q)
  where
    picked : (b : Bool) → is_pointer (if b then rule.value_type y else rule.value_type x) ≡ true
    picked true = f ∙ (k refl).1
    picked false = e ∙ (k refl).0
joined_by x y true p q n false true e f k l h = picked (n && q)
  where
    picked : (b : Bool) → is_pointer (if b then rule.value_type y else rule.value_type x) ≡ true
    picked true = f ∙ (k refl).1
    picked false = e ∙ (k refl).0
joined_by x y true p q n false false e f k l h = picked (n && q)
  where
    picked : (b : Bool) → is_pointer (if b then rule.value_type y else rule.value_type y) ≡ true
    picked true = f ∙ (k refl).1
    picked false = f ∙ (k refl).1
joined_by x y false true q false true v e f k l h = e
joined_by x y false true false true true v e f k l h = e
joined_by x y false true true false false v e f k l h = absurd (false≢true h)
joined_by x y false true false n false v e f k l h = absurd (false≢true h)
joined_by x y false false true false o v e f k l h = absurd (false≢true h)
joined_by x y false false false n o v e f k l h = absurd (false≢true h)

void_pointer : (of : TypeTree) → is_void_pointer of ≡ true → is_pointer of ≡ true
void_pointer (t.Pointer to) h = refl
void_pointer of h = h

pub joined_pointing : (x y : Operand) → pointers_join x y ≡ true → is_pointer (joined_pointer x y) ≡ true
joined_pointing x y h =
    joined_by x y (pointers_meet (rule.value_type x) (rule.value_type y)) (is_pointer (rule.value_type x)) (is_pointer (rule.value_type y)) x.null y.null
    (is_void_pointer (rule.value_type x)) refl refl (λ e. meets_both (rule.value_type x) (rule.value_type y) e) (λ e. void_pointer (rule.value_type x) e) h

-- an arm of a conditional of this type, which is `void` or takes it
abbrev pub TakesArm : List StructType → TypeTree → Operand → Type 0
TakesArm structs of x = (of ≡ t.Void) ⊎ TakesOrNull (mean.is_pointer_value (known structs of) && x.null) (known structs of) (known structs x.ctype)

common_arm : (structs : List StructType) (b : Bool) (x : Operand) → is_arithmetic (rule.value_type x) ≡ true
    → TakesArm structs (if b then t.Unsigned else t.Int) x
common_arm structs true x h = inr (number_takes kind.Unsigned (known structs x.ctype) (arithmetic_number structs x.ctype h))
common_arm structs false x h = inr (number_takes kind.Int (known structs x.ctype) (arithmetic_number structs x.ctype h))

abbrev Arms : List StructType → Operand → Operand → Operand → Type 0
Arms structs x y z = TakesArm structs z.ctype x × TakesArm structs z.ctype y

either_by : (structs : List StructType) (x y z : Operand) (a v : Bool) → both_arithmetic (rule.value_type x) (rule.value_type y) ≡ a
    → Is (if a then Ok (value_of (rule.common_type (rule.value_type x) (rule.value_type y))) else if v then Ok (value_of t.Void)
    else value_if_operands_fit (pointers_join x y) (joined_pointer x y)) z
    → Arms structs x y z
either_by structs x y z true v e h =
    given (Arms structs x y) (value_of (rule.common_type (rule.value_type x) (rule.value_type y))) z (
      common_arm structs (rule.is_unsigned (rule.value_type x) || rule.is_unsigned (rule.value_type y)) x
          (and_parts (is_arithmetic (rule.value_type x)) (is_arithmetic (rule.value_type y)) e).0,
      common_arm structs (rule.is_unsigned (rule.value_type x) || rule.is_unsigned (rule.value_type y)) y
          (and_parts (is_arithmetic (rule.value_type x)) (is_arithmetic (rule.value_type y)) e).1,
    ) h
either_by structs x y z false true e h = given (Arms structs x y) (value_of t.Void) z (inl refl, inl refl) h
either_by structs x y z false false e h =
    gives_by (Arms structs x y) (pointers_join x y) (joined_pointer x y) z
    (λ m. let parts : IsJoined structs x × IsJoined structs y = join_fits structs x y m in
    let whole : IsPointer (known structs (joined_pointer x y)) = pointing_type structs (joined_pointer x y) (joined_pointing x y m) in (
      inr (pointer_arm (known structs (joined_pointer x y)) (known structs x.ctype) x.null whole parts.0),
      inr (pointer_arm (known structs (joined_pointer x y)) (known structs y.ctype) y.null whole parts.1),
    )) h

chosen_by : (structs : List StructType) (c x y z : Operand) (b : Bool) → is_scalar_value c ≡ b → Is (if b then typed_alternatives x y else Err fault.Operands) z
    → IsValue (known structs c.ctype) × TakesArm structs z.ctype x × TakesArm structs z.ctype y
chosen_by structs c x y z true e h =
    let arms : Arms structs x y z =
    either_by structs x y z (both_arithmetic (rule.value_type x) (rule.value_type y)) (is_void (rule.value_type x) && is_void (rule.value_type y)) refl h in
    (scalar_usable structs c.ctype e, arms.0, arms.1)
chosen_by structs c x y z false e h = cc

-- `? :`
pub chosen_fits : (structs : List StructType) (c x y z : Operand) → Is (typed_conditional c x y) z → IsValue (known structs c.ctype) × TakesArm structs z.ctype x
    × TakesArm structs z.ctype y
chosen_fits structs c x y z h = chosen_by structs c x y z (is_scalar_value c) refl h
