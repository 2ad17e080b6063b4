-- What the rules on C's types accept, the rules on values take: one operator after another.
use Rattle.std.proofs.Common.{◌≡◌, ℕ, refl, ap, subst, sym, ◌∙◌, List, Some, Ok, Err, Bool, true, false}
use Rattle.std.proofs.lemmas.Bool.{false≢true, and_parts}
use Rattle.std.specs.Prelude.{Option, ◌&&◌, ◌||◌, if◌then◌else◌}
use Rattle.cbi_base.specs.declared.operators.Binary.{Binary}
use Rattle.cbi_base.specs.declared.operators.Binary.TheVariants as op
use Rattle.cbi_base.specs.declared.operators.Order.{Order}
use Rattle.cbi_base.specs.declared.scalar.Kind.{Kind}
use Rattle.cbi_base.specs.declared.scalar.Kind.TheVariants as kind
use Rattle.cbi_base.specs.Arithmetic.{kind_given}
use Rattle.c_types_rules.specs.declared.layout.StructType.{StructType}
use Rattle.c_types_rules.specs.declared.operand.Operand.{Operand}
use Rattle.c_types_rules.specs.TypeTree as t
use Rattle.c_types_rules.specs.Words.{TypeTree, same_type, is_assignable, pointers_meet, is_arithmetic, is_pointer, is_scalar, is_void, of_kind, value_of, OperandOrFault}
use Rattle.c_types_rules.specs.Words.{typed_sum, both_arithmetic, value_if_operands_fit, is_movable, typed_relation, typed_difference, common_kind, promoted_kind}
use Rattle.c_types_rules.specs.Conversions as rule
use Rattle.c_meaning.specs.declared.operation.Operation.TheVariants.{Ordered}
use Rattle.c_meaning.specs.declared.value_type.ValueType.{ValueType}
use Rattle.c_meaning.specs.declared.value_type.ValueType.TheVariants as type
use Rattle.c_meaning.specs.Conversions as mean
use Rattle.c_meaning.specs.Words.{computed_type, element_cells, is_step_size, left_kind, on_pointers, operation}
use Rattle.c_meaning_laws.specs.Rules.{IsNumberType, IsPointing, IsValue, Operates, TakesOrNull, TakesType}

-- what a type of C comes to
abbrev pub known : List StructType → TypeTree → Option ValueType
known structs of = Some (computed_type structs of)

-- types
pub arithmetic_number : (structs : List StructType) (of : TypeTree) → is_arithmetic (rule.decayed_type of) ≡ true → IsNumberType (known structs of)
arithmetic_number structs t.Char h = tt
arithmetic_number structs t.Int h = tt
arithmetic_number structs t.Unsigned h = tt
arithmetic_number structs of h = absurd (false≢true h)

pub pointer_pointing : (structs : List StructType) (of : TypeTree) → is_pointer (rule.decayed_type of) ≡ true → IsPointing (known structs of)
pointer_pointing structs (t.Pointer to) h = tt
pointer_pointing structs (t.Array element size) h = tt
pointer_pointing structs of h = absurd (false≢true h)

pub scalar_usable : (structs : List StructType) (of : TypeTree) → is_scalar (rule.decayed_type of) ≡ true → IsValue (known structs of)
scalar_usable structs t.Void h = absurd (false≢true h)
scalar_usable structs (t.Struct tag) h = absurd (false≢true h)
scalar_usable structs of h = tt

-- what may be assigned is taken
pub number_takes : (k : Kind) (u : Option ValueType) → IsNumberType u → TakesType (Some (type.Number k)) u
number_takes k (Some (type.Number l)) h = tt
number_takes k u h = absurd h

pub pointer_takes : (size : ℕ) (u : Option ValueType) → IsPointing u → TakesType (Some (type.Pointer size)) u
pointer_takes size (Some (type.Pointer other)) h = tt
pointer_takes size (Some (type.Array other)) h = tt
pointer_takes size u h = absurd h

only_first : (a : Bool) → (a || false || false) ≡ true → a ≡ true
only_first true h = refl
only_first false h = h

meeting : (to : TypeTree) (b : TypeTree) → pointers_meet (t.Pointer to) b ≡ true → is_pointer b ≡ true
meeting to b h = (and_parts (is_pointer b) (same_type (t.Pointer to) b || is_void to || rule.is_void_pointer b) h).0

pub assignable_taken : (structs : List StructType) (target : TypeTree) (x : Operand) → is_assignable target x ≡ true
    → TakesOrNull (mean.is_pointer_value (known structs target) && x.null) (known structs target) (known structs x.ctype)
assignable_taken structs t.Char x h = number_takes kind.Char (known structs x.ctype) (arithmetic_number structs x.ctype
    (only_first (is_arithmetic (rule.decayed_type x.ctype)) h))
assignable_taken structs t.Int x h = number_takes kind.Int (known structs x.ctype) (arithmetic_number structs x.ctype
    (only_first (is_arithmetic (rule.decayed_type x.ctype)) h))
assignable_taken structs t.Unsigned x h = number_takes kind.Unsigned (known structs x.ctype)
    (arithmetic_number structs x.ctype (only_first (is_arithmetic (rule.decayed_type x.ctype)) h))
assignable_taken structs (t.Pointer to) x h = either x.null h
  where
    either : (b : Bool) → (false || b || pointers_meet (t.Pointer to) (rule.decayed_type x.ctype)) ≡ true
        → TakesOrNull b (known structs (t.Pointer to)) (known structs x.ctype)
    either true h = tt
    either false h = pointer_takes (element_cells structs to) (known structs x.ctype) (pointer_pointing structs x.ctype (meeting to (rule.decayed_type x.ctype) h))
assignable_taken structs t.Void x h = absurd (false≢true h)
assignable_taken structs (t.Array element size) x h = absurd (false≢true h)
assignable_taken structs (t.Struct tag) x h = absurd (false≢true h)

-- kinds
pub kind_of : (of : TypeTree) → is_arithmetic (rule.decayed_type of) ≡ true → (k : Kind) × (of ≡ of_kind k)
kind_of t.Char h = (kind.Char, refl)
kind_of t.Int h = (kind.Int, refl)
kind_of t.Unsigned h = (kind.Unsigned, refl)
kind_of of h = absurd (false≢true h)

pub kind_known : (structs : List StructType) (k : Kind) → computed_type structs (of_kind k) ≡ type.Number k
kind_known structs kind.Char = refl
kind_known structs kind.Int = refl
kind_known structs kind.Unsigned = refl

pub common_known : (structs : List StructType) (k l : Kind) → computed_type structs (rule.common_type (of_kind k) (of_kind l)) ≡ type.Number (common_kind k l)
common_known structs kind.Char kind.Char = refl
common_known structs kind.Char kind.Int = refl
common_known structs kind.Char kind.Unsigned = refl
common_known structs kind.Int kind.Char = refl
common_known structs kind.Int kind.Int = refl
common_known structs kind.Int kind.Unsigned = refl
common_known structs kind.Unsigned kind.Char = refl
common_known structs kind.Unsigned kind.Int = refl
common_known structs kind.Unsigned kind.Unsigned = refl

pub promoted_known : (structs : List StructType) (k : Kind) → computed_type structs (rule.promoted_type (of_kind k)) ≡ type.Number (promoted_kind k)
promoted_known structs kind.Char = refl
promoted_known structs kind.Int = refl
promoted_known structs kind.Unsigned = refl

pub kind_plain : (k : Kind) → rule.decayed_type (of_kind k) ≡ of_kind k
kind_plain kind.Char = refl
kind_plain kind.Int = refl
kind_plain kind.Unsigned = refl

-- two numbers
pub numbers_operate : (structs : List StructType) (o : Binary) (x y of : TypeTree) → is_arithmetic (rule.decayed_type x) ≡ true
    → is_arithmetic (rule.decayed_type y) ≡ true
    → ((k l : Kind) → x ≡ of_kind k → y ≡ of_kind l → computed_type structs of ≡ type.Number (kind_given o (left_kind o k l)))
    → Operates (operation o (known structs x) (known structs y)) (known structs x) (known structs y) (known structs of)
numbers_operate structs o x y of h i e =
    let left : (k : Kind) × (x ≡ of_kind k) = kind_of x h in
    let right : (k : Kind) × (y ≡ of_kind k) = kind_of y i in
    let a : computed_type structs x ≡ type.Number left.0 = ap (computed_type structs) left.1 ∙ kind_known structs left.0 in
    let b : computed_type structs y ≡ type.Number right.0 = ap (computed_type structs) right.1 ∙ kind_known structs right.0 in
    rw a (rw b (refl, refl, ap (λ v. Some v) (e left.0 right.0 left.1 right.1)))

-- what a rule gives
abbrev ok_or : Operand → OperandOrFault → Operand
ok_or other (Ok x) = x
ok_or other (Err kind) = other

-- the rule gives this operand
abbrev pub Is : OperandOrFault → Operand → Type 0
Is r z = r ≡ Ok z

pub given : (P : Operand → Type 0) (x z : Operand) → P x → Is (Ok x) z → P z
given P x z h e = subst P (ap (ok_or x) e) h

pub gives_by : (P : Operand → Type 0) (fits : Bool) (of : TypeTree) (z : Operand) → (fits ≡ true → P (value_of of)) → Is (value_if_operands_fit fits of) z → P z
gives_by P true of z h e = given P (value_of of) z (h refl) e
gives_by P false of z h e = cc

-- pointers that can be moved
abbrev pub HasStep : Option ValueType → Type 0
HasStep (Some (type.Pointer size)) = is_step_size size ≡ true
HasStep (Some (type.Array size)) = is_step_size size ≡ true
HasStep v = Unit {0}

pub movable_pointing : (structs : List StructType) (of : TypeTree) → is_movable structs (rule.decayed_type of) ≡ true → IsPointing (known structs of)
movable_pointing structs (t.Pointer to) h = tt
movable_pointing structs (t.Array element size) h = tt
movable_pointing structs of h = absurd (false≢true h)

pub decayed_pointing : (structs : List StructType) (of : TypeTree) → IsPointing (known structs of) → IsPointing (known structs (rule.decayed_type of))
decayed_pointing structs (t.Pointer to) h = tt
decayed_pointing structs (t.Array element size) h = tt
decayed_pointing structs of h = h

-- a pointer and a number
add_left : (u v z : Option ValueType) → IsPointing u → HasStep u → IsNumberType v → IsPointing z → Operates (operation op.Add u v) u v z
add_left (Some (type.Pointer size)) (Some (type.Number k)) z h e n p = rw e (tt, tt, p)
add_left (Some (type.Array size)) (Some (type.Number k)) z h e n p = rw e (tt, tt, p)
add_left (Some (type.Pointer size)) v z h e n p = absurd n
add_left (Some (type.Array size)) v z h e n p = absurd n
add_left u v z h e n p = absurd h

sub_left : (u v z : Option ValueType) → IsPointing u → HasStep u → IsNumberType v → IsPointing z → Operates (operation op.Sub u v) u v z
sub_left (Some (type.Pointer size)) (Some (type.Number k)) z h e n p = rw e (tt, tt, p)
sub_left (Some (type.Array size)) (Some (type.Number k)) z h e n p = rw e (tt, tt, p)
sub_left (Some (type.Pointer size)) v z h e n p = absurd n
sub_left (Some (type.Array size)) v z h e n p = absurd n
sub_left u v z h e n p = absurd h

add_right : (u v z : Option ValueType) → IsNumberType u → IsPointing v → HasStep v → IsPointing z → Operates (operation op.Add u v) u v z
add_right (Some (type.Number k)) (Some (type.Pointer size)) z n h e p = rw e (tt, tt, p)
add_right (Some (type.Number k)) (Some (type.Array size)) z n h e p = rw e (tt, tt, p)
add_right (Some (type.Number k)) v z n h e p = absurd h
add_right u v z n h e p = absurd n

-- two pointers
span : (u v : Option ValueType) → IsPointing u → HasStep u → IsPointing v → Operates (operation op.Sub u v) u v (Some (type.Number kind.Int))
span (Some (type.Pointer size)) (Some (type.Pointer other)) h e k = rw e (tt, tt, refl)
span (Some (type.Pointer size)) (Some (type.Array other)) h e k = rw e (tt, tt, refl)
span (Some (type.Array size)) (Some (type.Pointer other)) h e k = rw e (tt, tt, refl)
span (Some (type.Array size)) (Some (type.Array other)) h e k = rw e (tt, tt, refl)
span (Some (type.Pointer size)) v h e k = absurd k
span (Some (type.Array size)) v h e k = absurd k
span u v h e k = absurd h

-- the operator computes, and gives one of the type of the operand
abbrev pub Computed : List StructType → Binary → TypeTree → TypeTree → Operand → Type 0
Computed structs o x y z = Operates (operation o (known structs x) (known structs y)) (known structs x) (known structs y) (known structs z.ctype)

-- `+`
pub added_fits : (structs : List StructType) (x y : TypeTree) (z : Operand) → (is_movable structs (rule.decayed_type x) ≡ true → HasStep (known structs x))
    → (is_movable structs (rule.decayed_type y) ≡ true → HasStep (known structs y)) → Is (typed_sum structs (rule.decayed_type x) (rule.decayed_type y)) z
    → Computed structs op.Add x y z
added_fits structs x y z s r h =
    either (both_arithmetic (rule.decayed_type x) (rule.decayed_type y)) (is_arithmetic (rule.decayed_type y)) refl refl h
  where
    either : (b c : Bool) → both_arithmetic (rule.decayed_type x) (rule.decayed_type y) ≡ b → is_arithmetic (rule.decayed_type y) ≡ c
        → Is (if b then Ok (value_of (rule.common_type (rule.decayed_type x) (rule.decayed_type y))) else if c then value_if_operands_fit (is_movable structs (rule.decayed_type x))
        (rule.decayed_type x)
        else value_if_operands_fit (is_arithmetic (rule.decayed_type x) && is_movable structs (rule.decayed_type y)) (rule.decayed_type y)) z
        → Computed structs op.Add x y z
    either true c e f h = given (Computed structs op.Add x y) (value_of (rule.common_type (rule.decayed_type x) (rule.decayed_type y))) z
        (numbers_operate structs op.Add x y (rule.common_type (rule.decayed_type x) (rule.decayed_type y))
        (and_parts (is_arithmetic (rule.decayed_type x)) (is_arithmetic (rule.decayed_type y)) e).0
        (and_parts (is_arithmetic (rule.decayed_type x)) (is_arithmetic (rule.decayed_type y)) e).1
        (λ k l i j. rw i (rw j (rw (kind_plain k) (rw (kind_plain l) (common_known structs k l)))))) h
    either false true e f h = gives_by (Computed structs op.Add x y) (is_movable structs (rule.decayed_type x)) (rule.decayed_type x) z
        (λ m. add_left (known structs x) (known structs y) (known structs (rule.decayed_type x)) (movable_pointing structs x m) (s m)
        (arithmetic_number structs y f)
        (decayed_pointing structs x (movable_pointing structs x m))) h
    either false false e f h = gives_by (Computed structs op.Add x y) (is_arithmetic (rule.decayed_type x) && is_movable structs (rule.decayed_type y))
        (rule.decayed_type y) z
        (λ m. let parts : (is_arithmetic (rule.decayed_type x) ≡ true) × (is_movable structs (rule.decayed_type y) ≡ true) = and_parts (is_arithmetic (rule.decayed_type x))
        (is_movable structs (rule.decayed_type y)) m in
        add_right (known structs x) (known structs y) (known structs (rule.decayed_type y)) (arithmetic_number structs x parts.0)
        (movable_pointing structs y parts.1) (r parts.1)
        (decayed_pointing structs y (movable_pointing structs y parts.1))) h

-- `-`
same_pointer : (to : TypeTree) (b : TypeTree) → same_type (t.Pointer to) b ≡ true → is_pointer b ≡ true
same_pointer to (t.Pointer other) h = refl
same_pointer to b h = h

pub same_pointers : (a b : TypeTree) → is_pointer a ≡ true → same_type a b ≡ true → is_pointer b ≡ true
same_pointers (t.Pointer to) b h e = same_pointer to b e
same_pointers a b h e = absurd (false≢true h)

movable_pointer : (structs : List StructType) (a : TypeTree) → is_movable structs a ≡ true → is_pointer a ≡ true
movable_pointer structs (t.Pointer to) h = refl
movable_pointer structs a h = h

pub subtracted_fits : (structs : List StructType) (x y : TypeTree) (z : Operand) → (is_movable structs (rule.decayed_type x) ≡ true → HasStep (known structs x))
    → Is (typed_difference structs (rule.decayed_type x) (rule.decayed_type y)) z → Computed structs op.Sub x y z
subtracted_fits structs x y z s h =
    either (both_arithmetic (rule.decayed_type x) (rule.decayed_type y)) (is_arithmetic (rule.decayed_type y)) refl refl h
  where
    either : (b c : Bool) → both_arithmetic (rule.decayed_type x) (rule.decayed_type y) ≡ b → is_arithmetic (rule.decayed_type y) ≡ c
        → Is (if b then Ok (value_of (rule.common_type (rule.decayed_type x) (rule.decayed_type y))) else if c then value_if_operands_fit (is_movable structs (rule.decayed_type x))
        (rule.decayed_type x)
        else value_if_operands_fit (is_movable structs (rule.decayed_type x) && same_type (rule.decayed_type x) (rule.decayed_type y)) t.Int) z
        → Computed structs op.Sub x y z
    either true c e f h = given (Computed structs op.Sub x y) (value_of (rule.common_type (rule.decayed_type x) (rule.decayed_type y))) z
        (numbers_operate structs op.Sub x y (rule.common_type (rule.decayed_type x) (rule.decayed_type y))
        (and_parts (is_arithmetic (rule.decayed_type x)) (is_arithmetic (rule.decayed_type y)) e).0
        (and_parts (is_arithmetic (rule.decayed_type x)) (is_arithmetic (rule.decayed_type y)) e).1
        (λ k l i j. rw i (rw j (rw (kind_plain k) (rw (kind_plain l) (common_known structs k l)))))) h
    either false true e f h = gives_by (Computed structs op.Sub x y) (is_movable structs (rule.decayed_type x)) (rule.decayed_type x) z
        (λ m. sub_left (known structs x) (known structs y) (known structs (rule.decayed_type x)) (movable_pointing structs x m) (s m)
        (arithmetic_number structs y f)
        (decayed_pointing structs x (movable_pointing structs x m))) h
    either false false e f h = gives_by (Computed structs op.Sub x y) (is_movable structs (rule.decayed_type x) && same_type (rule.decayed_type x)
        (rule.decayed_type y)) t.Int z
        (λ m. let parts : (is_movable structs (rule.decayed_type x) ≡ true) × (same_type (rule.decayed_type x) (rule.decayed_type y) ≡ true) =
        and_parts (is_movable structs (rule.decayed_type x)) (same_type (rule.decayed_type x) (rule.decayed_type y)) m in
        span (known structs x) (known structs y) (movable_pointing structs x parts.0) (s parts.0)
        (pointer_pointing structs y (same_pointers (rule.decayed_type x) (rule.decayed_type y) (movable_pointer structs (rule.decayed_type x) parts.0) parts.1))) h

-- comparisons
pub pointers_compared : (o : Binary) (r : Order) → ((size : ℕ) → on_pointers o size ≡ Ordered r) → (u v : Option ValueType) → IsPointing u → IsPointing v
    → Operates (operation o u v) u v (Some (type.Number kind.Int))
pointers_compared o r e (Some (type.Pointer size)) (Some (type.Pointer other)) h k = rw (e size) (tt, tt, refl)
pointers_compared o r e (Some (type.Pointer size)) (Some (type.Array other)) h k = rw (e size) (tt, tt, refl)
pointers_compared o r e (Some (type.Array size)) (Some (type.Pointer other)) h k = rw (e size) (tt, tt, refl)
pointers_compared o r e (Some (type.Array size)) (Some (type.Array other)) h k = rw (e size) (tt, tt, refl)
pointers_compared o r e (Some (type.Pointer size)) v h k = absurd k
pointers_compared o r e (Some (type.Array size)) v h k = absurd k
pointers_compared o r e u v h k = absurd h

pub numbers_compared : (o : Binary) → ((k : Kind) → kind_given o k ≡ kind.Int) → (u v : Option ValueType) → IsNumberType u → IsNumberType v
    → Operates (operation o u v) u v (Some (type.Number kind.Int))
numbers_compared o e (Some (type.Number k)) (Some (type.Number l)) h i = (refl, refl, ap (λ a. Some (type.Number a)) (sym (e (left_kind o k l))))
numbers_compared o e (Some (type.Number k)) v h i = absurd i
numbers_compared o e u v h i = absurd h

-- an order, of two numbers or two pointers of one type
pub ordered_fits : (structs : List StructType) (o : Binary) (r : Order) → ((size : ℕ) → on_pointers o size ≡ Ordered r)
    → ((k : Kind) → kind_given o k ≡ kind.Int)
    → (x y : TypeTree) (z : Operand) → Is (typed_relation (rule.decayed_type x) (rule.decayed_type y)) z → Computed structs o x y z
ordered_fits structs o r e f x y z h =
    gives_by (Computed structs o x y) (both_arithmetic (rule.decayed_type x) (rule.decayed_type y) ||
    (is_pointer (rule.decayed_type x) && same_type (rule.decayed_type x) (rule.decayed_type y))) t.Int z
    (λ m. either (both_arithmetic (rule.decayed_type x) (rule.decayed_type y)) refl m) h
  where
    either : (b : Bool) → both_arithmetic (rule.decayed_type x) (rule.decayed_type y) ≡ b
        → (b || (is_pointer (rule.decayed_type x) && same_type (rule.decayed_type x) (rule.decayed_type y))) ≡ true
        → Computed structs o x y (value_of t.Int)
    either true b m = numbers_compared o f (known structs x) (known structs y) (arithmetic_number structs x
        (and_parts (is_arithmetic (rule.decayed_type x)) (is_arithmetic (rule.decayed_type y)) b).0)
        (arithmetic_number structs y (and_parts (is_arithmetic (rule.decayed_type x)) (is_arithmetic (rule.decayed_type y)) b).1)
    either false b m =
        let parts : (is_pointer (rule.decayed_type x) ≡ true) × (same_type (rule.decayed_type x) (rule.decayed_type y) ≡ true) = and_parts (is_pointer (rule.decayed_type x))
        (same_type (rule.decayed_type x) (rule.decayed_type y)) m in
        pointers_compared o r e (known structs x) (known structs y) (pointer_pointing structs x parts.0)
        (pointer_pointing structs y (same_pointers (rule.decayed_type x) (rule.decayed_type y) parts.0 parts.1))
