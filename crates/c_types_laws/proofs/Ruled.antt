-- What the rules accept is as C99 6.5 asks.
use Rattle.std.proofs.Common.{◌⊎◌, inl, inr, ⊎_elim, ◌≡◌, ℕ, zero, suc, ◌<◌, refl, ap, subst, sym, ◌∙◌, arith, List, [], ◌∷◌, Some, None, Ok, Err, Bool}
use Rattle.std.proofs.Common.{true, false, length}
use Rattle.std.specs.Prelude.{Option, Result, slice_get, nat_lt, ◌&&◌, ◌||◌, if◌then◌else◌, not}
use Rattle.std.proofs.lemmas.Bool.{and_from, and_parts, false≢true, not-true, or_cases}
use Rattle.std.proofs.lemmas.Bool.Decides.{nat_tests}
use Rattle.std.proofs.lemmas.Option.{slice_get_within}
use Rattle.base_lists.proofs.Lists.{Stays}
use Rattle.base_lists.proofs.Tests.{three_and, three_or}
use Rattle.cbi_base.specs.declared.operators.Binary.{Binary}
use Rattle.cbi_base.specs.declared.operators.Binary.TheVariants as op
use Rattle.c_syntax.specs.declared.expr.PrefixOperator.{PrefixOperator}
use Rattle.c_syntax.specs.declared.expr.PrefixOperator.TheVariants as prefix
use Rattle.c_types_rules.specs.declared.fault.FaultKind.{FaultKind}
use Rattle.c_types_rules.specs.declared.fault.FaultKind.TheVariants as fault
use Rattle.c_types_rules.specs.declared.layout.Member.{Member}
use Rattle.c_types_rules.specs.declared.layout.StructType.{StructType}
use Rattle.c_types_rules.specs.declared.operand.Operand.{Operand}
use Rattle.c_types_rules.specs.Words.{TypeTree, Void, Char, Int, Unsigned, Pointer, Array, Struct, same_type, is_assignable, typed_simple_assignment, is_left_side, pointers_join}
use Rattle.c_types_rules.specs.Words.{pointers_meet, common_type, decayed_type, is_arithmetic, is_array, is_pointer, is_unsigned, is_void, is_void_pointer, place_of}
use Rattle.c_types_rules.specs.Words.{promoted_type, value_of, value_type, OperandOrFault, ◌>>=◌, typed_sum, both_arithmetic, cast_to, typed_binary_operation, typed_equality, value_if_operands_fit, is_movable}
use Rattle.c_types_rules.specs.Words.{is_scalar_value, typed_sizeof, typed_relation, typed_unary_arithmetic, typed_increment, typed_difference, typed_address, typed_conditional, typed_subscript, joined_pointer}
use Rattle.c_types_rules.specs.Words.{member_behind, member_in, member_of, typed_indirection, pointed_type, is_complete}
use Rattle.c_types_rules.proofs.Same.{equal}
use Rattle.c_types_expressions.specs.ExprWalk.{typed_assignment, typed_chain_operation, typed_prefix_operation}
use Rattle.c_types_laws.specs.Operands.{Accepts, Adds, Assigns, Calculates, Casts, Chooses, Equates, Indexes, IsArithmetic, IsModifiable, IsScalar, Joins}
use Rattle.c_types_laws.specs.Operands.{LeadsToObject, Operates, Orders, PointersJoin, PointersMeet, PointsToObject, Prefixes, Selects, SelectsBehind, Shifts, Steps}
use Rattle.c_types_laws.specs.Operands.{Subtracts}

abbrev pub Is : OperandOrFault → Operand → Type 0
Is r d = r ≡ Ok d

-- what a rule gives is a value, or a place, of this type, of which this holds
abbrev pub IsValue : (TypeTree → Type 0) → Operand → Type 0
IsValue P d = P d.ctype × (d.place ≡ false) × (d.null ≡ false)

abbrev pub IsPlace : (TypeTree → Type 0) → Operand → Type 0
IsPlace P d = P d.ctype × (d.place ≡ true) × (d.null ≡ false)

ok_is : (x y : Operand) → Is (Ok x) y → x ≡ y
ok_is x y h = cc

no_ok : {A : Type 0} (k : FaultKind) (d : Operand) → Is (Err k) d → A
no_ok k d h = absurd (cc)

pub value_is : (P : TypeTree → Type 0) (t : TypeTree) (d : Operand) → P t → Is (Ok (value_of t)) d → IsValue P d
value_is P t d p h = subst (IsValue P) (ok_is (value_of t) d h) (p, refl, refl)

gives_is : (P : TypeTree → Type 0) (b : Bool) (t : TypeTree) (d : Operand) → (b ≡ true → P t) → Is (value_if_operands_fit b t) d → IsValue P d
gives_is P true t d f h = value_is P t d (f refl) h
gives_is P false t d f h = no_ok fault.Operands d h

-- tests

-- types that are known whole stay so

struct_stays : (ss zs : List StructType) (tag : ℕ) → Stays ss zs → nat_lt tag (length ss) ≡ true → nat_lt tag (length zs) ≡ true
struct_stays ss zs tag f h = grind (arith, nat_tests, h, within)
  where
    has : (xs : List StructType) (i : ℕ) → i < length xs → (x : StructType) × (slice_get xs i ≡ Some x)
    has [] i h = absurd (omega (arith, h))
    has (x ∷ xs) zero h = (x, refl)
    has (x ∷ xs) (suc i) h = has xs i (omega (arith, h))

    less : tag < length ss
    less = grind (arith, nat_tests, h)

    within : tag < length zs
    within = slice_get_within zs tag (has ss tag less).0 (f tag (has ss tag less).0 (has ss tag less).1)

pub complete_stays : (ss zs : List StructType) (t : TypeTree) → Stays ss zs → is_complete ss t ≡ true → is_complete zs t ≡ true
complete_stays ss zs (Struct tag) f h = struct_stays ss zs tag f h
complete_stays ss zs (Array element size) f h =
    let k = and_parts (nat_lt 0 size) (is_complete ss element) h in and_from (nat_lt 0 size) (is_complete zs element) k.0 (complete_stays ss zs element f k.1)
complete_stays ss zs t f h = h

pub meets : (a b : TypeTree) → pointers_meet a b ≡ true → PointersMeet a b
meets a b h =
    let k = three_and (is_pointer a) (is_pointer b) (same_type a b || is_void_pointer a || is_void_pointer b) h in
    (k.0, k.1, ⊎_elim (λ e. inl (equal a b e)) (λ e. inr e) (three_or (same_type a b) (is_void_pointer a) (is_void_pointer b) k.2))

pub joins : (x y : Operand) → pointers_join x y ≡ true → PointersJoin x y
joins x y h = ⊎_elim (λ e. inl (meets (value_type x) (value_type y) e)) (λ e. inr (⊎_elim
    (λ k. inl (and_parts (is_pointer (value_type x)) y.null k)) (λ k. inr (and_parts (is_pointer (value_type y)) x.null k)) e))
    (three_or (pointers_meet (value_type x) (value_type y)) (is_pointer (value_type x) && y.null) (is_pointer (value_type y) && x.null) h)

pub accepts : (t : TypeTree) (x : Operand) → is_assignable t x ≡ true → Accepts t x
accepts t x h = ⊎_elim (λ e. inl (and_parts (is_arithmetic t) (is_arithmetic (value_type x)) e)) (λ e. inr (⊎_elim
    (λ k. inl (and_parts (is_pointer t) x.null k)) (λ k. inr (meets t (value_type x) k)) e))
    (three_or (is_arithmetic t && is_arithmetic (value_type x)) (is_pointer t && x.null) (pointers_meet t (value_type x)) h)

modifiable : (x : Operand) → is_left_side x ≡ true → IsModifiable x
modifiable x h = let k = and_parts x.place (not (is_array x.ctype)) h in (k.0, not-true (is_array x.ctype) k.1)

pub is_value : (m : Operand) → m.place ≡ false → m.null ≡ false → m ≡ value_of m.ctype
is_value m p n = ap (λ b. made m.ctype b m.null) p ∙ ap (λ b. made m.ctype false b) n
  where
    made : TypeTree → Bool → Bool → Operand
    made t p n = record { ctype = t; place = p; null = n }

-- whether an operator before its operand leads to a place
abbrev pub leads_to_place : PrefixOperator → Bool
leads_to_place prefix.Indirection = true
leads_to_place o = false

module _ (ss zs : List StructType) (f : Stays ss zs) where
  points : (t : TypeTree) → is_movable ss t ≡ true → PointsToObject zs t
  points (Pointer to) h = complete_stays ss zs to f h
  points t h = absurd (false≢true h)

  added_is : (a b : TypeTree) (d : Operand) → Is (typed_sum ss a b) d → IsValue (Adds zs a b) d
  added_is a b d h = by (both_arithmetic a b) (is_arithmetic b) refl refl h
    where
      by : (p q : Bool) → both_arithmetic a b ≡ p → is_arithmetic b ≡ q
          → Is (if p then Ok (value_of (common_type a b)) else if q then value_if_operands_fit (is_movable ss a) a else value_if_operands_fit (is_arithmetic a && is_movable ss b) b) d
          → IsValue (Adds zs a b) d
      by true q i j h = value_is (Adds zs a b) (common_type a b) d (inl (and_parts (is_arithmetic a) (is_arithmetic b) i, refl)) h
      by false true i j h = gives_is (Adds zs a b) (is_movable ss a) a d (λ k. inr (inl (points a k, j, refl))) h
      by false false i j h = gives_is (Adds zs a b) (is_arithmetic a && is_movable ss b) b d
          (λ k. let l = and_parts (is_arithmetic a) (is_movable ss b) k in inr (inr (l.0, points b l.1, refl))) h

  subtracted_is : (a b : TypeTree) (d : Operand) → Is (typed_difference ss a b) d → IsValue (Subtracts zs a b) d
  subtracted_is a b d h = by (both_arithmetic a b) (is_arithmetic b) refl refl h
    where
      by : (p q : Bool) → both_arithmetic a b ≡ p → is_arithmetic b ≡ q
          → Is (if p then Ok (value_of (common_type a b)) else if q then value_if_operands_fit (is_movable ss a) a else value_if_operands_fit (is_movable ss a && same_type a b) Int) d
          → IsValue (Subtracts zs a b) d
      by true q i j h = value_is (Subtracts zs a b) (common_type a b) d (inl (and_parts (is_arithmetic a) (is_arithmetic b) i, refl)) h
      by false true i j h = gives_is (Subtracts zs a b) (is_movable ss a) a d (λ k. inr (inl (points a k, j, refl))) h
      by false false i j h = gives_is (Subtracts zs a b) (is_movable ss a && same_type a b) Int d
          (λ k. let l = and_parts (is_movable ss a) (same_type a b) k in inr (inr (points a l.0, sym (equal a b l.1), refl))) h

  calculated : (a b : TypeTree) (d : Operand) → Is (value_if_operands_fit (both_arithmetic a b) (common_type a b)) d → IsValue (Calculates a b) d
  calculated a b d h = gives_is (Calculates a b) (both_arithmetic a b) (common_type a b) d (λ k. (and_parts (is_arithmetic a) (is_arithmetic b) k, refl)) h

  shifted : (a b : TypeTree) (d : Operand) → Is (value_if_operands_fit (both_arithmetic a b) (promoted_type a)) d → IsValue (Shifts a b) d
  shifted a b d h = gives_is (Shifts a b) (both_arithmetic a b) (promoted_type a) d (λ k. (and_parts (is_arithmetic a) (is_arithmetic b) k, refl)) h

  ordered_is : (a b : TypeTree) (d : Operand) → Is (typed_relation a b) d → IsValue (Orders a b) d
  ordered_is a b d h = gives_is (Orders a b) (both_arithmetic a b || (is_pointer a && same_type a b)) Int d (λ k. (
    ⊎_elim
        (λ e. inl (and_parts (is_arithmetic a) (is_arithmetic b) e))
        (λ e. let l = and_parts (is_pointer a) (same_type a b) e in inr (l.0, sym (equal a b l.1)))
        (or_cases (both_arithmetic a b) (is_pointer a && same_type a b) k),
    refl,
  )) h

  equated_is : (x y : Operand) (d : Operand) → Is (typed_equality x y) d → IsValue (Equates x y) d
  equated_is x y d h = gives_is (Equates x y) (both_arithmetic (value_type x) (value_type y) || pointers_join x y) Int d (λ k. (
    ⊎_elim
        (λ e. inl (and_parts (is_arithmetic (value_type x)) (is_arithmetic (value_type y)) e)) (λ e. inr (joins x y e))
        (or_cases (both_arithmetic (value_type x) (value_type y)) (pointers_join x y) k),
    refl,
  )) h

  pub combined_is : (o : Binary) (x y d : Operand) → Is (typed_binary_operation ss o x y) d → IsValue (Operates zs o x y) d
  combined_is op.Add x y d h = added_is (value_type x) (value_type y) d h
  combined_is op.Sub x y d h = subtracted_is (value_type x) (value_type y) d h
  combined_is op.Shl x y d h = shifted (value_type x) (value_type y) d h
  combined_is op.Shr x y d h = shifted (value_type x) (value_type y) d h
  combined_is op.Lt x y d h = ordered_is (value_type x) (value_type y) d h
  combined_is op.Le x y d h = ordered_is (value_type x) (value_type y) d h
  combined_is op.Gt x y d h = ordered_is (value_type x) (value_type y) d h
  combined_is op.Ge x y d h = ordered_is (value_type x) (value_type y) d h
  combined_is op.Eq x y d h = equated_is x y d h
  combined_is op.Ne x y d h = equated_is x y d h
  combined_is o x y d h = calculated (value_type x) (value_type y) d h

  pub chained_is : (o : Option Binary) (x y d : Operand) → Is (typed_chain_operation ss o x y) d → IsValue (Joins zs o x y) d
  chained_is None x y d h = gives_is (Joins zs None x y) (is_scalar_value x && is_scalar_value y) Int d
      (λ k. let l = and_parts (is_scalar_value x) (is_scalar_value y) k in (l.0, l.1, refl)) h
  chained_is (Some o) x y d h = combined_is o x y d h

  -- assignments
  assigned_is : (x y d : Operand) → Is (typed_simple_assignment x y) d → IsValue (λ t. IsModifiable x × Accepts (value_type x) y × (t ≡ value_type x)) d
  assigned_is x y d h = by (is_assignable (value_type x) y) (is_left_side x) refl refl h
    where
      by : (p q : Bool) → is_assignable (value_type x) y ≡ p → is_left_side x ≡ q
          → Is (if p then if q then Ok (value_of (value_type x)) else Err fault.NoPlace else Err fault.Operands) d
          → IsValue (λ t. IsModifiable x × Accepts (value_type x) y × (t ≡ value_type x)) d
      by true true i j h = value_is (λ t. IsModifiable x × Accepts (value_type x) y × (t ≡ value_type x)) (value_type x) d
          (modifiable x j, accepts (value_type x) y i, refl) h
      by true false i j h = no_ok fault.NoPlace d h
      by false q i j h = no_ok fault.Operands d h

  compounded_by : (o : Binary) (x y d : Operand) (r : OperandOrFault) → typed_binary_operation ss o x y ≡ r → Is (r >>= typed_simple_assignment x) d → IsValue (Assigns zs (Some o) x y) d
  compounded_by o x y d (Err k) e h = no_ok k d h
  compounded_by o x y d (Ok m) e h =
      let k : IsValue (Operates zs o x y) m = combined_is o x y m e in
      let l : IsValue (λ t. IsModifiable x × Accepts (value_type x) m × (t ≡ value_type x)) d = assigned_is x m d h in
      ((l.0.0, (m.ctype, (k.0, subst (Accepts (value_type x)) (is_value m k.1 k.2) l.0.1)), l.0.2), l.1, l.2)

  pub assigning_is : (o : Option Binary) (x y d : Operand) → Is (typed_assignment ss o x y) d → IsValue (Assigns zs o x y) d
  assigning_is None x y d h = assigned_is x y d h
  assigning_is (Some o) x y d h = compounded_by o x y d (typed_binary_operation ss o x y) refl h

  pub stepped_is : (x d : Operand) → Is (typed_increment ss x) d → IsValue (Steps zs x) d
  stepped_is x d h = by (is_arithmetic (value_type x) || is_movable ss (value_type x)) (is_left_side x) refl refl h
    where
      by : (p q : Bool) → (is_arithmetic (value_type x) || is_movable ss (value_type x)) ≡ p → is_left_side x ≡ q
          → Is (if p then if q then Ok (value_of (value_type x)) else Err fault.NoPlace else Err fault.Operands) d → IsValue (Steps zs x) d
      by true true i j h = value_is (Steps zs x) (value_type x) d (
        modifiable x j,
        ⊎_elim (λ e. inl e) (λ e. inr (points (value_type x) e))
            (or_cases (is_arithmetic (value_type x)) (is_movable ss (value_type x)) i),
        refl,
      ) h
      by true false i j h = no_ok fault.NoPlace d h
      by false q i j h = no_ok fault.Operands d h

  -- places
  pointed_is : (a : TypeTree) (d : Operand) → Is (pointed_type a) d → IsPlace (LeadsToObject a) d
  pointed_is (Pointer to) d h = by (is_void to) refl h
    where
      by : (p : Bool) → is_void to ≡ p → Is (if p then Err fault.Operands else Ok (place_of to)) d → IsPlace (LeadsToObject (Pointer to)) d
      by true i h = no_ok fault.Operands d h
      by false i h = subst (IsPlace (LeadsToObject (Pointer to))) (ok_is (place_of to) d h) ((refl, i), refl, refl)
  pointed_is Void d h = no_ok fault.Operands d h
  pointed_is Char d h = no_ok fault.Operands d h
  pointed_is Int d h = no_ok fault.Operands d h
  pointed_is Unsigned d h = no_ok fault.Operands d h
  pointed_is (Array element size) d h = no_ok fault.Operands d h
  pointed_is (Struct tag) d h = no_ok fault.Operands d h

  pub measured_is : (t : TypeTree) (d : Operand) → Is (typed_sizeof ss t) d → IsValue (λ u. (is_complete zs t ≡ true) × (u ≡ Unsigned)) d
  measured_is t d h = gives_is (λ u. (is_complete zs t ≡ true) × (u ≡ Unsigned)) (is_complete ss t) Unsigned d (λ k. (complete_stays ss zs t f k, refl)) h

  signed_is : (x d : Operand) → Is (typed_unary_arithmetic x) d → IsValue (λ t. IsArithmetic (value_type x) × (t ≡ promoted_type (value_type x))) d
  signed_is x d h = gives_is (λ t. IsArithmetic (value_type x) × (t ≡ promoted_type (value_type x))) (is_arithmetic (value_type x)) (promoted_type (value_type x)) d
      (λ k. (k, refl)) h

  addressed_is : (x d : Operand) → Is (typed_address x) d → IsValue (λ t. (x.place ≡ true) × (t ≡ Pointer x.ctype)) d
  addressed_is x d h = by x.place refl h
    where
      by : (p : Bool) → x.place ≡ p → Is (if p then Ok (value_of (Pointer x.ctype)) else Err fault.NoPlace) d
          → IsValue (λ t. (x.place ≡ true) × (t ≡ Pointer x.ctype)) d
      by true i h = value_is (λ t. (x.place ≡ true) × (t ≡ Pointer x.ctype)) (Pointer x.ctype) d (i, refl) h
      by false i h = no_ok fault.NoPlace d h

  pub prefixed_is : (o : PrefixOperator) (x d : Operand) → Is (typed_prefix_operation ss o x) d → Prefixes zs o x d.ctype × (d.place ≡ leads_to_place o) × (d.null ≡ false)
  prefixed_is prefix.Increment x d h = stepped_is x d h
  prefixed_is prefix.Decrement x d h = stepped_is x d h
  prefixed_is prefix.SizeOf x d h = measured_is x.ctype d h
  prefixed_is prefix.Address x d h = addressed_is x d h
  prefixed_is prefix.Indirection x d h = pointed_is (value_type x) d h
  prefixed_is prefix.Not x d h = gives_is (λ t. IsScalar x × (t ≡ Int)) (is_scalar_value x) Int d (λ k. (k, refl)) h
  prefixed_is o x d h = signed_is x d h

  pub cast_is : (t : TypeTree) (x d : Operand) → Is (cast_to t x) d → IsValue (Casts t x) d
  cast_is t x d h = gives_is (Casts t x) (is_void t || is_assignable t x) t d
      (λ k. (⊎_elim (λ e. inl e) (λ e. inr (accepts t x e)) (or_cases (is_void t) (is_assignable t x) k), refl)) h

  pub chosen_is : (c x y d : Operand) → Is (typed_conditional c x y) d → IsValue (Chooses c x y) d
  chosen_is c x y d h = by (is_scalar_value c) (both_arithmetic (value_type x) (value_type y))
      (is_void (value_type x) && is_void (value_type y)) refl refl refl h
    where
      by : (p q r : Bool) → is_scalar_value c ≡ p → both_arithmetic (value_type x) (value_type y) ≡ q → (is_void (value_type x) && is_void (value_type y)) ≡ r
          → Is (if p then if q then Ok (value_of (common_type (value_type x) (value_type y))) else if r then Ok (value_of Void)
          else value_if_operands_fit (pointers_join x y) (joined_pointer x y) else Err fault.Operands) d → IsValue (Chooses c x y) d
      by false q r i j k h = no_ok fault.Operands d h
      by true true r i j k h = value_is (Chooses c x y) (common_type (value_type x) (value_type y)) d
          (i, inl (and_parts (is_arithmetic (value_type x)) (is_arithmetic (value_type y)) j, refl)) h
      by true false true i j k h =
          let l = and_parts (is_void (value_type x)) (is_void (value_type y)) k in value_is (Chooses c x y) Void d (i, inr (inl (l.0, l.1, refl))) h
      by true false false i j k h = gives_is (Chooses c x y) (pointers_join x y) (joined_pointer x y) d (λ l. (i, inr (inr (joins x y l, refl)))) h

  -- an element of an array
  common_decays : (b : Bool) → decayed_type (if b then Unsigned else Int) ≡ (if b then Unsigned else Int)
  common_decays true = refl
  common_decays false = refl

  decays_once : (t : TypeTree) → decayed_type (decayed_type t) ≡ decayed_type t
  decays_once Void = refl
  decays_once Char = refl
  decays_once Int = refl
  decays_once Unsigned = refl
  decays_once (Pointer to) = refl
  decays_once (Array element size) = refl
  decays_once (Struct tag) = refl

  sum_decays : (x y : Operand) (t : TypeTree) → Adds zs (value_type x) (value_type y) t → decayed_type t ≡ t
  sum_decays x y t (inl h) = subst (λ u. decayed_type u ≡ u) (sym h.1) (common_decays (is_unsigned (value_type x) || is_unsigned (value_type y)))
  sum_decays x y t (inr (inl h)) = subst (λ u. decayed_type u ≡ u) (sym h.2) (decays_once x.ctype)
  sum_decays x y t (inr (inr h)) = subst (λ u. decayed_type u ≡ u) (sym h.2) (decays_once y.ctype)

  indexed_by : (x y d : Operand) (r : OperandOrFault) → typed_sum ss (value_type x) (value_type y) ≡ r → Is (r >>= typed_indirection) d → IsPlace (Indexes zs x y) d
  indexed_by x y d (Err k) e h = no_ok k d h
  indexed_by x y d (Ok m) e h =
      let k : IsValue (Adds zs (value_type x) (value_type y)) m = added_is (value_type x) (value_type y) m e in
      let l : IsPlace (LeadsToObject (value_type m)) d = pointed_is (value_type m) d h in
      ((m.ctype, (k.0, subst (λ u. LeadsToObject u d.ctype) (sum_decays x y m.ctype k.0) l.0)), l.1, l.2)

  pub indexed_is : (x y d : Operand) → Is (typed_subscript ss x y) d → IsPlace (Indexes zs x y) d
  indexed_is x y d h = indexed_by x y d (typed_sum ss (value_type x) (value_type y)) refl h

  -- members
  abbrev IsMember : Result Member FaultKind → Member → Type 0
  IsMember r m = r ≡ Ok m

  no_member : {A : Type 0} (k : FaultKind) (m : Member) → IsMember (Err k) m → A
  no_member k m h = absurd (cc)

  in_stays : (name : List ℕ) (tag : ℕ) (m : Member) (s : Option StructType) → slice_get ss tag ≡ s → IsMember (member_in name s) m
      → IsMember (member_in name (slice_get zs tag)) m
  in_stays name tag m None e h = no_member fault.Unknown m h
  in_stays name tag m (Some s) e h = subst (λ o. IsMember (member_in name o) m) (sym (f tag s e)) h

  pub member_stays : (name : List ℕ) (t : TypeTree) (m : Member) → member_of ss name t ≡ Ok m → Selects zs name t m.ctype
  member_stays name (Struct tag) m h = (m, (in_stays name tag m (slice_get ss tag) refl h, refl))
  member_stays name t m h = no_member fault.Operands m h

  pub behind_stays : (name : List ℕ) (t : TypeTree) (m : Member) → member_behind ss name t ≡ Ok m → SelectsBehind zs name t m.ctype
  behind_stays name (Pointer to) m h = member_stays name to m h
  behind_stays name t m h = no_member fault.Operands m h
