-- What the rules refuse breaks a rule of C or of the dialect.
use Rattle.std.proofs.Common.{◌⊎◌, inl, inr, ⊎_elim, ◌≡◌, ℕ, suc, refl, subst, sym, ◌∙◌, List, [], ◌∷◌, Some, None, Ok, Err, Bool, true, false}
use Rattle.std.proofs.Common.{arith, length}
use Rattle.std.specs.Prelude.{Option, Result, ◌&&◌, ◌||◌, if◌then◌else◌, slice_get}
use Rattle.std.proofs.lemmas.Bool.{and_from, and_parts, eqb-true, false≢true, or_cases, or_left, or_right}
use Rattle.cbi_base.specs.declared.operators.Binary.{Binary}
use Rattle.cbi_base.specs.declared.operators.Binary.TheVariants as op
use Rattle.c_syntax.specs.declared.expr.PrefixOperator.{PrefixOperator}
use Rattle.c_syntax.specs.declared.expr.PrefixOperator.TheVariants as prefix
use Rattle.c_types_rules.specs.declared.fault.FaultKind.{FaultKind}
use Rattle.c_types_rules.specs.declared.fault.FaultKind.TheVariants as fault
use Rattle.c_types_rules.specs.declared.function.FunctionType.{FunctionType}
use Rattle.c_types_rules.specs.declared.layout.Member.{Member}
use Rattle.c_types_rules.specs.declared.layout.StructType.{StructType}
use Rattle.c_types_rules.specs.declared.library.Library.{Library}
use Rattle.c_types_rules.specs.declared.library.Library.TheVariants as library
use Rattle.c_types_rules.specs.declared.operand.Operand.{Operand}
use Rattle.c_types_rules.specs.Words.{TypeTree, Void, Char, Int, Unsigned, Pointer, Struct, same_type, is_assignable, typed_simple_assignment, fits_parameters}
use Rattle.c_types_rules.specs.Words.{is_left_side, pointers_join, common_type, is_arithmetic, is_pointer, is_struct, is_void, place_of, promoted_type, value_of}
use Rattle.c_types_rules.specs.Words.{value_type, OperandOrFault, ◌>>=◌, typed_call, library_called, one_scalar, typed_sum, both_arithmetic, cast_to, typed_binary_operation, value_if_operands_fit}
use Rattle.c_types_rules.specs.Words.{is_movable, is_scalar_value, typed_sizeof, typed_unary_arithmetic, typed_increment, typed_difference, typed_conditional, typed_alternatives, typed_subscript, joined_pointer, known_member}
use Rattle.c_types_rules.specs.Words.{member_behind, member_in, member_named, member_of, typed_indirection, pointed_type, typed_comma, is_complete}
use Rattle.c_types_expressions.specs.ExprWalk.{typed_assignment, typed_chain_operation, typed_prefix_operation}
use Rattle.c_types_laws.specs.Operands.{Accepts, Casts, Chooses, Indexes, IsArithmetic, IsModifiable, Joins, Operates, PointsToObject, Prefixes}
use Rattle.c_types_laws.proofs.Ruled.{Is, accepts, combined_is, is_value, value_is}
use Rattle.c_types_faults.specs.Least.{IsLeast}
use Rattle.c_types_faults.specs.Calls.{ArgumentsPass, CallsAs, CallsStandard, IsLoneScalar}
use Rattle.c_types_faults.specs.Operands.{AsValue, Sequence}
use Rattle.c_types_faults.specs.ExprRules.{ArrowBreaks, AssignBreaks, Counts, HasStruct, MemberBreaks, Misfits, PrefixBreaks, StepBreaks, Stores, Unmodifiable}
use Rattle.c_types_faults.proofs.Least.{least_first, least_second}
use Rattle.c_types_faults.proofs.Fitting.{accepts_back, cast_back, chained_back, chosen_back, combined_back, gives_true}
use Rattle.c_types_faults.proofs.Fitting.{indexed_back, modifiable_back, of_type, pointed_back, points_back}

pub not_both : {A : Type 0} (r : OperandOrFault) (x : Operand) (k : FaultKind) → r ≡ Ok x → r ≡ Err k → A
not_both r x k h g = absurd (cc)

abbrev pub IsErr : OperandOrFault → FaultKind → Type 0
IsErr r k = r ≡ Err k

pub fault_is : (j k : FaultKind) → IsErr (Err j) k → k ≡ j
fault_is j k h = cc

-- rules that refuse operands for their types alone

abbrev pub Only : OperandOrFault → Type 0
Only r = (k : FaultKind) → r ≡ Err k → k ≡ fault.Operands

only_ok : (x : Operand) → Only (Ok x)
only_ok x k h = absurd (cc)

only_err : Only (Err fault.Operands)
only_err k h = cc

only_gives : (b : Bool) (t : TypeTree) → Only (value_if_operands_fit b t)
only_gives true t = only_ok (value_of t)
only_gives false t = only_err

only_if : (b : Bool) (m n : OperandOrFault) → Only m → Only n → Only (if b then m else n)
only_if true m n f g = f
only_if false m n f g = g

only_then : (r : OperandOrFault) (next : Operand → OperandOrFault) → Only r → ((x : Operand) → Only (next x)) → Only (r >>= next)
only_then (Ok x) next f g = g x
only_then (Err j) next f g = f

pub misfit : (P : TypeTree → Type 0) (of : TypeTree → Operand) (r : OperandOrFault) (k : FaultKind) → ((t : TypeTree) → P t → r ≡ Ok (of t)) → Only r → r ≡ Err k
    → Misfits P k
misfit P of r k back only h = (only k h, λ t p. not_both r (of t) k (back t p) h)

only_added : (ss : List StructType) (a b : TypeTree) → Only (typed_sum ss a b)
only_added ss a b = only_if (both_arithmetic a b) (Ok (value_of (common_type a b)))
    (if is_arithmetic b then value_if_operands_fit (is_movable ss a) a else value_if_operands_fit (is_arithmetic a && is_movable ss b) b)
    (only_ok (value_of (common_type a b)))
    (only_if (is_arithmetic b) (value_if_operands_fit (is_movable ss a) a) (value_if_operands_fit (is_arithmetic a && is_movable ss b) b) (only_gives (is_movable ss a) a)
    (only_gives (is_arithmetic a && is_movable ss b) b))

only_subtracted : (ss : List StructType) (a b : TypeTree) → Only (typed_difference ss a b)
only_subtracted ss a b = only_if (both_arithmetic a b) (Ok (value_of (common_type a b)))
    (if is_arithmetic b then value_if_operands_fit (is_movable ss a) a else value_if_operands_fit (is_movable ss a && same_type a b) Int)
    (only_ok (value_of (common_type a b)))
    (only_if (is_arithmetic b) (value_if_operands_fit (is_movable ss a) a) (value_if_operands_fit (is_movable ss a && same_type a b) Int) (only_gives (is_movable ss a) a)
    (only_gives (is_movable ss a && same_type a b) Int))

only_combined : (ss : List StructType) (o : Binary) (x y : Operand) → Only (typed_binary_operation ss o x y)
only_combined ss op.Add x y = only_added ss (value_type x) (value_type y)
only_combined ss op.Sub x y = only_subtracted ss (value_type x) (value_type y)
only_combined ss op.Shl x y = only_gives (both_arithmetic (value_type x) (value_type y)) (promoted_type (value_type x))
only_combined ss op.Shr x y = only_gives (both_arithmetic (value_type x) (value_type y)) (promoted_type (value_type x))
only_combined ss op.Eq x y = only_gives (both_arithmetic (value_type x) (value_type y) || pointers_join x y) Int
only_combined ss op.Ne x y = only_gives (both_arithmetic (value_type x) (value_type y) || pointers_join x y) Int
only_combined ss op.Mul x y = only_gives (both_arithmetic (value_type x) (value_type y)) (common_type (value_type x) (value_type y))
only_combined ss op.Div x y = only_gives (both_arithmetic (value_type x) (value_type y)) (common_type (value_type x) (value_type y))
only_combined ss op.Rem x y = only_gives (both_arithmetic (value_type x) (value_type y)) (common_type (value_type x) (value_type y))
only_combined ss op.And x y = only_gives (both_arithmetic (value_type x) (value_type y)) (common_type (value_type x) (value_type y))
only_combined ss op.Or x y = only_gives (both_arithmetic (value_type x) (value_type y)) (common_type (value_type x) (value_type y))
only_combined ss op.Xor x y = only_gives (both_arithmetic (value_type x) (value_type y)) (common_type (value_type x) (value_type y))
only_combined ss o x y = only_gives (both_arithmetic (value_type x) (value_type y) || (is_pointer (value_type x) && same_type (value_type x) (value_type y))) Int

only_chained : (ss : List StructType) (o : Option Binary) (x y : Operand) → Only (typed_chain_operation ss o x y)
only_chained ss None x y = only_gives (is_scalar_value x && is_scalar_value y) Int
only_chained ss (Some o) x y = only_combined ss o x y

only_pointed : (t : TypeTree) → Only (pointed_type t)
only_pointed (Pointer to) = only_if (is_void to) (Err fault.Operands) (Ok (place_of to)) only_err (only_ok (place_of to))
only_pointed t = only_err

only_chosen : (c x y : Operand) → Only (typed_conditional c x y)
only_chosen c x y = only_if (is_scalar_value c) (typed_alternatives x y) (Err fault.Operands)
    (only_if (both_arithmetic (value_type x) (value_type y)) (Ok (value_of (common_type (value_type x) (value_type y))))
    (if is_void (value_type x) && is_void (value_type y) then Ok (value_of Void) else value_if_operands_fit (pointers_join x y) (joined_pointer x y))
    (only_ok (value_of (common_type (value_type x) (value_type y))))
    (only_if (is_void (value_type x) && is_void (value_type y)) (Ok (value_of Void)) (value_if_operands_fit (pointers_join x y) (joined_pointer x y)) (only_ok (value_of Void))
    (only_gives (pointers_join x y) (joined_pointer x y))))
    only_err

pub chosen_breaks : (c x y : Operand) (k : FaultKind) → typed_conditional c x y ≡ Err k → Misfits (Chooses c x y) k
chosen_breaks c x y k h = misfit (Chooses c x y) value_of (typed_conditional c x y) k (chosen_back c x y) (only_chosen c x y) h

pub cast_breaks : (to : TypeTree) (x : Operand) (k : FaultKind) → cast_to to x ≡ Err k → Misfits (Casts to x) k
cast_breaks to x k h = misfit (Casts to x) value_of (cast_to to x) k (cast_back to x) (only_gives (is_void to || is_assignable to x) to) h

pub measured_breaks : (ss : List StructType) (t : TypeTree) (k : FaultKind) → typed_sizeof ss t ≡ Err k
    → (k ≡ fault.Operands) × (is_complete ss t ≡ true → ⊥)
measured_breaks ss t k h = (
  only_gives (is_complete ss t) Unsigned k h,
  λ c. not_both (typed_sizeof ss t) (value_of Unsigned) k (gives_true (is_complete ss t) Unsigned c) h,
)

-- members

member_unknown : (o : Option Member) (k : FaultKind) → known_member o ≡ Err k → k ≡ fault.Unknown
member_unknown None k h = cc
member_unknown (Some m) k h = absurd (cc)

struct_unknown : (name : List ℕ) (s : Option StructType) (k : FaultKind) → member_in name s ≡ Err k → k ≡ fault.Unknown
struct_unknown name None k h = cc
struct_unknown name (Some s) k h = member_unknown (member_named name s.members) k h

no_member : {A : Type 0} (r : Result Member FaultKind) (m : Member) (k : FaultKind) → r ≡ Ok m → r ≡ Err k → A
no_member r m k h g = absurd (cc)

abbrev IsMissing : Result Member FaultKind → FaultKind → Type 0
IsMissing r k = r ≡ Err k

misplaced : (j k : FaultKind) → IsMissing (Err j) k → k ≡ j
misplaced j k h = cc

pub member_breaks : (ss : List StructType) (name : List ℕ) (t : TypeTree) (k : FaultKind) → member_of ss name t ≡ Err k → MemberBreaks ss name t k
member_breaks ss name (Struct tag) k h =
    inr (struct_unknown name (slice_get ss tag) k h, refl, λ t s. no_member (member_of ss name (Struct tag)) s.0 k s.1.0 h)
member_breaks ss name t k h = inl (misplaced fault.Operands k h, false≢true)

pub arrow_breaks : (ss : List StructType) (name : List ℕ) (t : TypeTree) (k : FaultKind) → member_behind ss name t ≡ Err k → ArrowBreaks ss name t k
arrow_breaks ss name (Pointer to) k h = member_breaks ss name to k h
arrow_breaks ss name t k h = misplaced fault.Operands k h

-- operands of a comma

step_is : (before : TypeTree) (x : Operand) (xs : List Operand) (d : Operand) (b : Bool) → is_struct x.ctype ≡ b
    → (typed_comma (value_type x) xs ≡ Ok d → AsValue (Sequence (value_type x) xs) d) → Is (if b then Err fault.Operands else typed_comma (value_type x) xs) d
    → AsValue (Sequence before (x ∷ xs)) d
step_is before x xs d true e f h = absurd (cc)
step_is before x xs d false e f h = let r = f h in ((e, r.0), r.1, r.2)

pub sequence_is : (before : TypeTree) (xs : List Operand) (d : Operand) → typed_comma before xs ≡ Ok d → AsValue (Sequence before xs) d
sequence_is before [] d h = value_is (λ t. t ≡ before) before d refl h
sequence_is before (x ∷ xs) d h = step_is before x xs d (is_struct x.ctype) refl (sequence_is (value_type x) xs d) h

step_breaks : (x : Operand) (xs : List Operand) (k : FaultKind) (b : Bool) → is_struct x.ctype ≡ b
    → (typed_comma (value_type x) xs ≡ Err k → (k ≡ fault.Operands) × HasStruct xs) → IsErr (if b then Err fault.Operands else typed_comma (value_type x) xs) k
    → (k ≡ fault.Operands) × HasStruct (x ∷ xs)
step_breaks x xs k true e f h = (fault_is fault.Operands k h, inl e)
step_breaks x xs k false e f h = let r = f h in (r.0, inr r.1)

pub sequence_breaks : (before : TypeTree) (xs : List Operand) (k : FaultKind) → typed_comma before xs ≡ Err k → (k ≡ fault.Operands) × HasStruct xs
sequence_breaks before [] k h = absurd (cc)
sequence_breaks before (x ∷ xs) k h = step_breaks x xs k (is_struct x.ctype) refl (sequence_breaks (value_type x) xs k) h

-- calls

pub passes : (ts : List TypeTree) (xs : List Operand) → fits_parameters ts xs ≡ true → ArgumentsPass ts xs
passes [] [] h = tt
passes [] (x ∷ xs) h = absurd (omega (arith, eqb-true (suc (length xs)) 0 h))
passes (t ∷ ts) [] h = absurd (false≢true h)
passes (t ∷ ts) (x ∷ xs) h = let l = and_parts (is_assignable t x) (fits_parameters ts xs) h in (accepts t x l.0, passes ts xs l.1)

pub passes_back : (ts : List TypeTree) (xs : List Operand) → ArgumentsPass ts xs → fits_parameters ts xs ≡ true
passes_back [] [] h = refl
passes_back [] (x ∷ xs) h = absurd h
passes_back (t ∷ ts) [] h = absurd h
passes_back (t ∷ ts) (x ∷ xs) h = and_from (is_assignable t x) (fits_parameters ts xs) (accepts_back t x h.0) (passes_back ts xs h.1)

abbrev passing : Bool → TypeTree → OperandOrFault
passing fits t = if fits then Ok (value_of t) else Err fault.Arguments

passing_is : (b : Bool) (t : TypeTree) (P : Type 0) (d : Operand) → (b ≡ true → P) → passing b t ≡ Ok d → AsValue (λ u. P × (u ≡ t)) d
passing_is true t P d f h = value_is (λ u. P × (u ≡ t)) t d (f refl, refl) h
passing_is false t P d f h = absurd (cc)

passing_breaks : (b : Bool) (t : TypeTree) (P : Type 0) (k : FaultKind) → (P → b ≡ true) → passing b t ≡ Err k
    → (k ≡ fault.Arguments) × ((u : TypeTree) → (P × (u ≡ t)) → ⊥)
passing_breaks true t P k f h = absurd (cc)
passing_breaks false t P k f h = (fault_is fault.Arguments k h, λ u p. false≢true (f p.0))

pub called_is : (f : FunctionType) (xs : List Operand) (d : Operand) → typed_call f xs ≡ Ok d → AsValue (CallsAs f xs) d
called_is f xs d h = passing_is (fits_parameters f.params xs) f.gives (ArgumentsPass f.params xs) d (passes f.params xs) h

pub called_breaks : (f : FunctionType) (xs : List Operand) (k : FaultKind) → typed_call f xs ≡ Err k
    → (k ≡ fault.Arguments) × ((t : TypeTree) → CallsAs f xs t → ⊥)
called_breaks f xs k h = passing_breaks (fits_parameters f.params xs) f.gives (ArgumentsPass f.params xs) k (passes_back f.params xs) h

lone_is : (xs : List Operand) → one_scalar xs ≡ true → IsLoneScalar xs
lone_is [] h = absurd (false≢true h)
lone_is (x ∷ []) h = h
lone_is (x ∷ y ∷ xs) h = absurd (false≢true h)

lone_back : (xs : List Operand) → IsLoneScalar xs → one_scalar xs ≡ true
lone_back [] h = absurd h
lone_back (x ∷ []) h = h
lone_back (x ∷ y ∷ xs) h = absurd h

pub standard_is : (f : Library) (xs : List Operand) (d : Operand) → library_called f xs ≡ Ok d → AsValue (CallsStandard f xs) d
standard_is library.Getchar xs d h = called_is (record { gives = Int; params = [] }) xs d h
standard_is library.Putchar xs d h = called_is (record { gives = Int; params = Int ∷ [] }) xs d h
standard_is library.Puts xs d h = called_is (record { gives = Int; params = Pointer Char ∷ [] }) xs d h
standard_is library.Malloc xs d h = called_is (record { gives = Pointer Void; params = Unsigned ∷ [] }) xs d h
standard_is library.Free xs d h = called_is (record { gives = Void; params = Pointer Void ∷ [] }) xs d h
standard_is library.Exit xs d h = called_is (record { gives = Void; params = Int ∷ [] }) xs d h
standard_is library.Abort xs d h = called_is (record { gives = Void; params = [] }) xs d h
standard_is library.Assert xs d h = passing_is (one_scalar xs) Void (IsLoneScalar xs) d (lone_is xs) h
standard_is library.Printf xs d h = absurd (cc)

pub standard_breaks : (f : Library) (xs : List Operand) (k : FaultKind) → library_called f xs ≡ Err k
    → (k ≡ fault.Arguments) × ((t : TypeTree) → CallsStandard f xs t → ⊥)
standard_breaks library.Getchar xs k h = called_breaks (record { gives = Int; params = [] }) xs k h
standard_breaks library.Putchar xs k h = called_breaks (record { gives = Int; params = Int ∷ [] }) xs k h
standard_breaks library.Puts xs k h = called_breaks (record { gives = Int; params = Pointer Char ∷ [] }) xs k h
standard_breaks library.Malloc xs k h = called_breaks (record { gives = Pointer Void; params = Unsigned ∷ [] }) xs k h
standard_breaks library.Free xs k h = called_breaks (record { gives = Void; params = Pointer Void ∷ [] }) xs k h
standard_breaks library.Exit xs k h = called_breaks (record { gives = Void; params = Int ∷ [] }) xs k h
standard_breaks library.Abort xs k h = called_breaks (record { gives = Void; params = [] }) xs k h
standard_breaks library.Assert xs k h = passing_breaks (one_scalar xs) Void (IsLoneScalar xs) k (lone_back xs) h
standard_breaks library.Printf xs k h = (fault_is fault.Arguments k h, λ t p. p)

-- operators

module _ (ss : List StructType) where
  pub chained_breaks : (o : Option Binary) (x y : Operand) (k : FaultKind) → typed_chain_operation ss o x y ≡ Err k → Misfits (Joins ss o x y) k
  chained_breaks o x y k h = misfit (Joins ss o x y) value_of (typed_chain_operation ss o x y) k (chained_back ss o x y) (only_chained ss o x y) h

  pub indexed_breaks : (x y : Operand) (k : FaultKind) → typed_subscript ss x y ≡ Err k → Misfits (Indexes ss x y) k
  indexed_breaks x y k h = misfit (Indexes ss x y) place_of (typed_subscript ss x y) k (indexed_back ss x y)
      (only_then (typed_sum ss (value_type x) (value_type y)) typed_indirection (only_added ss (value_type x) (value_type y)) (λ z. only_pointed (value_type z))) h

  -- what is changed

  abbrev changing : Bool → Bool → TypeTree → OperandOrFault
  changing fits left t = if fits then if left then Ok (value_of t) else Err fault.NoPlace else Err fault.Operands

  changing_breaks : (p q : Bool) (t : TypeTree) (x : Operand) (P : Type 0) (k : FaultKind) → (P → p ≡ true) → (IsModifiable x → q ≡ true)
      → (p ≡ true → P) → changing p q t ≡ Err k
      → IsLeast (λ j. ((j ≡ fault.Operands) × (P → ⊥)) ⊎ Unmodifiable x j) k
  changing_breaks true true t x P k f g r h = absurd (cc)
  changing_breaks true false t x P k f g r h =
      least_second (P → ⊥) (IsModifiable x → ⊥) fault.Operands fault.NoPlace k (λ n. n (r refl)) (fault_is fault.NoPlace k h) (λ m. false≢true (g m))
  changing_breaks false q t x P k f g r h =
      least_first (P → ⊥) (IsModifiable x → ⊥) fault.Operands fault.NoPlace k (omega arith) (fault_is fault.Operands k h) (λ p. false≢true (f p))

  points : (t : TypeTree) → is_movable ss t ≡ true → PointsToObject ss t
  points (Pointer to) h = h
  points t h = absurd (false≢true h)

  counts_is : (x : Operand) → (is_arithmetic (value_type x) || is_movable ss (value_type x)) ≡ true → Counts ss x
  counts_is x h = ⊎_elim (λ e. inl e) (λ e. inr (points (value_type x) e)) (or_cases (is_arithmetic (value_type x)) (is_movable ss (value_type x)) h)

  counts_back : (x : Operand) → Counts ss x → (is_arithmetic (value_type x) || is_movable ss (value_type x)) ≡ true
  counts_back x (inl h) = or_left (is_arithmetic (value_type x)) (is_movable ss (value_type x)) h
  counts_back x (inr h) = or_right (is_arithmetic (value_type x)) (is_movable ss (value_type x)) (points_back ss (value_type x) h)

  pub stepped_breaks : (x : Operand) (k : FaultKind) → typed_increment ss x ≡ Err k → StepBreaks ss x k
  stepped_breaks x k h = changing_breaks (is_arithmetic (value_type x) || is_movable ss (value_type x)) (is_left_side x) (value_type x) x (Counts ss x) k
      (counts_back x) (modifiable_back x) (counts_is x) h

  compound_breaks : (o : Binary) (x y : Operand) (k : FaultKind) (r : OperandOrFault) → typed_binary_operation ss o x y ≡ r → (r >>= typed_simple_assignment x) ≡ Err k
      → AssignBreaks ss (Some o) x y k
  compound_breaks o x y k (Err j) e h = least_first (Stores ss (Some o) x y → ⊥) (IsModifiable x → ⊥) fault.Operands fault.NoPlace k (omega arith)
      (only_combined ss o x y k (e ∙ h)) (λ s. not_both (typed_binary_operation ss o x y) (value_of s.0) j (combined_back ss o x y s.0 s.1.0) e)
  compound_breaks o x y k (Ok m) e h = changing_breaks (is_assignable (value_type x) m) (is_left_side x) (value_type x) x (Stores ss (Some o) x y) k
      (λ s. accepts_back (value_type x) m (subst (λ z. Accepts (value_type x) z) (same (value_of s.0) m (sym (combined_back ss o x y s.0 s.1.0) ∙ e)) s.1.1))
      (modifiable_back x) stores h
    where
      same : (a b : Operand) → Is (Ok a) b → a ≡ b
      same a b h = cc

      stores : is_assignable (value_type x) m ≡ true → Stores ss (Some o) x y
      stores a =
          let q : AsValue (Operates ss o x y) m = combined_is ss ss (λ i z r. r) o x y m e in
          (m.ctype, (q.0, subst (Accepts (value_type x)) (is_value m q.1 q.2) (accepts (value_type x) m a)))

  pub assign_breaks : (o : Option Binary) (x y : Operand) (k : FaultKind) → typed_assignment ss o x y ≡ Err k → AssignBreaks ss o x y k
  assign_breaks None x y k h = changing_breaks (is_assignable (value_type x) y) (is_left_side x) (value_type x) x (Accepts (value_type x) y) k
      (accepts_back (value_type x) y) (modifiable_back x) (accepts (value_type x) y) h
  assign_breaks (Some o) x y k h = compound_breaks o x y k (typed_binary_operation ss o x y) refl h

  address_breaks : (p : Bool) (x : Operand) (k : FaultKind) → x.place ≡ p → IsErr (if p then Ok (value_of (Pointer x.ctype)) else Err fault.NoPlace) k
      → PrefixBreaks ss prefix.Address x k
  address_breaks true x k e h = absurd (cc)
  address_breaks false x k e h = (fault_is fault.NoPlace k h, λ t. false≢true (sym e ∙ t))

  signed_breaks : (x : Operand) (k : FaultKind) → typed_unary_arithmetic x ≡ Err k → Misfits (λ t. IsArithmetic (value_type x) × (t ≡ promoted_type (value_type x))) k
  signed_breaks x k h = misfit (λ t. IsArithmetic (value_type x) × (t ≡ promoted_type (value_type x))) value_of (typed_unary_arithmetic x) k
      (λ t p. of_type (gives_true (is_arithmetic (value_type x)) (promoted_type (value_type x)) p.0) p.1)
      (only_gives (is_arithmetic (value_type x)) (promoted_type (value_type x))) h

  pub prefix_breaks : (o : PrefixOperator) (x : Operand) (k : FaultKind) → typed_prefix_operation ss o x ≡ Err k → PrefixBreaks ss o x k
  prefix_breaks prefix.Increment x k h = stepped_breaks x k h
  prefix_breaks prefix.Decrement x k h = stepped_breaks x k h
  prefix_breaks prefix.Address x k h = address_breaks x.place x k refl h
  prefix_breaks prefix.SizeOf x k h = let m = measured_breaks ss x.ctype k h in (m.0, λ t p. m.1 p.0)
  prefix_breaks prefix.Indirection x k h = misfit (Prefixes ss prefix.Indirection x) place_of (typed_indirection x) k (pointed_back ss x)
      (only_pointed (value_type x)) h
  prefix_breaks prefix.Not x k h = misfit (Prefixes ss prefix.Not x) value_of (typed_prefix_operation ss prefix.Not x) k
      (λ t p. of_type (gives_true (is_scalar_value x) Int p.0) p.1) (only_gives (is_scalar_value x) Int) h
  prefix_breaks o x k h = signed_breaks x k h
