-- What every operand of an accepted text is: the types in it have sizes that pointers can move by, and a struct is a place.
use Rattle.std.proofs.Common.{◌≡◌, ℕ, ◌≤◌, refl, subst, sym, ◌∙◌, arith, List, Some, None, ◌+◌, Ok, Err, Bool, true, false}
use Rattle.std.specs.Prelude.{◌*◌, nat_le, slice_get, ◌&&◌, ◌||◌, if◌then◌else◌}
use Rattle.std.specs.Option.{option_map}
use Rattle.std.proofs.lemmas.Bool.{false≢true, true≢false, and_parts}
use Rattle.std.proofs.lemmas.Bool.Decides.{nat_tests}
use Rattle.cbi_base.specs.declared.operators.Binary.{Binary}
use Rattle.cbi_base.specs.declared.operators.Binary.TheVariants as op
use Rattle.cbi_base.specs.declared.scalar.Kind.{Kind}
use Rattle.cbi_base.specs.declared.scalar.Kind.TheVariants as kind
use Rattle.c_syntax.specs.ItemTree.{SourceTree}
use Rattle.c_types_rules.specs.declared.fault.FaultKind.{FaultKind}
use Rattle.c_types_rules.specs.declared.fault.FaultKind.TheVariants as fault
use Rattle.c_types_rules.specs.declared.layout.Member.{Member}
use Rattle.c_types_rules.specs.declared.layout.StructType.{StructType}
use Rattle.c_types_rules.specs.declared.operand.Operand.{Operand}
use Rattle.c_types_rules.specs.TypeTree as t
use Rattle.c_types_rules.specs.Words.{TypeTree, same_type, is_assignable, typed_simple_assignment, pointers_join, common_type, decayed_type, parenthesized_operand, is_arithmetic, is_pointer, is_struct}
use Rattle.c_types_rules.specs.Words.{is_unsigned, is_void, is_void_pointer, null_of, of_kind, place_of, promoted_type, string_of, value_of, typed_sum, both_arithmetic}
use Rattle.c_types_rules.specs.Words.{typed_binary_operation, typed_compound_assignment, value_if_operands_fit, is_movable, is_scalar_value, joined_truths, typed_unary_arithmetic, typed_increment, typed_address, typed_conditional, typed_alternatives}
use Rattle.c_types_rules.specs.Words.{typed_subscript, joined_pointer, member_named, typed_indirection, pointed_type, cells_of, is_complete}
use Rattle.c_types_rules.specs.Conversions as rule
use Rattle.c_types_expressions.specs.declared.walk.FunctionEntry.{FunctionEntry}
use Rattle.c_types_expressions.specs.declared.walk.Walk.{Walk}
use Rattle.c_types.specs.Answers.{note_at}
use Rattle.c_types.specs.Numbers.{function_of}
use Rattle.c_meaning.specs.Words.{element_cells, object_cells, is_step_size}
use Rattle.c_meaning_laws.specs.Rules.{IsObject, IsValue}
use Rattle.c_meaning_laws.proofs.Ruled.{Is, given, gives_by, known}
use Rattle.c_meaning_laws.proofs.RuledOperators.{Assigned, StepsKnown, assigned_is, bind_by}
use Rattle.c_meaning_laws.proofs.RuledPlaces.{joined_pointing}
use Rattle.c_meaning_sound.proofs.Noting.{Deep, Small, Whole}

-- a value, and no null constant
abbrev pub Plain : Operand → Type 0
Plain x = (x.place ≡ false) × (x.null ≡ false)

pub gives_plain : (p : Bool) (of : TypeTree) (x : Operand) → Is (value_if_operands_fit p of) x → Plain x
gives_plain p of x h = gives_by Plain p of x (λ e. (refl, refl)) h

sums_plain : (p q m n : Bool) (a b c : TypeTree) (x : Operand) → Is (if p then Ok (value_of a) else if q then value_if_operands_fit m b else value_if_operands_fit n c) x → Plain x
sums_plain true q m n a b c x h = given Plain (value_of a) x (refl, refl) h
sums_plain false true m n a b c x h = gives_plain m b x h
sums_plain false false m n a b c x h = gives_plain n c x h

pub combined_plain : (structs : List StructType) (o : Binary) (x y a : Operand) → Is (typed_binary_operation structs o x y) a → Plain a
combined_plain structs op.Add x y a h = sums_plain (both_arithmetic (rule.value_type x) (rule.value_type y)) (is_arithmetic (rule.value_type y))
    (is_movable structs (rule.value_type x)) (is_arithmetic (rule.value_type x) && is_movable structs (rule.value_type y))
    (common_type (rule.value_type x) (rule.value_type y)) (rule.value_type x) (rule.value_type y) a h
combined_plain structs op.Sub x y a h = sums_plain (both_arithmetic (rule.value_type x) (rule.value_type y)) (is_arithmetic (rule.value_type y))
    (is_movable structs (rule.value_type x)) (is_movable structs (rule.value_type x) && same_type (rule.value_type x) (rule.value_type y))
    (common_type (rule.value_type x) (rule.value_type y)) (rule.value_type x) t.Int a h
combined_plain structs o x y a h = gives_plain _ _ a h

pub assigned_plain : (target x a : Operand) → Is (typed_simple_assignment target x) a → Plain a
assigned_plain target x a h = subst Plain (sym (assigned_is target x a h).gives) (refl, refl)

pub compounded_plain : (structs : List StructType) (o : Binary) (target x a : Operand) → Is (typed_compound_assignment structs o target x) a → Plain a
compounded_plain structs o target x a h = bind_by Plain (typed_binary_operation structs o target x) (typed_simple_assignment target) a (λ b _ k. assigned_plain target b a k) h

twice_plain : (p q : Bool) (of : TypeTree) (x : Operand) → Is (if p then if q then Ok (value_of of) else Err fault.NoPlace else Err fault.Operands) x → Plain x
twice_plain true true of x h = given Plain (value_of of) x (refl, refl) h
twice_plain true false of x h = cc
twice_plain false q of x h = cc

pub stepped_plain : (structs : List StructType) (x a : Operand) → Is (typed_increment structs x) a → Plain a
stepped_plain structs x a h = twice_plain _ _ _ a h

pub once_plain : (p : Bool) (of : TypeTree) (f : FaultKind) (x : Operand) → Is (if p then Ok (value_of of) else Err f) x → Plain x
once_plain true of f x h = given Plain (value_of of) x (refl, refl) h
once_plain false of f x h = cc

arms_plain : (p q r s : Bool) (a b c : TypeTree) (x : Operand)
    → Is (if p then if q then Ok (value_of a) else if r then Ok (value_of b) else value_if_operands_fit s c else Err fault.Operands) x → Plain x
arms_plain true true r s a b c x h = given Plain (value_of a) x (refl, refl) h
arms_plain true false true s a b c x h = given Plain (value_of b) x (refl, refl) h
arms_plain true false false s a b c x h = gives_plain s c x h
arms_plain false q r s a b c x h = cc

pub chosen_plain : (c x y a : Operand) → Is (typed_conditional c x y) a → Plain a
chosen_plain c x y a h = arms_plain (is_scalar_value c) (both_arithmetic (rule.value_type x) (rule.value_type y))
    (is_void (rule.value_type x) && is_void (rule.value_type y)) (pointers_join x y) (common_type (rule.value_type x) (rule.value_type y)) t.Void
    (joined_pointer x y) a h

pointed_null : (of : TypeTree) (a : Operand) → Is (pointed_type of) a → a.null ≡ false
pointed_null (t.Pointer to) a h = tested (is_void to) h
  where
    tested : (b : Bool) → Is (if b then Err fault.Operands else Ok (place_of to)) a → a.null ≡ false
    tested true h = cc
    tested false h = given (λ a. a.null ≡ false) (place_of to) a refl h
pointed_null t.Void a h = cc
pointed_null t.Char a h = cc
pointed_null t.Int a h = cc
pointed_null t.Unsigned a h = cc
pointed_null (t.Array element size) a h = cc
pointed_null (t.Struct tag) a h = cc

pub pointed_no_null : (x a : Operand) → Is (typed_indirection x) a → a.null ≡ false
pointed_no_null x a h = pointed_null (rule.value_type x) a h

pub indexed_no_null : (structs : List StructType) (x y a : Operand) → Is (typed_subscript structs x y) a → a.null ≡ false
indexed_no_null structs x y a h =
    bind_by (λ a. a.null ≡ false) (typed_sum structs (rule.value_type x) (rule.value_type y)) typed_indirection a (λ b k l. pointed_no_null b a l) h

module _ (tree : SourceTree) (z : Walk) where
  -- a function that has a definition has its number and its signature
  pub record Numbered (index : ℕ) : Type 0 where
    pub number : ℕ
    pub defined : note_at z.defined_as index ≡ Some number
    pub definition : option_map function_of (slice_get z.definitions number) ≡ Some index

  -- what holds of all that is known at the end of a text without a fault
  pub record Ended : Type 0 where
    pub structs : (tag : ℕ) → Small tree z (t.Struct tag)
    pub members : (tag : ℕ) (s : StructType) → slice_get z.structs tag ≡ Some s → (name : List ℕ) (m : Member) → member_named name s.members ≡ Some m
        → Whole tree z m.ctype
    pub gives : (index : ℕ) (g : FunctionEntry) → slice_get z.functions index ≡ Some g → Deep tree z g.ctype.gives × (is_struct g.ctype.gives ≡ false)
    pub calls : (token index : ℕ) → note_at z.functions_at token ≡ Some index → Numbered index

  pub small_of : (of : TypeTree) → Deep tree z of → Small tree z of
  small_of t.Void h e = absurd (false≢true e)
  small_of (t.Array element size) h e = h.0 e
  small_of (t.Struct tag) h e = h e
  small_of of h e = refl

  cells_if : (of : TypeTree) (b c : Bool) → b ≡ true → c ≡ true → (if b && c then Some (cells_of z.structs of) else None) ≡ Some (cells_of z.structs of)
  cells_if of true true h k = refl
  cells_if of false c h k = cc
  cells_if of true false h k = cc

  -- an object of the type has cells
  pub object_is : (of : TypeTree) → Deep tree z of → is_complete z.structs of ≡ true → object_cells z.structs of ≡ Some (cells_of z.structs of)
  object_is of d h = cells_if of (is_complete z.structs of) (nat_le (cells_of z.structs of) 1048576) h
      (and_parts (nat_le 1 (cells_of z.structs of)) (nat_le (cells_of z.structs of) 1048576) (small_of of d h)).1

  step_is : (of : TypeTree) → Deep tree z of → is_complete z.structs of ≡ true → is_step_size (element_cells z.structs of) ≡ true
  step_is of d h = rw (object_is of d h) (small_of of d h)

  pub steps_known : (of : TypeTree) → Deep tree z of → StepsKnown z.structs of
  steps_known (t.Pointer to) d h = step_is to d h
  steps_known (t.Array element size) d h = step_is element d.1 h
  steps_known of d h = tt

  -- what an operand is
  pub record Formed (x : Operand) : Type 0 where
    pub deep : Deep tree z x.ctype
    pub object : x.place ≡ true → IsObject (known z.structs x.ctype)
    pub place : is_struct x.ctype ≡ true → x.place ≡ true
    pub null : x.null ≡ true → IsValue (known z.structs x.ctype)

  -- a value, of no struct type
  pub value_formed : (of : TypeTree) → Deep tree z of → is_struct of ≡ false → Formed (value_of of)
  value_formed of d h = record {
    deep = d;
    object = λ e. absurd (false≢true e);
    place = λ e. absurd (true≢false (sym e ∙ h));
    null = λ e. absurd (false≢true e);
  }

  pub place_formed : (of : TypeTree) → Whole tree z of → Formed (place_of of)
  place_formed of h = record { deep = h.0; object = λ e. h.1; place = λ e. refl; null = λ e. absurd (false≢true e) }

  pub decayed_deep : (of : TypeTree) → Deep tree z of → Deep tree z (decayed_type of)
  decayed_deep (t.Array element size) h = h.1
  decayed_deep of h = h

  movable_plain : (of : TypeTree) → is_movable z.structs of ≡ true → is_struct of ≡ false
  movable_plain (t.Struct tag) h = absurd (false≢true h)
  movable_plain of h = refl

  pointer_plain : (of : TypeTree) → is_pointer of ≡ true → is_struct of ≡ false
  pointer_plain (t.Struct tag) h = absurd (false≢true h)
  pointer_plain of h = refl

  pub int_formed : Formed (value_of t.Int)
  int_formed = value_formed t.Int tt refl

  common_by : (b : Bool) → Formed (value_of (if b then t.Unsigned else t.Int))
  common_by true = value_formed t.Unsigned tt refl
  common_by false = int_formed

  common_formed : (a b : TypeTree) → Formed (value_of (common_type a b))
  common_formed a b = common_by (is_unsigned a || is_unsigned b)

  promoted_formed : (of : TypeTree) → is_arithmetic of ≡ true → Formed (value_of (promoted_type of))
  promoted_formed t.Char h = int_formed
  promoted_formed t.Int h = int_formed
  promoted_formed t.Unsigned h = value_formed t.Unsigned tt refl
  promoted_formed of h = absurd (false≢true h)

  moved_formed : (of : TypeTree) → Deep tree z of → (m : Bool) → (m ≡ true → is_struct of ≡ false) → (x : Operand) → Is (value_if_operands_fit m of) x → Formed x
  moved_formed of d m f x h = gives_by Formed m of x (λ e. value_formed of d (f e)) h

  sum_by_tests : (p q m n k : Bool) (a b : TypeTree) (x : Operand) → Deep tree z a → Deep tree z b → (m ≡ true → is_struct a ≡ false)
      → (n ≡ true → is_struct b ≡ false) → Is (if p then Ok (value_of (common_type a b)) else if q then value_if_operands_fit m a else value_if_operands_fit (k && n) b) x → Formed x
  sum_by_tests true q m n k a b x c d f g h = given Formed (value_of (common_type a b)) x (common_formed a b) h
  sum_by_tests false true m n k a b x c d f g h = moved_formed a c m f x h
  sum_by_tests false false m n true a b x c d f g h = moved_formed b d n g x h
  sum_by_tests false false m n false a b x c d f g h = cc

  pub added_formed : (a b : TypeTree) (x : Operand) → Deep tree z a → Deep tree z b → Is (typed_sum z.structs a b) x → Formed x
  added_formed a b x c d h = sum_by_tests (both_arithmetic a b) (is_arithmetic b) (is_movable z.structs a) (is_movable z.structs b) (is_arithmetic a) a b x c d
      (movable_plain a) (movable_plain b) h

  difference_by : (p q m s : Bool) (a b : TypeTree) (x : Operand) → Deep tree z a → (m ≡ true → is_struct a ≡ false)
      → Is (if p then Ok (value_of (common_type a b)) else if q then value_if_operands_fit m a else value_if_operands_fit (m && s) t.Int) x → Formed x
  difference_by true q m s a b x c f h = given Formed (value_of (common_type a b)) x (common_formed a b) h
  difference_by false true m s a b x c f h = moved_formed a c m f x h
  difference_by false false m s a b x c f h = moved_formed t.Int tt (m && s) (λ e. refl) x h

  number_formed : (b : Bool) (x : Operand) → Is (value_if_operands_fit b t.Int) x → Formed x
  number_formed b x h = moved_formed t.Int tt b (λ e. refl) x h

  calculated_formed : (p : Bool) (a b : TypeTree) (x : Operand) → Is (value_if_operands_fit p (common_type a b)) x → Formed x
  calculated_formed p a b x h = gives_by Formed p (common_type a b) x (λ e. common_formed a b) h

  shifted_formed : (a b : TypeTree) (x : Operand) → Is (value_if_operands_fit (both_arithmetic a b) (promoted_type a)) x → Formed x
  shifted_formed a b x h = gives_by Formed (both_arithmetic a b) (promoted_type a) x (λ e. promoted_formed a (and_parts (is_arithmetic a) (is_arithmetic b) e).0) h

  pub combined_formed : (o : Binary) (x y a : Operand) → Formed x → Formed y → Is (typed_binary_operation z.structs o x y) a → Formed a
  combined_formed op.Add x y a f g h = added_formed (rule.value_type x) (rule.value_type y) a (decayed_deep x.ctype f.deep) (decayed_deep y.ctype g.deep) h
  combined_formed op.Sub x y a f g h = difference_by (both_arithmetic (rule.value_type x) (rule.value_type y)) (is_arithmetic (rule.value_type y))
      (is_movable z.structs (rule.value_type x)) (same_type (rule.value_type x) (rule.value_type y)) (rule.value_type x) (rule.value_type y) a
      (decayed_deep x.ctype f.deep) (movable_plain (rule.value_type x)) h
  combined_formed op.Shl x y a f g h = shifted_formed (rule.value_type x) (rule.value_type y) a h
  combined_formed op.Shr x y a f g h = shifted_formed (rule.value_type x) (rule.value_type y) a h
  combined_formed op.Lt x y a f g h = number_formed _ a h
  combined_formed op.Le x y a f g h = number_formed _ a h
  combined_formed op.Gt x y a f g h = number_formed _ a h
  combined_formed op.Ge x y a f g h = number_formed _ a h
  combined_formed op.Eq x y a f g h = number_formed _ a h
  combined_formed op.Ne x y a f g h = number_formed _ a h
  combined_formed o x y a f g h = calculated_formed _ (rule.value_type x) (rule.value_type y) a h

  assignable_plain : (of : TypeTree) (x : Operand) → is_assignable of x ≡ true → is_struct of ≡ false
  assignable_plain (t.Struct tag) x h = absurd (false≢true h)
  assignable_plain of x h = refl

  pub assigned_formed : (target x a : Operand) → Formed target → Is (typed_simple_assignment target x) a → Formed a
  assigned_formed target x a f h =
      let k : Assigned target x a = assigned_is target x a h in
      subst Formed (sym k.gives) (value_formed (rule.value_type target) (decayed_deep target.ctype f.deep) (assignable_plain (rule.value_type target) x k.fits))

  pub compounded_formed : (o : Binary) (target x a : Operand) → Formed target → Is (typed_compound_assignment z.structs o target x) a → Formed a
  compounded_formed o target x a f h = bind_by Formed (typed_binary_operation z.structs o target x) (typed_simple_assignment target) a (λ b _ k. assigned_formed target b a f k) h

  scalar_plain : (of : TypeTree) → (is_arithmetic of || is_movable z.structs of) ≡ true → is_struct of ≡ false
  scalar_plain (t.Struct tag) h = absurd (false≢true h)
  scalar_plain of h = refl

  stepped_by : (of : TypeTree) (p q : Bool) (a : Operand) → Deep tree z of → (p ≡ true → is_struct of ≡ false)
      → Is (if p then if q then Ok (value_of of) else Err fault.NoPlace else Err fault.Operands) a → Formed a
  stepped_by of true true a d f h = given Formed (value_of of) a (value_formed of d (f refl)) h
  stepped_by of true false a d f h = cc
  stepped_by of false q a d f h = cc

  pub stepped_formed : (x a : Operand) → Formed x → Is (typed_increment z.structs x) a → Formed a
  stepped_formed x a f h = stepped_by (rule.value_type x) _ _ a (decayed_deep x.ctype f.deep) (scalar_plain (rule.value_type x)) h

  pub signed_formed : (x a : Operand) → Is (typed_unary_arithmetic x) a → Formed a
  signed_formed x a h = gives_by Formed (is_arithmetic (rule.value_type x)) (promoted_type (rule.value_type x)) a (promoted_formed (rule.value_type x)) h

  pub joined_formed : (x y a : Operand) → Is (joined_truths x y) a → Formed a
  joined_formed x y a h = number_formed (is_scalar_value x && is_scalar_value y) a h

  addressed_by : (of : TypeTree) (p : Bool) (a : Operand) → Deep tree z of → Is (if p then Ok (value_of (t.Pointer of)) else Err fault.NoPlace) a → Formed a
  addressed_by of true a d h = given Formed (value_of (t.Pointer of)) a (value_formed (t.Pointer of) d refl) h
  addressed_by of false a d h = cc

  pub addressed_formed : (x a : Operand) → Formed x → Is (typed_address x) a → Formed a
  addressed_formed x a f h = addressed_by x.ctype x.place a f.deep h

  pointed_by : (to : TypeTree) (b : Bool) (a : Operand) → Deep tree z to → is_void to ≡ b → Is (if b then Err fault.Operands else Ok (place_of to)) a → Formed a
  pointed_by to true a d e h = cc
  pointed_by to false a d e h = given Formed (place_of to) a (place_formed to (d, object_known to e)) h
    where
      object_known : (of : TypeTree) → is_void of ≡ false → IsObject (known z.structs of)
      object_known t.Void h = absurd (true≢false h)
      object_known t.Char h = tt
      object_known t.Int h = tt
      object_known t.Unsigned h = tt
      object_known (t.Pointer to) h = tt
      object_known (t.Array element size) h = tt
      object_known (t.Struct tag) h = tt

  pointed_deep : (of : TypeTree) (a : Operand) → Deep tree z of → Is (pointed_type of) a → Formed a
  pointed_deep (t.Pointer to) a d h = pointed_by to (is_void to) a d refl h
  pointed_deep of a d h = cc

  pub pointed_formed : (x a : Operand) → Formed x → Is (typed_indirection x) a → Formed a
  pointed_formed x a f h = pointed_deep (rule.value_type x) a (decayed_deep x.ctype f.deep) h

  pub indexed_formed : (x y a : Operand) → Formed x → Formed y → Is (typed_subscript z.structs x y) a → Formed a
  indexed_formed x y a f g h = bind_by Formed (typed_sum z.structs (rule.value_type x) (rule.value_type y)) typed_indirection a
      (λ b k l. pointed_formed b a (added_formed (rule.value_type x) (rule.value_type y) b (decayed_deep x.ctype f.deep) (decayed_deep y.ctype g.deep) k) l) h

  cast_plain : (of : TypeTree) (x : Operand) → (is_void of || is_assignable of x) ≡ true → is_struct of ≡ false
  cast_plain (t.Struct tag) x h = absurd (false≢true h)
  cast_plain of x h = refl

  pub cast_formed : (of : TypeTree) (x a : Operand) → Deep tree z of → Is (value_if_operands_fit (is_void of || is_assignable of x) of) a → Formed a
  cast_formed of x a d h = moved_formed of d (is_void of || is_assignable of x) (cast_plain of x) a h

  pub constant_formed : (k : Kind) (n : Bool) → Formed (record { ctype = of_kind k; place = false; null = n })
  constant_formed kind.Char n = record { deep = tt; object = λ e. absurd (false≢true e); place = λ e. absurd (false≢true e); null = λ e. tt }
  constant_formed kind.Int n = record { deep = tt; object = λ e. absurd (false≢true e); place = λ e. absurd (false≢true e); null = λ e. tt }
  constant_formed kind.Unsigned n = record { deep = tt; object = λ e. absurd (false≢true e); place = λ e. absurd (false≢true e); null = λ e. tt }

  pub null_formed : Formed null_of
  null_formed = record { deep = tt; object = λ e. absurd (false≢true e); place = λ e. absurd (false≢true e); null = λ e. tt }

  pub enclosed_formed : (x : Operand) → Formed x → Formed (parenthesized_operand x)
  enclosed_formed x f = record { deep = f.deep; object = f.object; place = f.place; null = λ e. absurd (false≢true e) }

  times_one : (n : ℕ) → n * 1 ≡ n
  times_one n = omega arith

  step_size : (n : ℕ) → 1 ≤ n → n ≤ 1048576 → is_step_size n ≡ true
  step_size n h k = grind (arith, nat_tests, h, k)

  pub string_formed : (n : ℕ) → n ≤ 1048575 → Formed (string_of (n + 1))
  string_formed n h = value_formed (t.Array t.Char (n + 1)) ((λ e. rw (times_one (n + 1)) (step_size (n + 1) (omega arith) (omega (arith, h)))), tt) refl

  pointer_by : (x y : Operand) (p q : Bool) → Formed x → Formed y → Deep tree z
      (if p then rule.value_type y else if q then rule.value_type x else rule.value_type y)
  pointer_by x y true q f g = decayed_deep y.ctype g.deep
  pointer_by x y false true f g = decayed_deep x.ctype f.deep
  pointer_by x y false false f g = decayed_deep y.ctype g.deep

  arms_by : (x y a : Operand) (p q : Bool) → Formed x → Formed y → (pointers_join x y ≡ true → is_struct (joined_pointer x y) ≡ false)
      → Is (if p then Ok (value_of (common_type (rule.value_type x) (rule.value_type y))) else if q then Ok (value_of t.Void)
      else value_if_operands_fit (pointers_join x y) (joined_pointer x y)) a → Formed a
  arms_by x y a true q f g k h = given Formed (value_of (common_type (rule.value_type x) (rule.value_type y))) a
      (common_formed (rule.value_type x) (rule.value_type y)) h
  arms_by x y a false true f g k h = given Formed (value_of t.Void) a (value_formed t.Void tt refl) h
  arms_by x y a false false f g k h = moved_formed (joined_pointer x y)
      (pointer_by x y (x.null && is_pointer (rule.value_type y)) (y.null || is_void_pointer (rule.value_type x)) f g) (pointers_join x y) k a h

  chosen_by : (x y a : Operand) (p : Bool) → Formed x → Formed y → (pointers_join x y ≡ true → is_struct (joined_pointer x y) ≡ false)
      → Is (if p then typed_alternatives x y else Err fault.Operands) a → Formed a
  chosen_by x y a true f g k h = arms_by x y a (both_arithmetic (rule.value_type x) (rule.value_type y))
      (is_void (rule.value_type x) && is_void (rule.value_type y)) f g k h
  chosen_by x y a false f g k h = cc

  -- `? :`
  pub chosen_formed : (c x y a : Operand) → Formed x → Formed y → Is (typed_conditional c x y) a → Formed a
  chosen_formed c x y a f g h = chosen_by x y a (is_scalar_value c) f g (λ e. pointer_plain (joined_pointer x y) (joined_pointing x y e)) h

  -- the last operand of a comma
  pub last_formed : (x : Operand) → is_struct x.ctype ≡ false → Formed x → Formed (value_of (rule.value_type x))
  last_formed x h f = value_formed (rule.value_type x) (decayed_deep x.ctype f.deep) (decayed_plain x.ctype h)
    where
      decayed_plain : (of : TypeTree) → is_struct of ≡ false → is_struct (decayed_type of) ≡ false
      decayed_plain (t.Struct tag) h = h
      decayed_plain (t.Pointer to) h = refl
      decayed_plain t.Void h = refl
      decayed_plain t.Char h = refl
      decayed_plain t.Int h = refl
      decayed_plain t.Unsigned h = refl
      decayed_plain (t.Array element size) h = refl
