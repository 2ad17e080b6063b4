-- What the rules accept where some structs are known, they accept where more are.
use Rattle.std.proofs.Common.{◌≡◌, refl, List, Ok, Err, Bool, true, false}
use Rattle.std.specs.Prelude.{◌&&◌, ◌||◌, if◌then◌else◌}
use Rattle.cbi_base.specs.declared.operators.Binary.{Binary}
use Rattle.cbi_base.specs.declared.operators.Binary.TheVariants as op
use Rattle.c_types_rules.specs.declared.layout.StructType.{StructType}
use Rattle.c_types_rules.specs.declared.fault.FaultKind.TheVariants as fault
use Rattle.c_types_rules.specs.declared.operand.Operand.{Operand}
use Rattle.c_types_rules.specs.TypeTree as t
use Rattle.c_types_rules.specs.Words.{TypeTree, same_type, typed_simple_assignment, is_left_side, common_type, is_arithmetic, value_of, value_type, OperandOrFault, ◌>>=◌, typed_sum}
use Rattle.c_types_rules.specs.Words.{both_arithmetic, typed_binary_operation, typed_compound_assignment, value_if_operands_fit, is_movable, typed_sizeof, typed_increment, typed_difference, typed_subscript, typed_indirection, is_complete}
use Rattle.c_meaning_laws.proofs.Ruled.{Is}

-- where the first structs are known, types are known whole that are so where the others are
abbrev pub Grows : List StructType → List StructType → Type 0
Grows old new = (of : TypeTree) → is_complete old of ≡ true → is_complete new of ≡ true

gives_grows : (b c : Bool) (of : TypeTree) (z : Operand) → (b ≡ true → c ≡ true) → Is (value_if_operands_fit b of) z → Is (value_if_operands_fit c of) z
gives_grows true c of z k h = rw (k refl) h
gives_grows false c of z k h = cc

sums_grow : (p q m m2 n k k2 : Bool) (r : OperandOrFault) (a b : TypeTree) (z : Operand) → (m ≡ true → m2 ≡ true) → (k ≡ true → k2 ≡ true)
    → Is (if p then r else if q then value_if_operands_fit m a else value_if_operands_fit (n && k) b) z → Is (if p then r else if q then value_if_operands_fit m2 a else value_if_operands_fit (n && k2) b) z
sums_grow true q m m2 n k k2 r a b z f g h = h
sums_grow false true m m2 n k k2 r a b z f g h = gives_grows m m2 a z f h
sums_grow false false m m2 true k k2 r a b z f g h = gives_grows k k2 b z g h
sums_grow false false m m2 false k k2 r a b z f g h = h

and_grows : (m n k : Bool) → (m ≡ true → n ≡ true) → (m && k) ≡ true → (n && k) ≡ true
and_grows true n k f h = rw (f refl) h
and_grows false n k f h = cc

differences_grow : (p q m m2 k : Bool) (r : OperandOrFault) (a b : TypeTree) (z : Operand) → (m ≡ true → m2 ≡ true)
    → Is (if p then r else if q then value_if_operands_fit m a else value_if_operands_fit (m && k) b) z → Is (if p then r else if q then value_if_operands_fit m2 a else value_if_operands_fit (m2 && k) b) z
differences_grow true q m m2 k r a b z f h = h
differences_grow false true m m2 k r a b z f h = gives_grows m m2 a z f h
differences_grow false false m m2 k r a b z f h = gives_grows (m && k) (m2 && k) b z (and_grows m m2 k f) h

bind_grows : (r s : OperandOrFault) (next : Operand → OperandOrFault) (z : Operand) → ((a : Operand) → Is r a → Is s a) → Is (r >>= next) z → Is (s >>= next) z
bind_grows (Ok a) s next z k h = rw (k a refl) h
bind_grows (Err f) s next z k h = cc

steps_grow : (a m n : Bool) (r : OperandOrFault) (z : Operand) → (m ≡ true → n ≡ true) → Is (if a || m then r else Err fault.Operands) z
    → Is (if a || n then r else Err fault.Operands) z
steps_grow true m n r z f h = h
steps_grow false true n r z f h = rw (f refl) h
steps_grow false false n r z f h = cc

module _ (old new : List StructType) (more : Grows old new) where
  movable_grows : (of : TypeTree) → is_movable old of ≡ true → is_movable new of ≡ true
  movable_grows (t.Pointer to) h = more to h
  movable_grows of h = h

  added_grows : (a b : TypeTree) (z : Operand) → Is (typed_sum old a b) z → Is (typed_sum new a b) z
  added_grows a b z h = sums_grow (both_arithmetic a b) (is_arithmetic b) (is_movable old a) (is_movable new a) (is_arithmetic a) (is_movable old b)
      (is_movable new b) (Ok (value_of (common_type a b))) a b z (movable_grows a) (movable_grows b) h

  subtracted_grows : (a b : TypeTree) (z : Operand) → Is (typed_difference old a b) z → Is (typed_difference new a b) z
  subtracted_grows a b z h = differences_grow (both_arithmetic a b) (is_arithmetic b) (is_movable old a) (is_movable new a) (same_type a b)
      (Ok (value_of (common_type a b))) a t.Int z (movable_grows a) h

  pub combined_grows : (o : Binary) (x y z : Operand) → Is (typed_binary_operation old o x y) z → Is (typed_binary_operation new o x y) z
  combined_grows op.Add x y z h = added_grows (value_type x) (value_type y) z h
  combined_grows op.Sub x y z h = subtracted_grows (value_type x) (value_type y) z h
  combined_grows o x y z h = h

  pub compounded_grows : (o : Binary) (x y z : Operand) → Is (typed_compound_assignment old o x y) z → Is (typed_compound_assignment new o x y) z
  compounded_grows o x y z h = bind_grows (typed_binary_operation old o x y) (typed_binary_operation new o x y) (typed_simple_assignment x) z (λ a. combined_grows o x y a) h

  pub stepped_grows : (x z : Operand) → Is (typed_increment old x) z → Is (typed_increment new x) z
  stepped_grows x z h = steps_grow (is_arithmetic (value_type x)) (is_movable old (value_type x)) (is_movable new (value_type x))
      (if is_left_side x then Ok (value_of (value_type x)) else Err fault.NoPlace) z (movable_grows (value_type x)) h

  pub indexed_grows : (x y z : Operand) → Is (typed_subscript old x y) z → Is (typed_subscript new x y) z
  indexed_grows x y z h = bind_grows (typed_sum old (value_type x) (value_type y)) (typed_sum new (value_type x) (value_type y)) typed_indirection z
      (λ a. added_grows (value_type x) (value_type y) a) h

  pub measured_grows : (of : TypeTree) (z : Operand) → Is (typed_sizeof old of) z → Is (typed_sizeof new of) z
  measured_grows of z h = gives_grows (is_complete old of) (is_complete new of) t.Unsigned z (more of) h
