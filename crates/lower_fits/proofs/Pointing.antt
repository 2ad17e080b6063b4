-- What the operand of an operator points to, what its result points to.
use Rattle.std.proofs.Common.{◌≡◌, ℕ, refl, List, [], ◌∷◌, Some, None, Ok, Err, Bool, true, false}
use Rattle.std.specs.Prelude.{Option, ◌&&◌, ◌||◌, if◌then◌else◌}
use Rattle.std.specs.List.{AllByRecursion}
use Rattle.std.proofs.lemmas.Bool.{false≢true}
use Rattle.cbi_base.specs.declared.operators.Binary.{Binary}
use Rattle.cbi_base.specs.declared.operators.Binary.TheVariants as op
use Rattle.cbi_base.specs.declared.scalar.Kind.{Kind}
use Rattle.cbi_base.specs.declared.scalar.Kind.TheVariants as kind
use Rattle.c_syntax.specs.declared.expr.PrefixOperator.{PrefixOperator}
use Rattle.c_syntax.specs.declared.expr.PrefixOperator.TheVariants as prefix
use Rattle.c_syntax.specs.ExprTree as e
use Rattle.c_syntax.specs.Words.{ExprTree, ExprList, SourceTree}
use Rattle.c_types_rules.specs.declared.fault.FaultKind.TheVariants as fault
use Rattle.c_types_rules.specs.declared.function.FunctionType.{FunctionType}
use Rattle.c_types_rules.specs.declared.layout.StructType.{StructType}
use Rattle.c_types_rules.specs.declared.library.Library.{Library}
use Rattle.c_types_rules.specs.declared.library.Library.TheVariants as library
use Rattle.c_types_rules.specs.declared.operand.Operand.{Operand}
use Rattle.c_types_rules.specs.TypeTree as t
use Rattle.c_types_rules.specs.Words.{TypeTree, same_type, is_assignable, typed_simple_assignment, fits_parameters, is_left_side, pointers_join, common_type, decayed_type}
use Rattle.c_types_rules.specs.Words.{parenthesized_operand, is_arithmetic, is_pointer, is_struct, is_unsigned, is_void, is_void_pointer, null_of, of_kind, place_of}
use Rattle.c_types_rules.specs.Words.{promoted_type, string_of, value_of, OperandOrFault, ◌>>=◌, typed_call, fits_format, library_called, one_scalar, typed_sum, both_arithmetic}
use Rattle.c_types_rules.specs.Words.{cast_to, typed_binary_operation, value_if_operands_fit, is_movable, is_scalar_value, typed_sizeof, typed_increment, typed_conditional, typed_alternatives, typed_subscript, joined_pointer}
use Rattle.c_types_rules.specs.Words.{typed_indirection, pointed_type, typed_comma, is_complete}
use Rattle.c_types_rules.specs.Conversions as rule
use Rattle.c_types_expressions.specs.declared.walk.Walk.{Walk}
use Rattle.c_types_expressions.specs.ExprWalk.{typed_assignment, typed_chain_operation, concatenated_strings, format_of, formatted_call, typed_prefix_operation}
use Rattle.c_meaning_sound.proofs.Forming.{decayed_deep}
use Rattle.c_meaning_sound.proofs.Noting.{Deep}

module _ (tree : SourceTree) (z : Walk) where
  -- pointers to what the operand's value points to have steps, and so have pointers to the operand, where it is a place
  pub record Steady (x : Operand) : Type 0 where
    pub deep : Deep tree z (decayed_type x.ctype)
    pub place : x.place ≡ true → Deep tree z x.ctype

  -- so it is with the operand that a rule answers
  abbrev pub Leads : OperandOrFault → Type 0
  Leads (Ok x) = Steady x
  Leads (Err kind) = Unit {0}

  -- a value of a type
  pub value_steady : (of : TypeTree) → Deep tree z of → Steady (value_of of)
  value_steady of d = record { deep = decayed_deep tree z of d; place = λ e. absurd (false≢true e) }

  -- a place of a type
  pub place_steady : (of : TypeTree) → Deep tree z of → Steady (place_of of)
  place_steady of d = record { deep = decayed_deep tree z of d; place = λ e. d }

  -- one of two answers
  if_leads : (b : Bool) (r q : OperandOrFault) → Leads r → Leads q → Leads (if b then r else q)
  if_leads true r q h k = h
  if_leads false r q h k = k

  -- an answer that rests on another one
  bind_leads : (r : OperandOrFault) (next : Operand → OperandOrFault) → Leads r → ((x : Operand) → Steady x → Leads (next x)) → Leads (r >>= next)
  bind_leads (Ok x) next h k = k x h
  bind_leads (Err kind) next h k = tt

  -- a value of a type, or a fault
  gives_leads : (b : Bool) (of : TypeTree) → Deep tree z of → Leads (value_if_operands_fit b of)
  gives_leads b of d = if_leads b (Ok (value_of of)) (Err fault.Operands) (value_steady of d) tt

  -- one of two types
  if_deep : (b : Bool) (of other : TypeTree) → Deep tree z of → Deep tree z other → Deep tree z (if b then of else other)
  if_deep true of other d k = d
  if_deep false of other d k = k

  -- the common type of two operands points to nothing
  common_deep : (a b : TypeTree) → Deep tree z (common_type a b)
  common_deep a b = if_deep (is_unsigned a || is_unsigned b) t.Unsigned t.Int tt tt

  -- a promoted type points to what the type points to
  promoted_deep : (of : TypeTree) → Deep tree z of → Deep tree z (promoted_type of)
  promoted_deep t.Char d = tt
  promoted_deep of d = d

  -- the type of a constant points to nothing
  kind_deep : (k : Kind) → Deep tree z (decayed_type (of_kind k))
  kind_deep kind.Char = tt
  kind_deep kind.Int = tt
  kind_deep kind.Unsigned = tt

  -- a sum is a number, or one of its operands
  added_leads : (structs : List StructType) (a b : TypeTree) → Deep tree z a → Deep tree z b → Leads (typed_sum structs a b)
  added_leads structs a b d k = if_leads (both_arithmetic a b) (Ok (value_of (common_type a b)))
      (if is_arithmetic b then value_if_operands_fit (is_movable structs a) a else value_if_operands_fit (is_arithmetic a && is_movable structs b) b)
      (value_steady (common_type a b) (common_deep a b))
      (if_leads (is_arithmetic b) (value_if_operands_fit (is_movable structs a) a) (value_if_operands_fit (is_arithmetic a && is_movable structs b) b)
      (gives_leads (is_movable structs a) a d) (gives_leads (is_arithmetic a && is_movable structs b) b k))

  -- a difference is a number, or its left operand
  subtracted_leads : (p q m s : Bool) (a b : TypeTree) → Deep tree z a
      → Leads (if p then Ok (value_of (common_type a b)) else if q then value_if_operands_fit m a else value_if_operands_fit s t.Int)
  subtracted_leads p q m s a b d = if_leads p (Ok (value_of (common_type a b))) (if q then value_if_operands_fit m a else value_if_operands_fit s t.Int)
      (value_steady (common_type a b) (common_deep a b)) (if_leads q (value_if_operands_fit m a) (value_if_operands_fit s t.Int) (gives_leads m a d) (gives_leads s t.Int tt))

  -- what an operator of two operands gives
  combined_leads : (structs : List StructType) (o : Binary) (x y : Operand) → Steady x → Steady y → Leads (typed_binary_operation structs o x y)
  combined_leads structs op.Add x y f g = added_leads structs (rule.value_type x) (rule.value_type y) f.deep g.deep
  combined_leads structs op.Sub x y f g = subtracted_leads (both_arithmetic (rule.value_type x) (rule.value_type y)) (is_arithmetic (rule.value_type y))
      (is_movable structs (rule.value_type x)) (is_movable structs (rule.value_type x) && same_type (rule.value_type x) (rule.value_type y)) (rule.value_type x)
      (rule.value_type y) f.deep
  combined_leads structs op.Shl x y f g = gives_leads _ (promoted_type (rule.value_type x)) (promoted_deep (rule.value_type x) f.deep)
  combined_leads structs op.Shr x y f g = gives_leads _ (promoted_type (rule.value_type x)) (promoted_deep (rule.value_type x) f.deep)
  combined_leads structs op.Mul x y f g = gives_leads _ (common_type (rule.value_type x) (rule.value_type y)) (common_deep (rule.value_type x) (rule.value_type y))
  combined_leads structs op.Div x y f g = gives_leads _ (common_type (rule.value_type x) (rule.value_type y)) (common_deep (rule.value_type x) (rule.value_type y))
  combined_leads structs op.Rem x y f g = gives_leads _ (common_type (rule.value_type x) (rule.value_type y)) (common_deep (rule.value_type x) (rule.value_type y))
  combined_leads structs op.And x y f g = gives_leads _ (common_type (rule.value_type x) (rule.value_type y)) (common_deep (rule.value_type x) (rule.value_type y))
  combined_leads structs op.Or x y f g = gives_leads _ (common_type (rule.value_type x) (rule.value_type y)) (common_deep (rule.value_type x) (rule.value_type y))
  combined_leads structs op.Xor x y f g = gives_leads _ (common_type (rule.value_type x) (rule.value_type y)) (common_deep (rule.value_type x) (rule.value_type y))
  combined_leads structs o x y f g = gives_leads _ t.Int tt

  -- an operator of a chain
  pub chained_leads : (structs : List StructType) (o : Option Binary) (x y : Operand) → Steady x → Steady y → Leads (typed_chain_operation structs o x y)
  chained_leads structs None x y f g = gives_leads (is_scalar_value x && is_scalar_value y) t.Int tt
  chained_leads structs (Some o) x y f g = combined_leads structs o x y f g

  -- an assignment has the type of its left side
  assigned_leads : (target x : Operand) → Steady target → Leads (typed_simple_assignment target x)
  assigned_leads target x f = if_leads (is_assignable (rule.value_type target) x)
      (if is_left_side target then Ok (value_of (rule.value_type target)) else Err fault.NoPlace) (Err fault.Operands)
      (if_leads (is_left_side target) (Ok (value_of (rule.value_type target))) (Err fault.NoPlace) (value_steady (rule.value_type target) f.deep) tt) tt

  -- so has a compound one
  pub assigning_leads : (structs : List StructType) (o : Option Binary) (target x : Operand) → Steady target → Steady x → Leads (typed_assignment structs o target x)
  assigning_leads structs None target x f g = assigned_leads target x f
  assigning_leads structs (Some o) target x f g = bind_leads (typed_binary_operation structs o target x) (typed_simple_assignment target) (combined_leads structs o target x f g)
      (λ y h. assigned_leads target y f)

  -- `++` and `--` give the type of their operand
  pub stepped_leads : (structs : List StructType) (x : Operand) → Steady x → Leads (typed_increment structs x)
  stepped_leads structs x f = if_leads (is_arithmetic (rule.value_type x) || is_movable structs (rule.value_type x))
      (if is_left_side x then Ok (value_of (rule.value_type x)) else Err fault.NoPlace) (Err fault.Operands)
      (if_leads (is_left_side x) (Ok (value_of (rule.value_type x))) (Err fault.NoPlace) (value_steady (rule.value_type x) f.deep) tt) tt

  -- `sizeof` gives a number
  pub measured_leads : (structs : List StructType) (of : TypeTree) → Leads (typed_sizeof structs of)
  measured_leads structs of = gives_leads (is_complete structs of) t.Unsigned tt

  -- `&` leads to a place
  address_leads : (b : Bool) (of : TypeTree) → (b ≡ true → Deep tree z of) → Leads (if b then Ok (value_of (t.Pointer of)) else Err fault.NoPlace)
  address_leads true of d = value_steady (t.Pointer of) (d refl)
  address_leads false of d = tt

  -- `*` gives what is pointed to
  pointed_leads : (of : TypeTree) → Deep tree z of → Leads (pointed_type of)
  pointed_leads (t.Pointer to) d = if_leads (is_void to) (Err fault.Operands) (Ok (place_of to)) tt (place_steady to d)
  pointed_leads of d = tt

  -- an operator before its operand
  pub prefixed_leads : (structs : List StructType) (o : PrefixOperator) (x : Operand) → Steady x → Leads (typed_prefix_operation structs o x)
  prefixed_leads structs prefix.Increment x f = stepped_leads structs x f
  prefixed_leads structs prefix.Decrement x f = stepped_leads structs x f
  prefixed_leads structs prefix.SizeOf x f = measured_leads structs x.ctype
  prefixed_leads structs prefix.Address x f = address_leads x.place x.ctype f.place
  prefixed_leads structs prefix.Indirection x f = pointed_leads (rule.value_type x) f.deep
  prefixed_leads structs prefix.Not x f = gives_leads _ t.Int tt
  prefixed_leads structs o x f = gives_leads _ (promoted_type (rule.value_type x)) (promoted_deep (rule.value_type x) f.deep)

  -- `[ ]` gives what a sum points to
  pub indexed_leads : (structs : List StructType) (x y : Operand) → Steady x → Steady y → Leads (typed_subscript structs x y)
  indexed_leads structs x y f g = bind_leads (typed_sum structs (rule.value_type x) (rule.value_type y)) typed_indirection
      (added_leads structs (rule.value_type x) (rule.value_type y) f.deep g.deep) (λ a h. pointed_leads (rule.value_type a) h.deep)

  -- a cast gives the type that it names
  pub cast_leads : (of : TypeTree) (x : Operand) → Deep tree z of → Leads (cast_to of x)
  cast_leads of x d = gives_leads (is_void of || is_assignable of x) of d

  -- the pointer that `? :` gives is one of its two operands
  pointer_deep : (x y : Operand) → Steady x → Steady y → Deep tree z (joined_pointer x y)
  pointer_deep x y f g = if_deep (x.null && is_pointer (rule.value_type y)) (rule.value_type y)
      (if y.null || is_void_pointer (rule.value_type x) then rule.value_type x else rule.value_type y) g.deep
      (if_deep (y.null || is_void_pointer (rule.value_type x)) (rule.value_type x) (rule.value_type y) f.deep g.deep)

  -- the operand that is chosen
  either_leads : (x y : Operand) → Steady x → Steady y → Leads (typed_alternatives x y)
  either_leads x y f g = if_leads (both_arithmetic (rule.value_type x) (rule.value_type y)) (Ok (value_of (common_type (rule.value_type x) (rule.value_type y))))
      (if is_void (rule.value_type x) && is_void (rule.value_type y) then Ok (value_of t.Void) else value_if_operands_fit (pointers_join x y) (joined_pointer x y))
      (value_steady (common_type (rule.value_type x) (rule.value_type y)) (common_deep (rule.value_type x) (rule.value_type y)))
      (if_leads (is_void (rule.value_type x) && is_void (rule.value_type y)) (Ok (value_of t.Void)) (value_if_operands_fit (pointers_join x y) (joined_pointer x y))
      (value_steady t.Void tt) (gives_leads (pointers_join x y) (joined_pointer x y) (pointer_deep x y f g)))

  -- what `? :` gives, which looks at its condition first
  pub chosen_leads : (c x y : Operand) → Steady x → Steady y → Leads (typed_conditional c x y)
  chosen_leads c x y f g = if_leads (is_scalar_value c) (typed_alternatives x y) (Err fault.Operands) (either_leads x y f g) tt

  -- a comma expression has the type of its last operand's value
  pub sequenced_leads : (of : TypeTree) (xs : List Operand) → Deep tree z of → AllByRecursion Steady xs → Leads (typed_comma of xs)
  sequenced_leads of [] d h = value_steady of d
  sequenced_leads of (x ∷ xs) d h = if_leads (is_struct x.ctype) (Err fault.Operands) (typed_comma (rule.value_type x) xs) tt
      (sequenced_leads (rule.value_type x) xs h.0.deep h.1)

  -- a call of a function gives its result
  pub called_leads : (f : FunctionType) (xs : List Operand) → Deep tree z f.gives → Leads (typed_call f xs)
  called_leads f xs d = if_leads (fits_parameters f.params xs) (Ok (value_of f.gives)) (Err fault.Arguments) (value_steady f.gives d) tt

  -- a call of a function of the library gives its result
  pub library_leads : (f : Library) (xs : List Operand) → Leads (library_called f xs)
  library_leads library.Getchar xs = called_leads (record { gives = t.Int; params = [] }) xs tt
  library_leads library.Putchar xs = called_leads (record { gives = t.Int; params = t.Int ∷ [] }) xs tt
  library_leads library.Puts xs = called_leads (record { gives = t.Int; params = t.Pointer t.Char ∷ [] }) xs tt
  library_leads library.Malloc xs = called_leads (record { gives = t.Pointer t.Void; params = t.Unsigned ∷ [] }) xs tt
  library_leads library.Free xs = called_leads (record { gives = t.Void; params = t.Pointer t.Void ∷ [] }) xs tt
  library_leads library.Exit xs = called_leads (record { gives = t.Void; params = t.Int ∷ [] }) xs tt
  library_leads library.Abort xs = called_leads (record { gives = t.Void; params = [] }) xs tt
  library_leads library.Assert xs = if_leads (one_scalar xs) (Ok (value_of t.Void)) (Err fault.Arguments) (value_steady t.Void tt) tt
  library_leads library.Printf xs = tt

  -- a `printf` with a format gives a number
  formatted_leads : (parts : List (List ℕ)) (xs : List Operand) → Leads (formatted_call parts xs)
  formatted_leads parts [] = tt
  formatted_leads parts (x ∷ xs) = if_leads (fits_format (concatenated_strings parts) xs) (Ok (value_of t.Int)) (Err fault.Arguments) (value_steady t.Int tt) tt

  -- whatever its first argument is
  pub format_leads : (arguments : ExprList) (xs : List Operand) → Leads (format_of arguments xs)
  format_leads e.no_exprs xs = tt
  format_leads (e.more_exprs (e.Strings token parts) rest) xs = formatted_leads parts xs
  format_leads (e.more_exprs x rest) xs = tt

  -- a constant is a number
  pub constant_steady : (k : Kind) (n : Bool) → Steady (record { ctype = of_kind k; place = false; null = n })
  constant_steady k n = record { deep = kind_deep k; place = λ e. absurd (false≢true e) }

  -- a string points to characters
  pub string_steady : (cells : ℕ) → Steady (string_of cells)
  string_steady cells = record { deep = tt; place = λ e. absurd (false≢true e) }

  -- NULL points to nothing known
  pub null_steady : Steady null_of
  null_steady = record { deep = tt; place = λ e. absurd (false≢true e) }

  -- parentheses
  pub enclosed_steady : (x : Operand) → Steady x → Steady (parenthesized_operand x)
  enclosed_steady x f = record { deep = f.deep; place = f.place }
