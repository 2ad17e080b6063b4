-- What stands in a global before a run is what a program's global can hold: numbers, null, and strings of the text.
use Rattle.std.proofs.Common.{◌≡◌, ℕ, zero, suc, refl, ap, ap₂, arith, Bool, true, false, List, [], ◌∷◌, ◌++◌, Option, Some, None, Result, Ok, Err, length, map}
use Rattle.std.specs.Prelude.{ℤ, drop, neg_ℤ, pos, if◌then◌else◌}
use Rattle.std.specs.List.{AllByRecursion}
use Rattle.std.specs.Option.{option_and_then, option_map}
use Rattle.base_lists.proofs.Every.{all_join}
use Rattle.cbi_base.specs.declared.operators.Unary.TheVariants as unary
use Rattle.cbi_base.specs.declared.scalar.Kind.{Kind}
use Rattle.cbi_base.specs.declared.scalar.Kind.TheVariants as kind
use Rattle.cbi_base.specs.declared.scalar.Scalar.{Scalar}
use Rattle.cbi_base.specs.declared.scalar.Scalar.TheVariants.{Number, Place, Null, Undefined}
use Rattle.cbi_base.specs.declared.trap.Trap.{Trap}
use Rattle.cbi_base.specs.declared.trap.Trap.TheVariants as trap
use Rattle.cbi_base.specs.Words.{lies_in, wrapped_value, Object, applied_to_one, as_number, converted_number, char_of}
use Rattle.c_syntax.specs.declared.expr.PrefixOperator.TheVariants as prefix
use Rattle.c_syntax.specs.ExprTree as e
use Rattle.c_syntax.specs.Words.{ExprTree, ExprList, InitialTree, StartTree}
use Rattle.c_syntax.specs.StatementTree as s
use Rattle.c_types_rules.specs.declared.layout.StructType.{StructType}
use Rattle.c_types_rules.specs.TypeTree.{TypeTree}
use Rattle.c_types_expressions.specs.declared.walk.Walk.{Walk}
use Rattle.c_types.specs.Answers.{declared_at}
use Rattle.flow.specs.declared.program.Cell.{Cell}
use Rattle.flow.specs.declared.program.Cell.TheVariants as cell
use Rattle.flow.specs.declared.program.Global.{Global}
use Rattle.flow.specs.declared.program.Text.{Text}
use Rattle.flow.specs.Statics as statics
use Rattle.flow.specs.Statics.{cell_value}
use Rattle.c_meaning.specs.declared.conversion.Conversion.{Conversion}
use Rattle.c_meaning.specs.declared.conversion.Conversion.TheVariants.{Keep, To, Misfit}
use Rattle.c_meaning.specs.declared.value_type.ValueType.{ValueType}
use Rattle.c_meaning.specs.declared.value_type.ValueType.TheVariants as type
use Rattle.c_meaning.specs.Words.{as_wanted, conversion, conversion_result, is_null_as, Sense, one_operand, wanted_value, Facts, before_all, before_cells, constant_value}
use Rattle.c_meaning.specs.Words.{constant_values, filled_up, given_by, given_to, global_object, global_objects, empty_world, object_with, one_more, spelled_cells}
use Rattle.c_meaning.specs.Words.{static_object, zeros_of, computed_type, element_type, expr, text_of_string, text_place, type_of, Out, Go, Stop, World}
use Rattle.c_meaning.specs.Words.{answer_or_trap, bind}
use Rattle.c_meaning_laws.specs.TypedText.{GlobalInitial, GlobalItems, IsConstant, TypedGlobal, TypedGlobals}
use Rattle.lower_fits.proofs.Values.{AllCells, Firsts, IsCell, zeros_cells}

-- without a string there is no place
abbrev no_strings : Firsts
no_strings = record { globals = 0; texts = 0 }

-- a program's cell holds the value, behind so many globals
abbrev pub HasCell : ℕ → Scalar → Type 0
HasCell globals v = (c : Cell) × (cell_value globals c ≡ v)

abbrev pub AllHave : ℕ → List Scalar → Type 0
AllHave globals cells = AllByRecursion (HasCell globals) cells

-- if there is a value
abbrev IfHas : ℕ → Option Scalar → Type 0
IfHas globals None = Unit {0}
IfHas globals (Some v) = HasCell globals v

abbrev IfHave : ℕ → Option (List Scalar) → Type 0
IfHave globals None = Unit {0}
IfHave globals (Some cells) = AllHave globals cells

abbrev IfGives : ℕ → Result Scalar Trap → Type 0
IfGives globals (Ok v) = HasCell globals v
IfGives globals (Err t) = Unit {0}

module _ (g : ℕ) where
  number : (k : Kind) (n : ℤ) → HasCell g (Number k n)
  number k n = (cell.Number k n, refl)

  -- a value that isn't a place
  no_place : (v : Scalar) → IsCell no_strings v → HasCell g v
  no_place (Number k n) is = number k n
  no_place (Place object offset) is = absurd (omega (arith, is.2))
  no_place Null is = (cell.Null, refl)
  no_place Undefined is = absurd is

  no_places : (cells : List Scalar) → AllCells no_strings cells → AllHave g cells
  no_places [] are = tt
  no_places (v ∷ cells) are = (no_place v are.0, no_places cells are.1)

  -- what a conversion gives
  converted_has : (c : Conversion) (v : Scalar) → HasCell g v → IfGives g (conversion_result c v)
  unfolding converted_number
  converted_has Keep v h = h
  converted_has (To k) (Number from n) h = number k (wrapped_value k n)
  converted_has (To k) (Place object offset) h = tt
  converted_has (To k) Null h = tt
  converted_has (To k) Undefined h = tt
  converted_has Misfit v h = tt

  answered_has : (r : Result Scalar Trap) (w : World) → IfGives g r → IfHas g (given_by (answer_or_trap r w))
  answered_has (Ok v) w h = h
  answered_has (Err t) w h = tt

  -- a value as one of a type
  bound_has : (o : Out Scalar) (c : Conversion) → IfHas g (given_by o) → IfHas g (given_by (bind o (as_wanted c)))
  bound_has (Go v w) c h = answered_has (conversion_result c v) w (converted_has c v h)
  bound_has (Stop outcome w) c h = tt

  sensed_has : (is_null : Bool) (own of : Option ValueType) (m : Sense) → IfHas g (given_by (m.value empty_world)) →
      IfHas g (given_by (wanted_value is_null own of m empty_world))
  sensed_has true own of m h = (cell.Null, refl)
  sensed_has false own of m h = bound_has (m.value empty_world) (conversion own of) h

  -- the negative of a number
  fitted_has : (n : ℤ) (b : Bool) → IfGives g (as_number kind.Int (if b then Ok n else Err trap.Overflow))
  fitted_has n true = number kind.Int n
  fitted_has n false = tt

  applied_has : (k : Kind) (n : ℤ) → IfGives g (applied_to_one unary.Neg (Number k n))
  unfolding applied_to_one
  applied_has kind.Char n = tt
  applied_has kind.Int n = fitted_has (neg_ℤ n) (lies_in kind.Int (neg_ℤ n))
  applied_has kind.Unsigned n = number kind.Unsigned (wrapped_value kind.Unsigned (neg_ℤ n))

  negated_has : (k : Kind) (n : ℤ) → IfHas g (given_by (one_operand (Some (type.Number k)) (Some (type.Number k)) unary.Neg (Number k n) empty_world))
  negated_has kind.Char n = answered_has (applied_to_one unary.Neg (Number kind.Char n)) empty_world (applied_has kind.Char n)
  negated_has kind.Int n = answered_has (applied_to_one unary.Neg (Number kind.Int n)) empty_world (applied_has kind.Int n)
  negated_has kind.Unsigned n = answered_has (applied_to_one unary.Neg (Number kind.Unsigned n)) empty_world (applied_has kind.Unsigned n)

  before_have : (v : Option Scalar) (cells : Option (List Scalar)) → IfHas g v → IfHave g cells → IfHave g (before_cells v cells)
  before_have None cells h k = tt
  before_have (Some v) None h k = tt
  before_have (Some v) (Some cells) h k = (h, k)

  alone_have : (v : Option Scalar) → IfHas g v → IfHave g (option_map (λ x. x ∷ []) v)
  alone_have None h = tt
  alone_have (Some v) h = (h, tt)

  bytes_have : (bytes : List ℕ) → AllHave g (map char_of bytes)
  bytes_have [] = tt
  bytes_have (b ∷ bytes) = (number kind.Char (wrapped_value kind.Char (pos b)), bytes_have bytes)

  spelled_have : (text : Option Text) → IfHave g (spelled_cells text)
  spelled_have None = tt
  spelled_have (Some text) = bytes_have text.bytes

  dropped_have : (n : ℕ) (cells : List Scalar) → AllHave g cells → AllHave g (drop n cells)
  dropped_have zero cells h = h
  dropped_have (suc n) [] h = tt
  dropped_have (suc n) (v ∷ cells) h = dropped_have n cells h.1

  -- the program's cells that hold the values
  holding : (cells : List Scalar) → AllHave g cells → (cs : List Cell) × (map (cell_value g) cs ≡ cells)
  holding [] h = ([], refl)
  holding (v ∷ cells) h =
      let rest = holding cells h.1 in
      (h.0.0 ∷ rest.0, ap₂ (λ x xs. x ∷ xs) h.0.1 rest.1)

module _ (facts : Facts) where
  abbrev count : ℕ
  count = facts.statics.globals

  placed_has : (o : Option ℕ) → IfHas count (given_by (text_place facts o empty_world))
  placed_has None = tt
  placed_has (Some n) = (cell.Text n, refl)

  -- the value of a constant, as one of a type
  constant_has : (of : Option ValueType) (x : ExprTree) → IsConstant facts x → IfHas count (constant_value facts of x)
  constant_has of (e.Constant token k n) h =
      sensed_has count (is_null_as of (e.Constant token k n)) (type_of facts (e.Constant token k n)) of (expr (before_all facts) (e.Constant token k n))
      (number count k n)
  constant_has of (e.Prefix token prefix.Minus (e.Constant at k n)) h =
      sensed_has count (is_null_as of (e.Prefix token prefix.Minus (e.Constant at k n))) (type_of facts (e.Prefix token prefix.Minus (e.Constant at k n))) of
      (expr (before_all facts) (e.Prefix token prefix.Minus (e.Constant at k n))) (rw h.1 (rw h.2 (negated_has count k n)))
  constant_has of (e.Strings token parts) h =
      sensed_has count (is_null_as of (e.Strings token parts)) (type_of facts (e.Strings token parts)) of (expr (before_all facts) (e.Strings token parts))
      (placed_has (facts.text_at token))
  constant_has of (e.Null token) h =
      sensed_has count (is_null_as of (e.Null token)) (type_of facts (e.Null token)) of (expr (before_all facts) (e.Null token)) (cell.Null, refl)
  constant_has of x h = absurd h

  constants_have : (of : Option ValueType) (xs : ExprList) → GlobalItems facts of xs → IfHave count (constant_values facts of xs)
  constants_have of e.no_exprs h = tt
  constants_have of (e.more_exprs x rest) h =
      before_have count (constant_value facts of x) (constant_values facts of rest) (constant_has of x h.0) (constants_have of rest h.2)

  -- what an initialiser gives
  given_have : (of : ValueType) (element : Option ValueType) (x : Option InitialTree) → GlobalInitial facts of element x →
      IfHave count (given_to facts of element x)
  given_have of element None h = tt
  given_have (type.Array size) element (Some (s.Value x)) h = spelled_have count (text_of_string facts x)
  given_have of element (Some (s.Braced token items comma)) h = constants_have element items h
  given_have of element (Some (s.Value x)) h = alone_have count (constant_value facts (Some of) x) (constant_has (Some of) x h.0)

  -- if there is an object, a global of a program begins with it
  abbrev IfGlobal : Option Object → Type 0
  IfGlobal None = Unit {0}
  IfGlobal (Some object) = (one : Global) × (statics.object_of_global count one ≡ object)

  filled_global : (structs : List StructType) (of : TypeTree) (o : Option (List Scalar)) → IfHave count o →
      IfGlobal (option_map (λ given. static_object (filled_up (zeros_of structs of) given)) o)
  filled_global structs of None h = tt
  filled_global structs of (Some given) h =
      let zeros : List Scalar = zeros_of structs of in
      let all : AllHave count (given ++ drop (length given) zeros) =
      all_join (HasCell count) given (drop (length given) zeros) h
      (dropped_have count (length given) zeros (no_places count zeros (zeros_cells no_strings structs of))) in
      let held = holding count (given ++ drop (length given) zeros) all in
      (record { cells = held.0 }, ap static_object held.1)

  typed_global : (w : Walk) (x : StartTree) (of : Option TypeTree) → TypedGlobal facts w x of → IfGlobal (option_and_then (object_with facts w x) of)
  typed_global w x None h = absurd h
  typed_global w x (Some of) h =
      filled_global w.structs of (given_to facts (computed_type w.structs of) (element_type w.structs of) x.initial)
      (given_have (computed_type w.structs of) (element_type w.structs of) x.initial h)

  -- if there are objects, so many globals of a program begin with them
  abbrev pub IfGlobals : ℕ → Option (List Object) → Type 0
  IfGlobals n None = Unit {0}
  IfGlobals n (Some objects) = (all : List Global) × (map (statics.object_of_global count) all ≡ objects) × (length all ≡ n)

  one_more_global : (n : ℕ) (o : Option Object) (os : Option (List Object)) → IfGlobal o → IfGlobals n os → IfGlobals (suc n) (one_more o os)
  one_more_global n None os h k = tt
  one_more_global n (Some object) None h k = tt
  one_more_global n (Some object) (Some objects) h k = (h.0 ∷ k.0, ap₂ (λ x xs. x ∷ xs) h.1 k.1, ap suc k.2)

  pub typed_globals : (w : Walk) (xs : List StartTree) → TypedGlobals facts w xs → IfGlobals (length xs) (global_objects facts w xs)
  typed_globals w [] h = ([], refl, refl)
  typed_globals w (x ∷ xs) h =
      one_more_global (length xs) (global_object facts w x) (global_objects facts w xs) (typed_global w x (declared_at w x.declarator.name_token) h.0)
      (typed_globals w xs h.1)
