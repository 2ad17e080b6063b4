-- What stands in the cells of a global: numbers in their kinds' ranges, null, and strings of the text.
use Rattle.std.proofs.Common.{◌≡◌, ℕ, zero, suc, ◌+◌, ◌<◌, ◌≤◌, refl, subst, sym, ◌∙◌, arith, Bool, true, false, List, [], ◌∷◌, ◌++◌, Option, Some, None}
use Rattle.std.proofs.Common.{Result, Ok, Err, length}
use Rattle.std.specs.Prelude.{IsTrue, ℤ, drop, map, neg_ℤ, pos, replicate, slice_get, sum_by, ◌==◌, if◌then◌else◌}
use Rattle.std.specs.List.{AllByRecursion, flat_map}
use Rattle.std.specs.Option.{option_map, unwrap_or}
use Rattle.std.proofs.lemmas.List.{length-map}
use Rattle.std.proofs.lemmas.Option.{same_Some}
use Rattle.base_lists.proofs.Lists.{bytes_long}
use Rattle.base_lists.proofs.Every.{all_first, all_join, all_second}
use Rattle.cbi_base.specs.declared.scalar.Kind.TheVariants as kind
use Rattle.cbi_base.specs.declared.scalar.Scalar.{Scalar}
use Rattle.cbi_base.specs.declared.scalar.Scalar.TheVariants.{Number, Place, Null, Undefined}
use Rattle.cbi_base.specs.declared.trap.Trap.{Trap}
use Rattle.cbi_base.specs.declared.trap.Trap.TheVariants as trap
use Rattle.cbi_base.specs.Words.{lies_in, applied_to_one, as_number, converted_number, char_of}
use Rattle.c_values.proofs.Ranges.{wrapped-LiesIn}
use Rattle.c_syntax.specs.declared.expr.PrefixOperator.TheVariants as prefix
use Rattle.c_syntax.specs.declared.token.TokenKind.{TokenKind}
use Rattle.c_syntax.specs.ExprTree as e
use Rattle.c_syntax.specs.Words.{ExprTree, ExprList, SourceTree, expr_kinds, exprs_kinds, more_exprs_kinds, KindFits}
use Rattle.c_types_rules.specs.declared.layout.Member.{Member}
use Rattle.c_types_rules.specs.declared.layout.StructType.{StructType}
use Rattle.c_types_rules.specs.TypeTree as t
use Rattle.c_types_rules.specs.TypeTree.{TypeTree}
use Rattle.c_types_expressions.specs.declared.walk.Walk.{Walk}
use Rattle.c_meaning.specs.declared.conversion.Conversion.{Conversion}
use Rattle.c_meaning.specs.declared.conversion.Conversion.TheVariants.{Keep, To, Misfit}
use Rattle.c_meaning.specs.declared.value_type.ValueType.{ValueType}
use Rattle.c_meaning.specs.Words.{as_wanted, conversion, conversion_result, is_null_as, Sense, wanted_value, before_all, before_cells, cells_of_structs, constant_value}
use Rattle.c_meaning.specs.Words.{constant_values, given_by, empty_world, spelled_cells, zero_cells, zeros_of, facts_of, Literal, string_literals, number_from, strings_in, expr}
use Rattle.c_meaning.specs.Words.{text_of_string, text_place, type_of, Out, Go, Stop, World, answer_or_trap, bind}
use Rattle.lower_globals.specs.Cells.{given_scalar, negated_if_some, converted_if_some}
use Rattle.lower_globals.proofs.ConstantLaws.{as_negative}
use Rattle.c_meaning_laws.specs.TypedText.{GlobalItems, IsConstant}
use Rattle.c_meaning_sound.proofs.Texts.{Spelled}
use Rattle.lower_fits.proofs.Initials.{bytes_in, items_in}

-- how many globals there are before a run, and how many strings behind them
pub record Firsts : Type 0 where
  pub globals : ℕ
  pub texts : ℕ

-- a value that a global's cell may have: a place is that of one of the strings, at its first cell
abbrev pub IsCell : Firsts → Scalar → Type 0
IsCell n (Number kind value) = IsTrue (lies_in kind value)
IsCell n (Place number offset) = (offset ≡ 0) × (n.globals ≤ number) × (number < n.globals + n.texts)
IsCell n Null = Unit {0}
IsCell n Undefined = ⊥

abbrev pub AllCells : Firsts → List Scalar → Type 0
AllCells n cells = AllByRecursion (IsCell n) cells

-- if there is a value, it is such a one
abbrev IfCell : Firsts → Option Scalar → Type 0
IfCell n None = Unit {0}
IfCell n (Some v) = IsCell n v

-- zeros

-- some cells behind others
cells_two : (n : Firsts) (xs ys : List Scalar) → AllCells n xs → AllCells n ys → AllCells n (xs ++ ys)
cells_two n xs ys h k = all_join (IsCell n) xs ys h k

-- cells that are repeated
repeated_cells : (n : Firsts) (m : ℕ) (cells : List Scalar) → AllCells n cells → AllCells n (flat_map (λ c. c) (replicate m cells))
repeated_cells n zero cells h = tt
repeated_cells n (suc m) cells h = cells_two n cells (flat_map (λ c. c) (replicate m cells)) h (repeated_cells n m cells h)

-- those of the struct with this number
slot_cells : (n : Firsts) (zeros : List (List Scalar)) (tag : ℕ) → AllByRecursion (AllCells n) zeros → AllCells n (unwrap_or (slice_get zeros tag) [])
slot_cells n [] tag h = tt
slot_cells n (z ∷ zeros) zero h = h.0
slot_cells n (z ∷ zeros) (suc tag) h = slot_cells n zeros tag h.1

module _ (n : Firsts) (zeros : List (List Scalar)) (all : AllByRecursion (AllCells n) zeros) where
  -- zeros of a type
  type_zeros : (of : TypeTree) → AllCells n (zero_cells zeros of)
  type_zeros t.Void = tt
  type_zeros (t.Pointer to) = (tt, tt)
  type_zeros (t.Array element m) = repeated_cells n m (zero_cells zeros element) (type_zeros element)
  type_zeros (t.Struct tag) = slot_cells n zeros tag all
  type_zeros of = (refl, tt)

  -- zeros of members
  members_zeros : (ms : List Member) → AllCells n (flat_map (λ m. zero_cells zeros m.ctype) ms)
  members_zeros [] = tt
  members_zeros (m ∷ ms) = cells_two n (zero_cells zeros m.ctype) (flat_map (λ m. zero_cells zeros m.ctype) ms) (type_zeros m.ctype) (members_zeros ms)

-- zeros of structs
structs_zeros : (n : Firsts) (structs : List StructType) (before : List (List Scalar)) → AllByRecursion (AllCells n) before
    → AllByRecursion (AllCells n) (cells_of_structs structs before)
structs_zeros n [] before h = h
structs_zeros n (s ∷ structs) before h =
    structs_zeros n structs (before ++ flat_map (λ m. zero_cells before m.ctype) s.members ∷ [])
    (all_join (AllCells n) before (flat_map (λ m. zero_cells before m.ctype) s.members ∷ []) h (members_zeros n before h s.members, tt))

-- zeros may stand in the cells of a global
pub zeros_cells : (n : Firsts) (structs : List StructType) (of : TypeTree) → AllCells n (zeros_of structs of)
zeros_cells n structs of = type_zeros n (cells_of_structs structs []) (structs_zeros n structs [] tt) of

-- all but the first ones
pub dropped_cells : (n : Firsts) (m : ℕ) (cells : List Scalar) → AllCells n cells → AllCells n (drop m cells)
dropped_cells n zero cells h = h
dropped_cells n (suc m) [] h = tt
dropped_cells n (suc m) (c ∷ cells) h = dropped_cells n m cells h.1

-- the bytes of a string
pub bytes_cells : (n : Firsts) (bytes : List ℕ) → AllCells n (map char_of bytes)
bytes_cells n [] = tt
bytes_cells n (b ∷ bytes) = (wrapped-LiesIn kind.Char (pos b), bytes_cells n bytes)

-- constants

-- what a conversion makes of a value
converted_cell : (n : Firsts) (c : Conversion) (v : Scalar) → IsCell n v → IfCell n (given_scalar (conversion_result c v))
unfolding converted_number
converted_cell n Keep v h = h
converted_cell n (To k) (Number from value) h = wrapped-LiesIn k value
converted_cell n (To k) Undefined h = absurd h
converted_cell n (To k) (Place number offset) h = tt
converted_cell n (To k) Null h = tt
converted_cell n Misfit v h = tt

-- what a conversion makes of a value, if there is one
wanted_cell : (n : Firsts) (c : Conversion) (o : Option Scalar) → IfCell n o → IfCell n (converted_if_some c o)
wanted_cell n c None h = tt
wanted_cell n c (Some v) h = converted_cell n c v h

-- the negative of an `int`, where it is one
fitted_cell : (n : Firsts) (value : ℤ) (b : Bool) → lies_in kind.Int value ≡ b → IfCell n (given_scalar (as_number kind.Int (if b then Ok value else Err trap.Overflow)))
fitted_cell n value true h = h
fitted_cell n value false h = tt

-- the negative of a value, if there is one
negated_cell : (n : Firsts) (o : Option Scalar) → IfCell n o → IfCell n (negated_if_some o)
unfolding applied_to_one
negated_cell n (Some (Number kind.Int value)) h = fitted_cell n (neg_ℤ value) (lies_in kind.Int (neg_ℤ value)) refl
negated_cell n (Some (Number kind.Unsigned value)) h = wrapped-LiesIn kind.Unsigned (neg_ℤ value)
negated_cell n (Some Undefined) h = absurd h
negated_cell n o h = tt

-- what an operation answers
answered_cell : (n : Firsts) (r : Result Scalar Trap) (w : World) → IfCell n (given_scalar r) → IfCell n (given_by (answer_or_trap r w))
answered_cell n (Ok v) w h = h
answered_cell n (Err t) w h = tt

-- a value as one of a type
bound_cell : (n : Firsts) (o : Out Scalar) (c : Conversion) → IfCell n (given_by o) → IfCell n (given_by (bind o (as_wanted c)))
bound_cell n (Go v w) c h = answered_cell n (conversion_result c v) w (converted_cell n c v h)
bound_cell n (Stop outcome w) c h = tt

-- the same, or null
sensed_cell : (n : Firsts) (b : Bool) (own of : Option ValueType) (m : Sense) → IfCell n (given_by (m.value empty_world))
    → IfCell n (given_by (wanted_value b own of m empty_world))
sensed_cell n true own of m h = tt
sensed_cell n false own of m h = bound_cell n (m.value empty_world) (conversion own of) h

-- the number of a string is this one, or a later one
number_by : (b : Bool) (k m number : ℕ) (o : Option ℕ) → (if b then Some k else o) ≡ Some number → (o ≡ Some number → number < suc k + m) → number < k + suc m
number_by true k m number o h f = omega (arith, same_Some k number h)
number_by false k m number o h f = omega (arith, f h)

-- the number of a string is below their count
number_below : (k token : ℕ) (xs : List Literal) (number : ℕ) → number_from k token xs ≡ Some number → number < k + length xs
number_below k token [] number h = absurd (cc)
number_below k token (x ∷ xs) number h =
    number_by (x.token == token) k (length xs) number (number_from (suc k) token xs) h (λ q. number_below (suc k) token xs number q)

-- of a list of expressions the tokens behind the first one
pub rest_kinds : (P : TokenKind → Type 0) (rest : ExprList) → AllByRecursion P (more_exprs_kinds rest) → AllByRecursion P (exprs_kinds rest)
rest_kinds P e.no_exprs h = tt
rest_kinds P (e.more_exprs x rest) h = h.1

-- if there are cells, they are so many, and of a global
abbrev pub IfGiven : Firsts → ℕ → Option (List Scalar) → Type 0
IfGiven n count None = Unit {0}
IfGiven n count (Some cells) = AllCells n cells × (length cells ≡ count)

-- a cell before others
before_given : (n : Firsts) (m : ℕ) (o : Option Scalar) (cells : Option (List Scalar)) → IfCell n o → IfGiven n m cells → IfGiven n (m + 1) (before_cells o cells)
before_given n m None cells h k = tt
before_given n m (Some v) None h k = tt
before_given n m (Some v) (Some cells) h k = ((h, k.0), omega (arith, k.1))

-- a cell alone
alone_given : (n : Firsts) (o : Option Scalar) → IfCell n o → IfGiven n 1 (option_map (λ v. v ∷ []) o)
alone_given n None h = tt
alone_given n (Some v) h = ((h, tt), refl)

module _ (tree : SourceTree) (z : Walk) where
  -- the globals and the strings of the text
  abbrev pub objects_of : Firsts
  objects_of = record { globals = z.globals; texts = length (string_literals tree) }

  -- the place of a string
  placed_cell : (o : Option ℕ) → ((number : ℕ) → o ≡ Some number → number < length (string_literals tree))
      → IfCell objects_of (given_by (text_place (facts_of tree z) o empty_world))
  placed_cell None h = tt
  placed_cell (Some number) h = (refl, omega arith, omega (arith, h number refl))

  -- the value of a constant, as one of a type
  pub constant_cell : (of : Option ValueType) (x : ExprTree) → IsConstant (facts_of tree z) x → AllByRecursion KindFits (expr_kinds x)
      → IfCell objects_of (constant_value (facts_of tree z) of x)
  constant_cell of (e.Constant token k value) h f =
      sensed_cell objects_of (is_null_as of (e.Constant token k value)) (type_of (facts_of tree z) (e.Constant token k value)) of
      (expr (before_all (facts_of tree z)) (e.Constant token k value)) f.0.1
  constant_cell of (e.Prefix token prefix.Minus (e.Constant at k value)) h f =
      let first : Conversion = conversion ((facts_of tree z).type_at at) ((facts_of tree z).type_at token) in
      subst (IfCell objects_of) (sym (as_negative (facts_of tree z) of token at k value))
      (wanted_cell objects_of (conversion ((facts_of tree z).type_at token) of) (negated_if_some (given_scalar (conversion_result first (Number k value))))
      (negated_cell objects_of (given_scalar (conversion_result first (Number k value))) (converted_cell objects_of first (Number k value) f.1.0.1)))
  constant_cell of (e.Strings token parts) h f =
      sensed_cell objects_of (is_null_as of (e.Strings token parts)) (type_of (facts_of tree z) (e.Strings token parts)) of
      (expr (before_all (facts_of tree z)) (e.Strings token parts))
      (placed_cell (number_from 0 token (string_literals tree)) (λ number q. omega (arith, number_below 0 token (string_literals tree) number q)))
  constant_cell of (e.Null token) h f =
      sensed_cell objects_of (is_null_as of (e.Null token)) (type_of (facts_of tree z) (e.Null token)) of (expr (before_all (facts_of tree z)) (e.Null token)) tt
  constant_cell of x h f = absurd h

  -- the values of several constants
  pub constants_given : (of : Option ValueType) (xs : ExprList) → GlobalItems (facts_of tree z) of xs → AllByRecursion KindFits (exprs_kinds xs)
      → IfGiven objects_of (items_in xs) (constant_values (facts_of tree z) of xs)
  constants_given of e.no_exprs h f = (tt, refl)
  constants_given of (e.more_exprs x rest) h f =
      before_given objects_of (items_in rest) (constant_value (facts_of tree z) of x) (constant_values (facts_of tree z) of rest)
      (constant_cell of x h.0 (all_first KindFits (expr_kinds x) (more_exprs_kinds rest) f))
      (constants_given of rest h.2 (rest_kinds KindFits rest (all_second KindFits (expr_kinds x) (more_exprs_kinds rest) f)))

  -- the value of one constant, in a cell alone
  pub value_given : (of : Option ValueType) (x : ExprTree) → IsConstant (facts_of tree z) x → AllByRecursion KindFits (expr_kinds x)
      → IfGiven objects_of 1 (option_map (λ v. v ∷ []) (constant_value (facts_of tree z) of x))
  value_given of x h f = alone_given objects_of (constant_value (facts_of tree z) of x) (constant_cell of x h f)

  -- the bytes of a string, without its closing zero
  pub text_given : (x : ExprTree) → AllByRecursion (Spelled tree) (strings_in x) → IfGiven objects_of (bytes_in x) (spelled_cells (text_of_string (facts_of tree z) x))
  text_given (e.Strings token parts) h =
      let bytes : List ℕ = flat_map (λ bytes. bytes) parts in
      subst (λ o. IfGiven objects_of (sum_by length parts) (spelled_cells o)) (sym h.0.0)
      (bytes_cells objects_of bytes, length-map bytes char_of ∙ bytes_long parts)
  text_given x h = tt
