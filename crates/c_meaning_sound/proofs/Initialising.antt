-- The initialiser of a variable: its parts fit, and it gives an array its length.
use Rattle.std.proofs.Common.{◌≡◌, ℕ, ◌≤◌, refl, ap, subst, sym, arith, List, [], ◌∷◌, ◌++◌, Some, None, ◌+◌, Bool, true, false, length, length-append}
use Rattle.std.specs.Prelude.{Option, IfSome, IsSome, nat_le, not, is_some, ◌==◌, ◌&&◌, ◌||◌, if◌then◌else◌}
use Rattle.std.specs.List.{AllByRecursion}
use Rattle.std.specs.Option.{option_map, option_and_then}
use Rattle.std.proofs.lemmas.Bool.{false≢true, true≢false, and_parts}
use Rattle.std.proofs.lemmas.Option.{same_Some}
use Rattle.c_types_expressions.proofs.Given.{Gives, and_then}
use Rattle.c_syntax.specs.Words.{SourceTree, ExprTree, ExprList, InitialTree, first_token, InitialAt, ShapedInitial, Kinds, a_sign, braced_kinds, comma_kinds}
use Rattle.c_syntax.specs.Words.{expr_kinds, exprs_kinds, initial_kinds, optional_kinds}
use Rattle.c_syntax.specs.ExprTree as e
use Rattle.c_syntax.specs.StatementTree as s
use Rattle.c_syntax.specs.declared.token.Sign.TheVariants as sign
use Rattle.c_types_rules.specs.declared.operand.Operand.{Operand}
use Rattle.c_types_rules.specs.TypeTree as t
use Rattle.c_types_rules.specs.Words.{TypeTree, is_assignable, is_scalar}
use Rattle.c_types_expressions.specs.declared.walk.Walk.{Walk}
use Rattle.c_types.specs.Answers.{declared_at, note_at}
use Rattle.c_types_walk.specs.Initialisers.{all_initialise, cells_of_string, type_or_fault, type_if_initialised, is_scalar_initialiser, is_char, is_char_array, is_constant, length_of, listed_type}
use Rattle.c_types_walk.specs.Initialisers.{type_by_string, takes_items, type_by_expression, walk_initial, with_length}
use Rattle.c_meaning.specs.declared.value_type.ValueType.{ValueType}
use Rattle.c_meaning.specs.Words.{is_null_constant, computed_type, element_type, Literal, strings_in, strings_initial, strings_of_all, text_of_string, token_of}
use Rattle.c_meaning_laws.specs.Rules.{Accepts, IsScalar}
use Rattle.c_meaning_laws.specs.TypedStatements.{TypedElements, TypedInitial, TypedValue}
use Rattle.c_meaning_laws.proofs.Ruled.{assignable_taken, known}
use Rattle.c_meaning_sound.proofs.Expressions.{Lies, exprs_good, walk_good}
use Rattle.c_meaning_sound.proofs.Forming.{Ended}
use Rattle.c_meaning_sound.proofs.Noting.{Part, Ready, facts, none, nothing_noted, ready_in, so, wider}
use Rattle.c_meaning_sound.proofs.Operands.{Fits, Matched, accepted}
use Rattle.c_meaning_sound.proofs.Texts.{Spelled, numbered}

-- what an initialiser completes
pub length_back : (of : TypeTree) → with_length (length_of of) of ≡ of
length_back (t.Array element size) = refl
length_back (t.Pointer to) = refl
length_back t.Void = refl
length_back t.Char = refl
length_back t.Int = refl
length_back t.Unsigned = refl
length_back (t.Struct tag) = refl

pub record Lengthened (of u : TypeTree) : Type 0 where
  pub size : ℕ
  pub is : u ≡ with_length size of

pub as_it_is : (of : TypeTree) → Lengthened of of
as_it_is of = record { size = length_of of; is = sym (length_back of) }

expressed_by : (b : Bool) (of u : TypeTree) → (if b then Some of else None) ≡ Some u → Lengthened of u
expressed_by true of u h = subst (Lengthened of) (same_Some of u h) (as_it_is of)
expressed_by false of u h = cc

spelled_by : (b : Bool) (n : ℕ) (of u : TypeTree) → (if b then Some (with_length n of) else None) ≡ Some u → Lengthened of u
spelled_by true n of u h = record { size = n; is = sym (same_Some (with_length n of) u h) }
spelled_by false n of u h = cc

module _ (global : Bool) where
  text_or : (b : Bool) (cells : ℕ) (of u : TypeTree) (value : ExprTree) (a : Operand) → (if b then type_by_string cells of else type_if_initialised global of value a) ≡ Some u
      → Lengthened of u
  text_or true cells of u value a h = spelled_by (length_of of == 0 || nat_le cells (length_of of + 1)) _ of u h
  text_or false cells of u value a h = expressed_by (is_scalar_initialiser global of value a) of u h

  pub valued_length : (o : Option ℕ) (of u : TypeTree) (value : ExprTree) (a : Operand) → type_by_expression global of value a o ≡ Some u → Lengthened of u
  valued_length None of u value a h = expressed_by (is_scalar_initialiser global of value a) of u h
  valued_length (Some cells) of u value a h = text_or (is_char_array of) cells of u value a h

  -- what an initialiser that isn't refused is
  expressed_fits : (p q r : Bool) (of u : TypeTree) → (if p && q && r then Some of else None) ≡ Some u → (p ≡ true) × (q ≡ true)
  expressed_fits true true r of u h = (refl, refl)
  expressed_fits true false r of u h = cc
  expressed_fits false q r of u h = cc

  text_fits : (b : Bool) (cells : ℕ) (of u : TypeTree) (value : ExprTree) (a : Operand) → b ≡ false
      → (if b then type_by_string cells of else type_if_initialised global of value a) ≡ Some u → (is_scalar of ≡ true) × (is_assignable of a ≡ true)
  text_fits true cells of u value a e h = absurd (true≢false e)
  text_fits false cells of u value a e h = expressed_fits (is_scalar of) (is_assignable of a) (not global || is_constant value) of u h

  value_fits : (o : Option ℕ) (of u : TypeTree) (value : ExprTree) (a : Operand) → is_char_array of ≡ false → type_by_expression global of value a o ≡ Some u
      → (is_scalar of ≡ true) × (is_assignable of a ≡ true)
  value_fits None of u value a e h = expressed_fits (is_scalar of) (is_assignable of a) (not global || is_constant value) of u h
  value_fits (Some cells) of u value a e h = text_fits (is_char_array of) cells of u value a e h

  -- an array that takes a value: its elements are characters, and the value is a string
  array_text : (b : Bool) (cells : ℕ) (element u : TypeTree) (size : ℕ) (value : ExprTree) (a : Operand) → is_char element ≡ b
      → (if b then type_by_string cells (t.Array element size) else type_if_initialised global (t.Array element size) value a) ≡ Some u → is_char element ≡ true
  array_text true cells element u size value a e h = e
  array_text false cells element u size value a e h = cc

  array_value : (o : Option ℕ) (element u : TypeTree) (size : ℕ) (value : ExprTree) (a : Operand) → type_by_expression global (t.Array element size) value a o ≡ Some u
      → (is_char element ≡ true) × IsSome o
  array_value None element u size value a h = cc
  array_value (Some cells) element u size value a h = (array_text (is_char element) cells element u size value a refl h, refl)

-- the tokens of an initialiser, behind its `=`
abbrev pub equals_kinds : Option InitialTree → Kinds
equals_kinds x = optional_kinds (λ y. a_sign sign.Equal ++ initial_kinds y) x

pub braced_long : (items : ExprList) (comma : Bool) → length (exprs_kinds items) + 1 ≤ length (braced_kinds (exprs_kinds items ++ comma_kinds comma))
braced_long items comma = omega (
  arith,
  length-append (exprs_kinds items ++ comma_kinds comma) (a_sign sign.RightBrace),
  length-append (exprs_kinds items) (comma_kinds comma),
)

pub completed : {Q : TypeTree → Walk → Type 0} (token : ℕ) (o : Option TypeTree) (w : Walk) → ((u : TypeTree) → o ≡ Some u → Q u w) → Gives
    (type_or_fault token o w) Q
completed token None w h = record { by = tt }
completed token (Some u) w h = record { by = h u refl }

module _ (tree : SourceTree) (z : Walk) (ends : Ended tree z) where
  pub spelled_lies : (xs : List Literal) → AllByRecursion (Spelled tree) xs → AllByRecursion (Lies tree z ends) xs
  spelled_lies [] h = tt
  spelled_lies (x ∷ xs) h = ((numbered _ _ _ h.0.0, h.0.1), spelled_lies xs h.1)

module _ (tree : SourceTree) (z : Walk) (ends : Ended tree z) (global : Bool) where
  -- a string has a text
  string_text : (value : ExprTree) → IsSome (cells_of_string value) → AllByRecursion (Spelled tree) (strings_in value) → IsSome (text_of_string (facts tree z) value)
  string_text (e.Strings token parts) h l = ap is_some l.0.0
  string_text x h l = absurd (false≢true h)

  -- elements of an array
  initialised_by : (p q r : Bool) → (p && q && r) ≡ true → (p ≡ true) × (q ≡ true)
  initialised_by true true r h = (refl, refl)
  initialised_by true false r h = cc
  initialised_by false q r h = cc

  pub elements_typed : (c : ℕ) (element : TypeTree) (u : Option ValueType) (items : ExprList) (own : List Operand) → u ≡ known z.structs element
      → Matched tree z c items own → all_initialise global element items own ≡ true → TypedElements (facts tree z) none c u items
  elements_typed c element u e.no_exprs own k m h = tt
  elements_typed c element u (e.more_exprs x rest) [] k m h = absurd m
  elements_typed c element u (e.more_exprs x rest) (a ∷ own) k m h =
      let parts : (is_scalar_initialiser global element x a ≡ true) × (all_initialise global element rest own ≡ true) =
      and_parts (is_scalar_initialiser global element x a) (all_initialise global element rest own) h in
      let fits : (is_scalar element ≡ true) × (is_assignable element a ≡ true) = initialised_by (is_scalar element) (is_assignable element a)
      (not global || is_constant x) parts.0 in (
        m.0,
        subst (λ o. Accepts (facts tree z) o x) (sym k) (accepted tree z (known z.structs element) x a m.2 m.1 (assignable_taken z.structs element a fits.1)),
        elements_typed c element u rest own k m.3 parts.1,
      )

  scalar_known : (of : TypeTree) → is_scalar of ≡ true → IsScalar (known z.structs of)
  scalar_known t.Void h = absurd (false≢true h)
  scalar_known (t.Array element size) h = absurd (false≢true h)
  scalar_known (t.Struct tag) h = absurd (false≢true h)
  scalar_known of h = tt

  char_scalar : (of : TypeTree) → is_char of ≡ true → is_scalar of ≡ true
  char_scalar t.Char h = refl
  char_scalar of h = absurd (false≢true h)

  -- what is known of the variable
  declared_as : (token : ℕ) (of : TypeTree) → declared_at z token ≡ Some of → (facts tree z).declared_at token ≡ known z.structs of
  declared_as token of h = ap (option_map (computed_type z.structs)) h

  elements_as : (token : ℕ) (of : TypeTree) → declared_at z token ≡ Some of → (facts tree z).element_at token ≡ element_type z.structs of
  elements_as token of h = ap (option_and_then (element_type z.structs)) h

  -- a value of a scalar variable
  plain_typed : (c token : ℕ) (of : TypeTree) (value : ExprTree) (a : Operand) → is_scalar of ≡ true → declared_at z token ≡ Some of
      → Fits tree z c value → note_at z.types (token_of value) ≡ Some a.ctype → is_null_constant value ≡ a.null → is_assignable of a ≡ true
      → TypedValue (facts tree z) none c token ((facts tree z).declared_at token) value
  plain_typed c token of value a p d f n k h =
      subst (λ o. TypedValue (facts tree z) none c token o value) (sym (declared_as token of d)) (by_type of p (
        f,
        subst (λ o. Accepts (facts tree z) o value) (sym (declared_as token of d))
            (accepted tree z (known z.structs of) value a k n (assignable_taken z.structs of a h)),
        tt,
      ))
    where
      by_type : (of : TypeTree) → is_scalar of ≡ true → Fits tree z c value × Accepts (facts tree z) ((facts tree z).declared_at token) value × Unit {0}
          → TypedValue (facts tree z) none c token (known z.structs of) value
      by_type t.Char p h = h
      by_type t.Int p h = h
      by_type t.Unsigned p h = h
      by_type (t.Pointer to) p h = h
      by_type t.Void p h = absurd (false≢true p)
      by_type (t.Array element size) p h = absurd (false≢true p)
      by_type (t.Struct tag) p h = absurd (false≢true p)

  pub value_typed : (c token n : ℕ) (of u : TypeTree) (value : ExprTree) (a : Operand) → type_by_expression global of value a (cells_of_string value) ≡ Some u
      → declared_at z token ≡ Some (with_length n of) → Fits tree z c value → note_at z.types (token_of value) ≡ Some a.ctype
      → is_null_constant value ≡ a.null → AllByRecursion (Spelled tree) (strings_in value)
      → TypedValue (facts tree z) none c token ((facts tree z).declared_at token) value
  value_typed c token n (t.Array element size) u value a h d f q k l =
      let is : (is_char element ≡ true) × IsSome (cells_of_string value) = array_value global (cells_of_string value) element u size value a h in
      subst (λ o. TypedValue (facts tree z) none c token o value) (sym (declared_as token (t.Array element n) d)) (
        subst IsScalar (sym (elements_as token (t.Array element n) d)) (scalar_known element (char_scalar element is.0)),
        string_text value is.1 l,
      )
  value_typed c token n t.Void u value a h d f q k l = absurd (false≢true (value_fits global (cells_of_string value) t.Void u value a refl h).0)
  value_typed c token n (t.Struct tag) u value a h d f q k l =
      absurd (false≢true (value_fits global (cells_of_string value) (t.Struct tag) u value a refl h).0)
  value_typed c token n of u value a h d f q k l = plain_typed c token of value a refl d f q k (value_fits global (cells_of_string value) of u value a refl h).1

  -- a braced list
  pub record Items (element : TypeTree) (items : ExprList) (own : List Operand) (size : ℕ) (u : TypeTree) : Type 0 where
    pub scalar : is_scalar element ≡ true
    pub all : all_initialise global element items own ≡ true
    pub long : Lengthened (t.Array element size) u

  items_by : (p q r : Bool) (n : ℕ) (element : TypeTree) (items : ExprList) (own : List Operand) (size : ℕ) (u : TypeTree) → is_scalar element ≡ p
      → all_initialise global element items own ≡ r → (if p && (q && r) then Some (t.Array element n) else None) ≡ Some u → Items element items own size u
  items_by true true true n element items own size u e f h =
      record { scalar = e; all = f; long = record { size = n; is = sym (same_Some (t.Array element n) u h) } }
  items_by true true false n element items own size u e f h = cc
  items_by true false r n element items own size u e f h = cc
  items_by false q r n element items own size u e f h = cc

  pub listed_items : (element u : TypeTree) (size : ℕ) (items : ExprList) (own : List Operand) → listed_type global items own (t.Array element size) ≡ Some u
      → Items element items own size u
  listed_items element u size items own h =
      items_by (is_scalar element) (takes_items size (length own)) (all_initialise global element items own) _ element items own size u refl refl h

  pub listed_length : (of u : TypeTree) (items : ExprList) (own : List Operand) → listed_type global items own of ≡ Some u → Lengthened of u
  listed_length (t.Array element size) u items own h = (listed_items element u size items own h).long
  listed_length of u items own h = cc

  pub listed_typed : (c token n at : ℕ) (comma : Bool) (of u : TypeTree) (items : ExprList) (own : List Operand) → listed_type global items own of ≡ Some u
      → declared_at z token ≡ Some (with_length n of) → Matched tree z c items own
      → TypedInitial (facts tree z) none c token (Some (s.Braced at items comma))
  listed_typed c token n at comma (t.Array element size) u items own h d m =
      let fits : Items element items own size u = listed_items element u size items own h in
      let known_as : (facts tree z).element_at token ≡ known z.structs element = elements_as token (t.Array element n) d in (
        subst IsScalar (sym known_as) (scalar_known element fits.scalar),
        elements_typed c element
            ((facts tree z).element_at token) items own known_as m fits.all,
      )
  listed_typed c token n at comma of u items own h d m = cc

  -- an initialiser of the variable whose name stands at the token, which gives it this length
  pub record Initialised (at hi token : ℕ) (x : Option InitialTree) (of : TypeTree) (w : Walk) (u : TypeTree) (v : Walk) : Type 0 where
    pub long : Lengthened of u
    pub part : Part tree z at hi w v (λ c. (n : ℕ) → declared_at z token ≡ Some (with_length n of) → TypedInitial (facts tree z) none c token x)

  pub initial_good : (x : Option InitialTree) (at token : ℕ) (of : TypeTree) (w : Walk) → IfSome x ShapedInitial → IfSome x (InitialAt (at + 1))
      → AllByRecursion (Spelled tree) (strings_initial x) → Ready tree z at (at + length (equals_kinds x)) w
      → Gives (walk_initial global of x w) (Initialised at (at + length (equals_kinds x)) token x of w)
  initial_good None at token of w s p l r =
      record { by = record { long = as_it_is of; part = nothing_noted at (at + length (equals_kinds None)) w (λ c n d. tt) } }
  initial_good (Some (s.Value value)) at token of w q p l r =
      let long : length (equals_kinds (Some (s.Value value))) ≡ 1 + length (expr_kinds value) = omega arith in
      and_then (walk_good tree z ends value (at + 1) w q.1 p (spelled_lies tree z ends (strings_in value) l)
      (ready_in r (at + 1) (at + 1 + length (expr_kinds value)) (omega arith) (omega (arith, long)))) (λ a v g.
      completed (first_token value) (type_by_expression global of value a (cells_of_string value)) v (λ u h. record {
        long = valued_length global (cells_of_string value) of u value a h;
        part = so (wider g.part (omega arith) (omega (arith, long))) (λ c f n d. value_typed c token n of u value a h d f.0 f.1 g.null l);
      }))
  initial_good (Some (s.Braced brace items comma)) at token of w q p l r =
      let long : length (exprs_kinds items) + 2 ≤ length (equals_kinds (Some (s.Braced brace items comma))) = omega (arith, braced_long items comma) in
      and_then (exprs_good tree z ends items (at + 1 + 1) [] w q.1 p.1 (spelled_lies tree z ends (strings_of_all items) l)
      (ready_in r (at + 1 + 1) (at + 1 + 1 + length (exprs_kinds items)) (omega arith) (omega (arith, long)))) (λ xs v g.
      completed brace (listed_type global items xs of) v (λ u h.
      let own : listed_type global items g.own of ≡ Some u = subst (λ ys. listed_type global items ys of ≡ Some u) g.is h in
      record {
        long = listed_length of u items g.own own;
        part = so (wider g.part (omega arith) (omega (arith, long))) (λ c m n d. listed_typed c token n brace comma of u items g.own own d m);
      }))
