-- What an initialiser may be, and what it completes.
use Rattle.std.proofs.Common.{inl, inr, ◌≡◌, ℕ, ◌+◌, refl, ap, subst, sym, ◌∙◌, arith, List, [], ◌∷◌, Some, None, Bool, true, false, length, ◌⊎◌}
use Rattle.std.proofs.lemmas.Bool.{and_from, and_parts, eq-eqb, eqb-true, false≢true, or_left, or_right}
use Rattle.std.proofs.lemmas.Bool.Decides.{nat_tests}
use Rattle.std.specs.Prelude.{Option, nat_le, nat_lt, not, ◌&&◌, ◌||◌, ◌==◌, if◌then◌else◌}
use Rattle.std.proofs.lemmas.Option.{same_Some}
use Rattle.base_lists.proofs.Tests.{three_and}
use Rattle.base_lists.proofs.Numbers.{is_most, most_is}
use Rattle.c_syntax.specs.declared.expr.PrefixOperator.TheVariants as prefix
use Rattle.c_syntax.specs.ExprTree as e
use Rattle.c_syntax.specs.Words.{ExprTree, ExprList, first_token, InitialTree}
use Rattle.c_syntax.specs.StatementTree as s
use Rattle.c_types_rules.specs.declared.fault.FaultKind.{FaultKind}
use Rattle.c_types_rules.specs.declared.fault.FaultKind.TheVariants as fault
use Rattle.c_types_rules.specs.declared.layout.StructType.{StructType}
use Rattle.c_types_rules.specs.declared.operand.Operand.{Operand}
use Rattle.c_types_rules.specs.Words.{TypeTree, Char, Array, is_assignable, is_scalar, is_complete}
use Rattle.c_types_expressions.specs.declared.walk.Walk.{Walk}
use Rattle.c_types_expressions.specs.Words.{string_cells, Walked}
use Rattle.c_types_walk.specs.Initialisers.{all_initialise, cells_of_string, type_or_fault, type_if_initialised, is_scalar_initialiser, is_constant, is_number, known_length, listed_type}
use Rattle.c_types_walk.specs.Initialisers.{type_by_string, takes_items, type_by_expression, walk_initial}
use Rattle.c_types_laws.proofs.Ruled.{accepts}
use Rattle.c_types_faults.specs.Known.{Known}
use Rattle.c_types_faults.specs.Exprs.{AreOperands}
use Rattle.c_types_faults.specs.Initialisers.{AllInitialise, Completes, InitialBreaks, Initialises, IsConstant, IsConstantIfGlobal, IsNumberTree, Lists, Measures, ObjectBegins}
use Rattle.c_types_faults.specs.Initialisers.{Spells, SpellsIn}
use Rattle.base_lists.proofs.Options.{none_is_some}
use Rattle.c_types_faults.proofs.Exprs.{expr_tells, exprs_tells}
use Rattle.c_types_faults.proofs.Fitting.{accepts_back, if_false, if_true, three_true}
use Rattle.c_types_faults.proofs.Telling.{Agreed, Tells, and_then, shown, weaker}

-- constants

number_is : (x : ExprTree) → is_number x ≡ true → IsNumberTree x
number_is (e.Constant token of value) h = tt
number_is x h = absurd (false≢true h)

number_back : (x : ExprTree) → IsNumberTree x → is_number x ≡ true
number_back (e.Constant token of value) h = refl
number_back x h = absurd h

constant_is : (x : ExprTree) → is_constant x ≡ true → IsConstant x
constant_is (e.Prefix token prefix.Minus operand) h = number_is operand h
constant_is (e.Constant token of value) h = tt
constant_is (e.Strings token parts) h = tt
constant_is (e.Null token) h = tt
constant_is x h = absurd (false≢true h)

constant_back : (x : ExprTree) → IsConstant x → is_constant x ≡ true
constant_back (e.Prefix token prefix.Minus operand) h = number_back operand h
constant_back (e.Constant token of value) h = refl
constant_back (e.Strings token parts) h = refl
constant_back (e.Null token) h = refl
constant_back x h = absurd h

kept_is : (global : Bool) (x : ExprTree) → (not global || is_constant x) ≡ true → IsConstantIfGlobal global x
kept_is true x h = constant_is x h
kept_is false x h = tt

kept_back : (global : Bool) (x : ExprTree) → IsConstantIfGlobal global x → (not global || is_constant x) ≡ true
kept_back true x h = constant_back x h
kept_back false x h = refl

-- lengths

not_zero : (n : ℕ) → (n == 0) ≡ false → n ≡ 0 → ⊥
not_zero n h e = false≢true (sym h ∙ eq-eqb n 0 e)

is_not_zero : (n : ℕ) (b : Bool) → (n == 0) ≡ b → (n ≡ 0 → ⊥) → (n == 0) ≡ false
is_not_zero n true h f = absurd (f (eqb-true n 0 h))
is_not_zero n false h f = h

measures_is : (b : Bool) (known given : ℕ) → (known == 0) ≡ b → (b || nat_le given known) ≡ true → Measures known given (if b then given else known)
measures_is true known given e h = inl (eqb-true known 0 e, refl)
measures_is false known given e h = inr (not_zero known e, is_most given known h, refl)

takes_back : (known given size : ℕ) → Measures known given size → takes_items known given ≡ true
takes_back known given size (inl h) = or_left (known == 0) (nat_le given known) (eq-eqb known 0 h.0)
takes_back known given size (inr h) = or_right (known == 0) (nat_le given known) (most_is given known h.1)

length_back : (known given size : ℕ) → Measures known given size → known_length known given ≡ size
length_back known given size (inl h) = if_true (known == 0) given known (eq-eqb known 0 h.0) ∙ sym h.1
length_back known given size (inr h) = if_false (known == 0) given known (is_not_zero known (known == 0) refl h.0) ∙ sym h.2

module _ (global : Bool) where
  initialises_is : (of : TypeTree) (value : ExprTree) (x : Operand) → is_scalar_initialiser global of value x ≡ true → Initialises global of value x
  initialises_is of value x h =
      let k = three_and (is_scalar of) (is_assignable of x) (not global || is_constant value) h in (k.0, accepts of x k.1, kept_is global value k.2)

  initialises_back : (of : TypeTree) (value : ExprTree) (x : Operand) → Initialises global of value x → is_scalar_initialiser global of value x ≡ true
  initialises_back of value x h = three_true (is_scalar of) (is_assignable of x) (not global || is_constant value) h.0 (accepts_back of x h.1)
      (kept_back global value h.2)

  all_is : (of : TypeTree) (items : ExprList) (xs : List Operand) → all_initialise global of items xs ≡ true → AllInitialise global of items xs
  all_is of e.no_exprs xs h = tt
  all_is of (e.more_exprs value rest) [] h = absurd (false≢true h)
  all_is of (e.more_exprs value rest) (x ∷ xs) h =
      let k = and_parts (is_scalar_initialiser global of value x) (all_initialise global of rest xs) h in (initialises_is of value x k.0, all_is of rest xs k.1)

  all_back : (of : TypeTree) (items : ExprList) (xs : List Operand) → AllInitialise global of items xs → all_initialise global of items xs ≡ true
  all_back of e.no_exprs xs h = refl
  all_back of (e.more_exprs value rest) [] h = absurd h
  all_back of (e.more_exprs value rest) (x ∷ xs) h =
      and_from (is_scalar_initialiser global of value x) (all_initialise global of rest xs) (initialises_back of value x h.0) (all_back of rest xs h.1)

  list_by : (b : Bool) (element : TypeTree) (size : ℕ) (items : ExprList) (xs : List Operand) (u : TypeTree)
      → (is_scalar element && (takes_items size (length xs) && all_initialise global element items xs)) ≡ b
      → (if b then Some (Array element (known_length size (length xs))) else None) ≡ Some u → Lists global (Array element size) items xs u
  list_by true element size items xs u e h =
      let k = and_parts (is_scalar element) (takes_items size (length xs) && all_initialise global element items xs) e in
      let l = and_parts (takes_items size (length xs)) (all_initialise global element items xs) k.1 in (
        k.0,
        all_is element items xs l.1,
        (
          known_length size (length xs),
          (
            measures_is (size == 0) size (length xs) refl l.0,
            sym (same_Some (Array element (known_length size (length xs))) u h),
          ),
        ),
      )
  list_by false element size items xs u e h = absurd (cc)

  lists_is : (of : TypeTree) (items : ExprList) (xs : List Operand) (u : TypeTree) → listed_type global items xs of ≡ Some u → Lists global of items xs u
  lists_is (Array element size) items xs u h =
      list_by (is_scalar element && (takes_items size (length xs) && all_initialise global element items xs)) element size items xs u refl h
  lists_is of items xs u h = absurd (cc)

  pub lists_back : (of : TypeTree) (items : ExprList) (xs : List Operand) (u : TypeTree) → Lists global of items xs u → listed_type global items xs of ≡ Some u
  lists_back (Array element known) items xs u h =
      if_true (is_scalar element && (takes_items known (length xs) && all_initialise global element items xs))
      (Some (Array element (known_length known (length xs)))) None
      (and_from (is_scalar element) (takes_items known (length xs) && all_initialise global element items xs) h.0
      (and_from (takes_items known (length xs)) (all_initialise global element items xs) (takes_back known (length xs) h.2.0 h.2.1.0)
      (all_back element items xs h.1)))
      ∙ ap (λ n. Some (Array element n)) (length_back known (length xs) h.2.0 h.2.1.0) ∙ ap Some (sym h.2.1.1)
  lists_back of items xs u h = absurd h

  -- a value
  express_by : (b : Bool) (of u : TypeTree) (value : ExprTree) (x : Operand) → is_scalar_initialiser global of value x ≡ b → (if b then Some of else None) ≡ Some u
      → ObjectBegins global of value x u
  express_by true of u value x e h = inr (initialises_is of value x e, sym (same_Some of u h))
  express_by false of u value x e h = absurd (cc)

  expressed_is : (of u : TypeTree) (value : ExprTree) (x : Operand) → type_if_initialised global of value x ≡ Some u → ObjectBegins global of value x u
  expressed_is of u value x h = express_by (is_scalar_initialiser global of value x) of u value x refl h

  expressed_back : (of u : TypeTree) (value : ExprTree) (x : Operand) → (Initialises global of value x × (u ≡ of)) → type_if_initialised global of value x ≡ Some u
  expressed_back of u value x h = if_true (is_scalar_initialiser global of value x) (Some of) None (initialises_back of value x h.0) ∙ ap Some (sym h.1)

  spell_by : (b c : Bool) (cells known : ℕ) (u : TypeTree) → (known == 0) ≡ b → (b || nat_le cells (known + 1)) ≡ c
      → (if c then Some (Array Char (if b then cells else known)) else None) ≡ Some u → SpellsIn cells (Array Char known) u
  spell_by true true cells known u e f h = inl (eqb-true known 0 e, sym (same_Some (Array Char cells) u h))
  spell_by false true cells known u e f h = inr (not_zero known e, is_most cells (known + 1) f, sym (same_Some (Array Char known) u h))
  spell_by b false cells known u e f h = absurd (cc)

  spells_back : (cells known : ℕ) (u : TypeTree) → SpellsIn cells (Array Char known) u → type_by_string cells (Array Char known) ≡ Some u
  spells_back cells known u (inl h) =
      if_true (known == 0 || nat_le cells (known + 1)) (Some (Array Char (known_length known cells))) None
      (or_left (known == 0) (nat_le cells (known + 1)) (eq-eqb known 0 h.0))
      ∙ ap (λ n. Some (Array Char n)) (if_true (known == 0) cells known (eq-eqb known 0 h.0)) ∙ ap Some (sym h.1)
  spells_back cells known u (inr h) =
      if_true (known == 0 || nat_le cells (known + 1)) (Some (Array Char (known_length known cells))) None
      (or_right (known == 0) (nat_le cells (known + 1)) (most_is cells (known + 1) h.1))
      ∙ ap (λ n. Some (Array Char n)) (if_false (known == 0) cells known (is_not_zero known (known == 0) refl h.0)) ∙ ap Some (sym h.2)

  string_is : (token : ℕ) (parts : List (List ℕ)) (of u : TypeTree) (x : Operand)
      → type_by_expression global of (e.Strings token parts) x (Some (string_cells parts)) ≡ Some u → ObjectBegins global of (e.Strings token parts) x u
  string_is token parts (Array Char size) u x h = inl (spell_by (size == 0) (size == 0 || nat_le (string_cells parts) (size + 1)) (string_cells parts) size u
      refl refl h)
  string_is token parts of u x h = expressed_is of u (e.Strings token parts) x h

  string_back : (token : ℕ) (parts : List (List ℕ)) (of u : TypeTree) (x : Operand) → ObjectBegins global of (e.Strings token parts) x u
      → type_by_expression global of (e.Strings token parts) x (Some (string_cells parts)) ≡ Some u
  string_back token parts (Array Char size) u x (inl h) = spells_back (string_cells parts) size u h
  string_back token parts (Array Char size) u x (inr h) = absurd (false≢true h.0.0)
  string_back token parts of u x (inl h) = absurd h
  string_back token parts of u x (inr h) = expressed_back of u (e.Strings token parts) x h

  begins_is : (value : ExprTree) (of u : TypeTree) (x : Operand) → type_by_expression global of value x (cells_of_string value) ≡ Some u → ObjectBegins global of value x u
  begins_is (e.Strings token parts) of u x h = string_is token parts of u x h
  begins_is value of u x h = expressed_is of u value x h

  pub begins_back : (value : ExprTree) (of u : TypeTree) (x : Operand) → ObjectBegins global of value x u → type_by_expression global of value x (cells_of_string value) ≡ Some u
  begins_back (e.Strings token parts) of u x h = string_back token parts of u x h
  begins_back value of u x (inl h) = absurd h
  begins_back value of u x (inr h) = expressed_back of u value x h

completes_tells : {P : TypeTree → Type 0} {B : FaultKind → ℕ → Type 0} (token : ℕ) (o : Option TypeTree) (w : Walk) → ((u : TypeTree) → o ≡ Some u → P u)
    → (o ≡ None → B fault.Initialiser token) → Tells (type_or_fault token o w) (λ u v. P u × (shown v ≡ shown w)) B
completes_tells token None w f g = record { by = g refl }
completes_tells token (Some u) w f g = record { by = (f u refl, refl) }

onwards : {A : Type 0} {P Q : A → Walk → Type 0} {B : FaultKind → ℕ → Type 0} {m : Walked A} → Tells m P B → ((a : A) (v : Walk) → P a v → Q a v) → Tells m Q B
onwards h f = weaker h (λ j at b. b) f

module _ (k : Known) (global : Bool) where
  pub initial_tells : (of : TypeTree) (initial : Option InitialTree) (w : Walk) → Agreed k (shown w)
      → Tells (walk_initial global of initial w) (λ u v. Completes k global of initial u × (shown v ≡ shown w)) (InitialBreaks k global of initial)
  initial_tells of None w g = record { by = (refl, refl) }
  initial_tells of (Some (s.Value value)) w g = and_then (expr_tells k value w g) (λ j at h. inl h) (λ x v p.
      onwards (completes_tells {P = ObjectBegins global of value x} (first_token value) (type_by_expression global of value x (cells_of_string value)) v
      (λ u h. begins_is global value of u x h)
      (λ h. inr (x, (p.0, (refl, refl, λ u b. none_is_some (type_by_expression global of value x (cells_of_string value)) u h (begins_back global value of u x b))))))
      (λ u z q. ((x, (p.0, q.0)), q.1 ∙ p.1)))
  initial_tells of (Some (s.Braced token items comma)) w g = and_then (exprs_tells k items [] w g) (λ j at h. inl h) (λ xs v p.
      onwards (completes_tells {P = Lists global of items xs} token (listed_type global items xs of) v
      (λ u h. lists_is global of items xs u h)
      (λ h. inr (
        xs,
        (
          subst (AreOperands k items) (sym p.0.1.0) p.0.1.1,
          (refl, refl, λ u b. none_is_some (listed_type global items xs of) u h (lists_back global of items xs u b)),
        ),
      )))
      (λ u z q. ((xs, (subst (AreOperands k items) (sym p.0.1.0) p.0.1.1, q.0)), q.1 ∙ p.1)))

-- An array whose length its initialiser gives keeps its elements, and any other object keeps its type.

abbrev pub SameOrOpen : TypeTree → TypeTree → Type 0
SameOrOpen (Array element known) u = ((known ≡ 0) × ((size : ℕ) × (u ≡ Array element size))) ⊎ (u ≡ Array element known)
SameOrOpen of u = u ≡ of

same_type_here : (of u : TypeTree) → u ≡ of → SameOrOpen of u
same_type_here (Array element known) u h = inr h
same_type_here of u h = h

measured_so : (element : TypeTree) (known given size : ℕ) (u : TypeTree) → Measures known given size → u ≡ Array element size
    → SameOrOpen (Array element known) u
measured_so element known given size u (inl m) h = inl (m.0, (size, h))
measured_so element known given size u (inr m) h = inr (h ∙ ap (λ n. Array element n) m.2)

spelled_so : (cells : ℕ) (of u : TypeTree) → SpellsIn cells of u → SameOrOpen of u
spelled_so cells (Array Char known) u (inl h) = inl (h.0, (cells, h.1))
spelled_so cells (Array Char known) u (inr h) = inr h.2
spelled_so cells of u h = absurd h

string_so : (value : ExprTree) (of u : TypeTree) → Spells value of u → SameOrOpen of u
string_so (e.Strings token parts) of u h = spelled_so _ of u h
string_so value of u h = absurd h

lists_so : (global : Bool) (of : TypeTree) (items : ExprList) (xs : List Operand) (u : TypeTree) → Lists global of items xs u → SameOrOpen of u
lists_so global (Array element known) items xs u h = measured_so element known (length xs) h.2.0 u h.2.1.0 h.2.1.1
lists_so global of items xs u h = absurd h

pub completes_so : (k : Known) (global : Bool) (of : TypeTree) (initial : InitialTree) (u : TypeTree) → Completes k global of (Some initial) u → SameOrOpen of u
completes_so k global of (s.Value value) u (x, h) = by h.1
  where
    by : ObjectBegins global of value x u → SameOrOpen of u
    by (inl b) = string_so value of u b
    by (inr b) = same_type_here of u b.1
completes_so k global of (s.Braced token items comma) u (xs, h) = lists_so global of items xs u h.1

-- what has a length keeps it

no_length : {A : Type 0} (ss : List StructType) (element : TypeTree) (known : ℕ) → known ≡ 0 → is_complete ss (Array element known) ≡ true → A
no_length ss element known e h =
    let k = and_parts (nat_lt 0 known) (is_complete ss element) h in absurd (grind (arith, nat_tests, k.0, e))

complete_same : (ss : List StructType) (of u : TypeTree) → SameOrOpen of u → is_complete ss of ≡ true → u ≡ of
complete_same ss (Array element known) u (inl h) c = no_length ss element known h.0 c
complete_same ss (Array element known) u (inr h) c = h
complete_same ss of u h c = h

pub completes_same : (k : Known) (global : Bool) (ss : List StructType) (of : TypeTree) (initial : Option InitialTree) (u : TypeTree)
    → Completes k global of initial u → is_complete ss of ≡ true → u ≡ of
completes_same k global ss of None u h c = h
completes_same k global ss of (Some initial) u h c = complete_same ss of u (completes_so k global of initial u h) c
