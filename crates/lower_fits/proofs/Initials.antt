-- What initialises a global: constants, no more than its type has cells. The walk through them leaves the notes of variables as they were.
use Rattle.std.proofs.Common.{◌≡◌, ℕ, ◌+◌, ◌≤◌, refl, ap, subst, sym, ◌∙◌, arith, Bool, true, false, List, [], ◌∷◌, ◌++◌, Option, Some, None, Ok, Err}
use Rattle.std.proofs.Common.{length, length-append}
use Rattle.std.specs.Prelude.{nat_le, nat_lt, sum_by, ◌==◌, ◌&&◌, ◌||◌, if◌then◌else◌}
use Rattle.std.proofs.lemmas.Bool.{false≢true, leb-true, and_parts}
use Rattle.std.proofs.lemmas.Bool.Decides.{nat_tests}
use Rattle.std.proofs.lemmas.Option.{same_Some}
use Rattle.c_syntax.specs.declared.expr.PrefixOperator.{PrefixOperator}
use Rattle.c_syntax.specs.ExprTree as e
use Rattle.c_syntax.specs.Words.{ExprTree, ExprList, first_token, InitialTree}
use Rattle.c_syntax.specs.StatementTree as s
use Rattle.c_types_rules.specs.declared.layout.StructType.{StructType}
use Rattle.c_types_rules.specs.declared.operand.Operand.{Operand}
use Rattle.c_types_rules.specs.Words.{is_assignable, is_scalar, OperandOrFault, is_complete, TypeTree}
use Rattle.c_types_rules.specs.TypeTree as t
use Rattle.c_types_expressions.specs.declared.walk.Walk.{Walk}
use Rattle.c_types_expressions.specs.Words.{operand_noted, string_cells, walk_expr, walk_exprs, Walked, Fine, Faulty}
pub use Rattle.c_types_expressions.specs.Room.{items_in}
use Rattle.c_types_walk.specs.Initialisers.{all_initialise, cells_of_string, type_or_fault, is_scalar_initialiser, is_constant, is_minus, is_number, listed_type, type_by_expression, walk_initial}
use Rattle.c_types.proofs.Noted.{Gives, gives_more, gives_then}
use Rattle.c_meaning_sound.proofs.Constant.{AllConstant, all_constant}

-- how many bytes an expression has, if it is a string
abbrev pub bytes_in : ExprTree → ℕ
bytes_in (e.Strings token parts) = sum_by length parts
bytes_in x = 0

-- an initialiser gives no more cells to a variable of the type than it has
abbrev pub Takes : TypeTree → Option InitialTree → Type 0
Takes of None = Unit {0}
Takes (t.Array element size) (Some (s.Value value)) = (element ≡ t.Char) × (bytes_in value ≤ size)
Takes of (Some (s.Value value)) = is_scalar of ≡ true
Takes (t.Array element size) (Some (s.Braced token items comma)) = (is_scalar element ≡ true) × (items_in items ≤ size)
Takes of (Some (s.Braced token items comma)) = ⊥

-- the type that an initialiser completes: one that was known whole stays as it is
pub record Completed (of u : TypeTree) (x : InitialTree) : Type 0 where
  pub takes : Takes u (Some x)
  pub kept : (structs : List StructType) → is_complete structs of ≡ true → u ≡ of

-- an array gets room for what it is initialised with
record Roomy (element : TypeTree) (size n : ℕ) (u : TypeTree) : Type 0 where
  long : ℕ
  is : t.Array element long ≡ u
  enough : n ≤ long
  kept : (size == 0) ≡ false → long ≡ size

-- it has as many cells as it was declared with, or as many as it takes
room_by : (b c : Bool) (element : TypeTree) (size n most : ℕ) (u : TypeTree) → (size == 0) ≡ b → (c ≡ true → most ≤ size) → most ≤ n → (b || c) ≡ true
    → t.Array element (if b then n else size) ≡ u → Roomy element size most u
room_by true c element size n most u e f l h k = record { long = n; is = k; enough = l; kept = λ q. absurd (false≢true (sym q ∙ e)) }
room_by false true element size n most u e f l h k = record { long = size; is = k; enough = f refl; kept = λ q. refl }
room_by false false element size n most u e f l h k = absurd (false≢true h)

-- an array that is known whole has a length
some_long : (structs : List StructType) (element : TypeTree) (size : ℕ) → is_complete structs (t.Array element size) ≡ true → (size == 0) ≡ false
some_long structs element size h = let some = (and_parts (nat_lt 0 size) (is_complete structs element) h).0 in grind (arith, nat_tests, some)

-- one of two conditions gives something
if_some : (b : Bool) (of u : TypeTree) → (if b then Some of else None) ≡ Some u → (b ≡ true) × (of ≡ u)
if_some true of u h = (refl, same_Some of u h)
if_some false of u h = absurd (cc)

-- a scalar takes one value
scalar_takes : (u : TypeTree) (value : ExprTree) → is_scalar u ≡ true → Takes u (Some (s.Value value))
scalar_takes (t.Array element size) value h = absurd (false≢true h)
scalar_takes u value h = h

-- three conditions that hold together
three : (p q r : Bool) → (p && q && r) ≡ true → (p ≡ true) × (r ≡ true)
three true true r h = (refl, h)
three true false r h = absurd (false≢true h)
three false q r h = absurd (false≢true h)

-- the value of a scalar
expressed_completes : (of u : TypeTree) (value : ExprTree) (a : Operand) → (if is_scalar_initialiser true of value a then Some of else None) ≡ Some u
    → (is_constant value ≡ true) × Completed of u (s.Value value)
expressed_completes of u value a h =
    let k = if_some (is_scalar_initialiser true of value a) of u h in
    let parts = three (is_scalar of) (is_assignable of a) (is_constant value) k.0 in (
      parts.1,
      record { takes = subst (λ v. Takes v (Some (s.Value value))) k.1 (scalar_takes of value parts.0); kept = λ structs c. sym k.1 },
    )

-- a string that initialises an array of characters
spelled_completes : (size token : ℕ) (parts : List (List ℕ)) (u : TypeTree)
    → (if (size == 0) || nat_le (string_cells parts) (size + 1) then Some (t.Array t.Char (if size == 0 then string_cells parts else size)) else None) ≡ Some u
    → Completed (t.Array t.Char size) u (s.Value (e.Strings token parts))
spelled_completes size token parts u h =
    let k = if_some ((size == 0) || nat_le (string_cells parts) (size + 1)) (t.Array t.Char (if size == 0 then string_cells parts else size)) u h in
    let room : Roomy t.Char size (sum_by length parts) u =
    room_by (size == 0) (nat_le (string_cells parts) (size + 1)) t.Char size (string_cells parts) (sum_by length parts) u refl
    (λ q. omega (arith, leb-true (string_cells parts) (size + 1) q)) (omega arith) k.0 k.1 in
    record {
      takes = subst (λ v. Takes v (Some (s.Value (e.Strings token parts)))) room.is (refl, room.enough);
      kept = λ structs c. sym room.is ∙ ap (t.Array t.Char) (room.kept (some_long structs t.Char size c));
    }

-- a string
string_completes : (of u : TypeTree) (token : ℕ) (parts : List (List ℕ)) (a : Operand)
    → type_by_expression true of (e.Strings token parts) a (Some (string_cells parts)) ≡ Some u
    → (is_constant (e.Strings token parts) ≡ true) × Completed of u (s.Value (e.Strings token parts))
string_completes (t.Array t.Char size) u token parts a h = (refl, spelled_completes size token parts u h)
string_completes t.Void u token parts a h = expressed_completes t.Void u (e.Strings token parts) a h
string_completes t.Char u token parts a h = expressed_completes t.Char u (e.Strings token parts) a h
string_completes t.Int u token parts a h = expressed_completes t.Int u (e.Strings token parts) a h
string_completes t.Unsigned u token parts a h = expressed_completes t.Unsigned u (e.Strings token parts) a h
string_completes (t.Pointer to) u token parts a h = expressed_completes (t.Pointer to) u (e.Strings token parts) a h
string_completes (t.Struct tag) u token parts a h = expressed_completes (t.Struct tag) u (e.Strings token parts) a h
string_completes of u token parts a h = absurd (cc)

-- one expression
value_completes : (of u : TypeTree) (value : ExprTree) (a : Operand) → type_by_expression true of value a (cells_of_string value) ≡ Some u
    → (is_constant value ≡ true) × Completed of u (s.Value value)
value_completes of u (e.Strings token parts) a h = string_completes of u token parts a h
value_completes of u value a h = expressed_completes of u value a h

-- a braced list that initialises an array
array_completes : (element u : TypeTree) (size token : ℕ) (items : ExprList) (comma : Bool) (own : List Operand) → length own ≡ items_in items
    → listed_type true items own (t.Array element size) ≡ Some u → AllConstant items × Completed (t.Array element size) u (s.Braced token items comma)
array_completes element u size token items comma own n h =
    let k = if_some (is_scalar element && (((size == 0) || nat_le (length own) size) && all_initialise true element items own))
    (t.Array element (if size == 0 then length own else size)) u h in
    let parts = and_parts (is_scalar element) (((size == 0) || nat_le (length own) size) && all_initialise true element items own) k.0 in
    let more = and_parts ((size == 0) || nat_le (length own) size) (all_initialise true element items own) parts.1 in
    let room : Roomy element size (items_in items) u =
    room_by (size == 0) (nat_le (length own) size) element size (length own) (items_in items) u refl
    (λ q. omega (arith, n, leb-true (length own) size q)) (omega (arith, n)) more.0 k.1 in (
      all_constant element items own more.1,
      record {
        takes = subst (λ v. Takes v (Some (s.Braced token items comma))) room.is (parts.0, room.enough);
        kept = λ structs c. sym room.is ∙ ap (t.Array element) (room.kept (some_long structs element size c));
      },
    )

-- a braced list
list_completes : (of u : TypeTree) (token : ℕ) (items : ExprList) (comma : Bool) (own : List Operand) → length own ≡ items_in items
    → listed_type true items own of ≡ Some u → AllConstant items × Completed of u (s.Braced token items comma)
list_completes (t.Array element size) u token items comma own n h = array_completes element u size token items comma own n h
list_completes of u token items comma own n h = absurd (cc)

-- the walk

-- no variable is noted
abbrev pub Unnoted : Walk → Walk → Type 0
Unnoted w v = v.variables_at ≡ w.variables_at

-- a construct that is looked at notes no variable
looked_unnoted : (token : ℕ) (l : OperandOrFault) (w : Walk) → Gives (λ _ v. Unnoted w v) (operand_noted token l w)
looked_unnoted token (Ok x) w = refl
looked_unnoted token (Err kind) w = tt

-- nor does a `-` before a number
minus_unnoted : (token : ℕ) (o : PrefixOperator) (operand : ExprTree) (w : Walk) → is_number operand ≡ true
    → Gives (λ _ v. Unnoted w v) (walk_expr (e.Prefix token o operand) w)
minus_unnoted token o (e.Constant at kind value) w h = looked_unnoted token _ _
minus_unnoted token o operand w h = absurd (false≢true h)

-- nor does any constant
constant_unnoted : (x : ExprTree) (w : Walk) → is_constant x ≡ true → Gives (λ _ v. Unnoted w v) (walk_expr x w)
constant_unnoted (e.Constant token kind value) w h = refl
constant_unnoted (e.Strings token parts) w h = refl
constant_unnoted (e.Null token) w h = refl
constant_unnoted (e.Prefix token o operand) w h = minus_unnoted token o operand w (and_parts (is_minus o) (is_number operand) h).1
constant_unnoted x w h = absurd (false≢true h)

-- what holds under a condition
if_so : {A : Type 0} (b : Bool) (Q : A → Walk → Type 0) (r : Walked A) → (b ≡ true → Gives Q r) → Gives (λ a v. b ≡ true → Q a v) r
if_so b Q (Fine a v) h = h
if_so b Q (Faulty kind token) h = tt

-- several expressions: as many operands as expressions, and where they are constants no variable is noted
abbrev Several : ExprList → List Operand → Walk → List Operand → Walk → Type 0
Several xs before w all v = (AllConstant xs → Unnoted w v) × (length all ≡ length before + items_in xs)

-- they are walked through from the left
several : (xs : ExprList) (before : List Operand) (w : Walk) → Gives (Several xs before w) (walk_exprs xs before w)
several e.no_exprs before w = (λ k. refl, omega arith)
several (e.more_exprs x rest) before w =
    gives_then (λ _ v. is_constant x ≡ true → Unnoted w v) (Several (e.more_exprs x rest) before w) (walk_expr x w) _
    (if_so (is_constant x) (λ _ v. Unnoted w v) (walk_expr x w) (constant_unnoted x w))
    (λ y v h. gives_more (Several rest (before ++ y ∷ []) v) (Several (e.more_exprs x rest) before w) (walk_exprs rest (before ++ y ∷ []) v)
    (λ all u k. (λ c. k.0 c.1 ∙ h c.0, omega (arith, k.1, length-append before (y ∷ [])))) (several rest (before ++ y ∷ []) v))

-- the initialiser of a global, which completes its type
pub record Initial (of : TypeTree) (x : Option InitialTree) (w : Walk) (u : TypeTree) (v : Walk) : Type 0 where
  pub takes : Takes u x
  pub kept : (structs : List StructType) → is_complete structs of ≡ true → u ≡ of
  pub unnoted : Unnoted w v

-- an initialiser that isn't refused
completed_by : (Q : TypeTree → Walk → Type 0) (token : ℕ) (o : Option TypeTree) (v : Walk) → ((u : TypeTree) → o ≡ Some u → Q u v)
    → Gives Q (type_or_fault token o v)
completed_by Q token None v h = tt
completed_by Q token (Some u) v h = h u refl

-- what the walk through an initialiser of a global comes to
pub initial_is : (of : TypeTree) (x : Option InitialTree) (w : Walk) → Gives (Initial of x w) (walk_initial true of x w)
initial_is of None w = record { takes = tt; kept = λ structs c. refl; unnoted = refl }
initial_is of (Some (s.Value value)) w =
    gives_then (λ _ v. is_constant value ≡ true → Unnoted w v) (Initial of (Some (s.Value value)) w) (walk_expr value w) _
    (if_so (is_constant value) (λ _ v. Unnoted w v) (walk_expr value w) (constant_unnoted value w))
    (λ a v h. completed_by (Initial of (Some (s.Value value)) w) (first_token value) (type_by_expression true of value a (cells_of_string value)) v
    (λ u q.
    let k = value_completes of u value a q in
    record { takes = k.1.takes; kept = k.1.kept; unnoted = h k.0 }))
initial_is of (Some (s.Braced token items comma)) w =
    gives_then (Several items [] w) (Initial of (Some (s.Braced token items comma)) w) (walk_exprs items [] w) _ (several items [] w)
    (λ own v h. completed_by (Initial of (Some (s.Braced token items comma)) w) token (listed_type true items own of) v
    (λ u q.
    let k = list_completes of u token items comma own (h.1 ∙ omega arith) q in
    record { takes = k.1.takes; kept = k.1.kept; unnoted = h.0 k.0 }))
