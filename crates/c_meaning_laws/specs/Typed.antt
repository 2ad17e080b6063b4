-- What the facts at the tokens of an expression owe one another where the expression has no fault, and which sites fit it. It says nothing of
-- names, scopes, structs or C's types: only of what they come to.
use Rattle.std.specs.Prelude.{◌≡◌, ◌<◌, ℕ, Bool, true, false, IsTrue, IsSome, List, [], ◌∷◌, Option, Some, None}
use Rattle.cbi_base.specs.declared.operators.Binary.TheVariants as op
use Rattle.cbi_base.specs.declared.scalar.Kind.TheVariants.{Int, Unsigned}
use Rattle.c_types_rules.specs.declared.library.Library.{Library}
use Rattle.c_types_rules.specs.declared.library.Library.TheVariants as library
use Rattle.c_syntax.specs.declared.expr.PrefixOperator.{PrefixOperator}
use Rattle.c_syntax.specs.declared.expr.PrefixOperator.TheVariants as prefix
use Rattle.c_syntax.specs.ExprTree as e
use Rattle.c_syntax.specs.ExprTree.{ExprTree, ExprList, LinkList, PostfixList}
use Rattle.c_types_expressions.specs.ExprWalk.{binary_of}
use Rattle.flow.specs.declared.site.Site.{Site}
use Rattle.flow.specs.declared.site.SiteKind.{SiteKind}
use Rattle.flow.specs.declared.site.SiteKind.TheVariants.{Pair}
use Rattle.flow.specs.declared.site.Slot.{Slot}
use Rattle.flow.specs.declared.site.Slot.TheVariants as slot
use Rattle.c_meaning.specs.declared.value_type.Called.{Called}
use Rattle.c_meaning.specs.declared.value_type.Called.TheVariants as called
use Rattle.c_meaning.specs.declared.value_type.ValueType.{ValueType}
use Rattle.c_meaning.specs.declared.value_type.ValueType.TheVariants as type
use Rattle.c_meaning.specs.Words.{as_used, is_null_as, Facts, Signature, Sites, operation, assignment_of_sign, begins_null, called_as, is_place, joint_of_sign}
use Rattle.c_meaning.specs.Words.{one_kind}
use Rattle.c_meaning.specs.Words.{operand_type, step_of, token_of, type_of}
use Rattle.c_meaning_laws.specs.Rules.{Accepts, Arm, Assigns, Casts, Changes, IsNumberType, OperatorsEnd}
use Rattle.c_meaning_laws.specs.Rules.{IsObject, IsPointer, IsPointing, IsPromoted, IsValue, Joins, Moves, type_beside}

-- the variable that an expression names, within any parentheses
abbrev pub variable_named : Facts → ExprTree → Option Slot
variable_named facts (e.Name token name) = facts.slot_at token
variable_named facts (e.Paren token inner) = variable_named facts inner
variable_named facts x = None

abbrev pub IsTarget : Slot → SiteKind → Type 0
IsTarget s (Pair name target partner) = target ≡ s
IsTarget s kind = ⊥

-- the site looks at this variable
abbrev pub LooksAt : Slot → Option Site → Type 0
LooksAt s None = ⊥
LooksAt s (Some site) = IsTarget s site.kind

abbrev pub AllLookAt : Sites → Slot → List ℕ → Type 0
AllLookAt sites s [] = Unit {0}
AllLookAt sites s (number ∷ more) = LooksAt s (sites.site number) × AllLookAt sites s more

-- where a value of this type is assigned to this variable, or to no variable, these sites may stand
abbrev pub PairsFit : Sites → Option Slot → Option ValueType → List ℕ → Type 0
PairsFit sites s t [] = Unit {0}
PairsFit sites None t (number ∷ more) = ⊥
PairsFit sites (Some s) t (number ∷ more) = IsNumberType t × AllLookAt sites s (number ∷ more)

-- `++` and `--` at the token change a variable, or another place, of this type
abbrev pub Steps : Facts → Sites → Bool → ℕ → Option Slot → Option ValueType → Type 0
Steps facts sites is_up token s of = Changes (operation (step_of is_up) of (Some (type.Number (one_kind of)))) of (Some (type.Number (one_kind of)))
    × PairsFit sites s of (sites.pairs_at token) × (facts.type_at token ≡ of)

-- the function takes such arguments, and gives a value of this type
abbrev pub CallsFunction : Option Signature → (List ValueType → Type 0) → Option ValueType → Type 0
CallsFunction None Arguments t = ⊥
CallsFunction (Some f) Arguments t = Arguments f.params × (t ≡ Some f.result)

-- the same of a function of the library: `printf` gives no value that is used
abbrev pub CallsLibrary : Library → (List ValueType → Type 0) → Type 0 → Option ValueType → Type 0
CallsLibrary library.Getchar Arguments One t = Arguments [] × (t ≡ Some (type.Number Int))
CallsLibrary library.Putchar Arguments One t = Arguments (type.Number Int ∷ []) × (t ≡ Some (type.Number Int))
CallsLibrary library.Puts Arguments One t = Arguments (type.Pointer 1 ∷ []) × (t ≡ Some (type.Number Int))
CallsLibrary library.Malloc Arguments One t = Arguments (type.Number Unsigned ∷ []) × IsPointer t
CallsLibrary library.Free Arguments One t = Arguments (type.Pointer 0 ∷ []) × (t ≡ Some type.Void)
CallsLibrary library.Exit Arguments One t = Arguments (type.Number Int ∷ []) × (t ≡ Some type.Void)
CallsLibrary library.Abort Arguments One t = Arguments [] × (t ≡ Some type.Void)
CallsLibrary library.Assert Arguments One t = One × (t ≡ Some type.Void)
CallsLibrary library.Printf Arguments One t = ⊥

module _ (facts : Facts) (sites : Sites) (count : ℕ) where
  -- a variable of the running function, which has so many, or a global
  abbrev pub HasSlot : Option Slot → Type 0
  HasSlot None = ⊥
  HasSlot (Some (slot.Local index)) = index < count
  HasSlot (Some (slot.Global index)) = Unit {0}

  -- an operator before the operand gives a value, or leads to a place, of this type
  abbrev pub Prefixes : ℕ → PrefixOperator → ExprTree → Option ValueType → Option ValueType → Type 0
  Prefixes token prefix.Increment x of t = IsTrue (is_place x) × Steps facts sites true token (variable_named facts x) of
  Prefixes token prefix.Decrement x of t = IsTrue (is_place x) × Steps facts sites false token (variable_named facts x) of
  Prefixes token prefix.Address x of t = IsTrue (is_place x) × IsPointing t
  Prefixes token prefix.Indirection x of t = IsPointing of × IsObject t
  Prefixes token prefix.Plus x of t = IsNumberType of × IsNumberType t
  Prefixes token prefix.Minus x of t = IsNumberType of × IsPromoted t
  Prefixes token prefix.Complement x of t = IsNumberType of × IsPromoted t
  Prefixes token prefix.Not x of t = IsValue of × (t ≡ Some (type.Number Int))
  Prefixes token prefix.SizeOf x of t = IsSome (facts.cells_at (token_of x)) × (t ≡ Some (type.Number Unsigned))

  -- the call gives a value of this type
  abbrev pub TypedCall : Called → (List ValueType → Type 0) → Type 0 → Option ValueType → Type 0
  TypedCall (called.Function number) Arguments One t = CallsFunction (facts.signature number) Arguments t
  TypedCall (called.Library function) Arguments One t = CallsLibrary function Arguments One t
  TypedCall called.Unknown Arguments One t = ⊥

  abbrev mutual
    pub Typed : ExprTree → Type 0
    Typed (e.Comma token operands) = TypedLast (facts.type_at token) operands
    Typed (e.Assign token sign target value) = Typed target × Typed value × IsTrue (is_place target)
        × Assigns facts (assignment_of_sign sign) (type_of facts target) value × (facts.type_at token ≡ type_of facts target)
        × PairsFit sites (variable_named facts target) (type_of facts target) (sites.pairs_at token)
    Typed (e.Conditional token condition first second) = Typed condition × Typed first × Typed second
        × IsValue (type_of facts condition) × Arm facts (facts.type_at token) first × Arm facts (facts.type_at token) second
    Typed (e.Chain level first links) = Typed first × IsValue (type_of facts first)
        × TypedLinks (operand_type (begins_null facts first links) (type_of facts first)) links
    Typed (e.Cast token base stars operand) = Typed operand × Casts (is_null_as (facts.type_at token) operand) (facts.type_at token) (type_of facts operand)
    Typed (e.Prefix token operator operand) = Typed operand × Prefixes token operator operand (type_of facts operand) (facts.type_at token)
    Typed (e.SizeOfType token base stars) = IsSome (facts.named_cells base stars) × (facts.type_at token ≡ Some (type.Number Unsigned))
    Typed (e.Postfix primary operators) = Typed primary × TypedPostfix (is_place primary) (variable_named facts primary) (type_of facts primary) operators
    Typed (e.Name token name) = IsObject (facts.type_at token) × HasSlot (facts.slot_at token)
    Typed (e.Call token name arguments) =
        TypedCall (called_as (facts.function_at token) name) (λ types. TypedArguments types arguments) (TypedLone arguments) (facts.type_at token)
    Typed (e.Constant token kind value) = facts.type_at token ≡ Some (type.Number kind)
    Typed (e.Strings token parts) = IsSome (facts.text_at token) × IsPointing (facts.type_at token)
    Typed (e.Paren token inner) = Typed inner × (facts.type_at token ≡ type_of facts inner)
    Typed (e.Null token) = IsPointer (facts.type_at token)
    Typed (e.EndOfFile token) = facts.type_at token ≡ Some (type.Number Int)

    -- operands of a comma: the last one has this type, where its value is used
    pub TypedLast : Option ValueType → ExprList → Type 0
    TypedLast t e.no_exprs = ⊥
    TypedLast t (e.more_exprs x e.no_exprs) = Typed x × (t ≡ as_used (type_of facts x))
    TypedLast t (e.more_exprs x (e.more_exprs y rest)) = Typed x × TypedLast t (e.more_exprs y rest)

    -- operators of a chain behind a value of this type
    pub TypedLinks : Option ValueType → LinkList → Type 0
    TypedLinks left e.no_links = Unit {0}
    TypedLinks left (e.more_links token sign operand rest) = Typed operand × IsValue (type_of facts operand)
        × Joins (joint_of_sign sign) left (type_beside facts (binary_of sign) left operand) (facts.type_at token) × TypedLinks (facts.type_at token) rest

    -- operators behind a place, or a value, of this type, which may be a variable
    pub TypedPostfix : Bool → Option Slot → Option ValueType → PostfixList → Type 0
    TypedPostfix known s of e.no_postfix = OperatorsEnd known of
    TypedPostfix known s of (e.index token i rest) = Typed i
        × Moves (operation op.Add of (type_of facts i)) of (type_of facts i) × TypedPostfix true None (facts.type_at token) rest
    TypedPostfix known s of (e.member token name rest) = IsTrue known × IsSome (facts.offset_at token) × TypedPostfix true None (facts.type_at token) rest
    TypedPostfix known s of (e.arrow token name rest) = IsPointing of × IsSome (facts.offset_at token) × TypedPostfix true None (facts.type_at token) rest
    TypedPostfix known s of (e.increment token rest) = IsTrue known × Steps facts sites true token s of × TypedPostfix false None (facts.type_at token) rest
    TypedPostfix known s of (e.decrement token rest) = IsTrue known × Steps facts sites false token s of × TypedPostfix false None (facts.type_at token) rest

    -- one argument for each of these types
    pub TypedArguments : List ValueType → ExprList → Type 0
    TypedArguments [] e.no_exprs = Unit {0}
    TypedArguments [] (e.more_exprs x rest) = ⊥
    TypedArguments (t ∷ types) e.no_exprs = ⊥
    TypedArguments (t ∷ types) (e.more_exprs x rest) = Typed x × Accepts facts (Some t) x × TypedArguments types rest

    -- one argument, of any type whose values can be used
    pub TypedLone : ExprList → Type 0
    TypedLone e.no_exprs = ⊥
    TypedLone (e.more_exprs x e.no_exprs) = Typed x × IsValue (type_of facts x)
    TypedLone (e.more_exprs x (e.more_exprs y rest)) = ⊥
